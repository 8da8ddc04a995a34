-- How far a script has run, and what that says where it ends or stops.
use Rattle.std.proofs.Common.{◌≡◌, ℕ, ◌+◌, ◌++◌, ◌∙◌, length, List, [], ◌∷◌, Option, Some, None, Result, Ok, Err, refl, sym, ap, subst, arith, append_assoc, append-nil, length-append}
use Rattle.std.proofs.Common.{inl, inr, take}
use Rattle.std.specs.Result.{OnOk}
use Rattle.std.specs.Io.KnownBytes.{Appends}
use Rattle.std.proofs.KnownBytes.{Appends-nil, Appends-trans}
use Rattle.mdns_script.specs.Lines.{line_of}
use Rattle.mdns_script.specs.declared.command.Line.{Line}
use Rattle.mdns_script.specs.declared.command.Line.TheVariants.{Bad, Command as CommandLine}
use Rattle.mdns_history.specs.declared.entry.Entry.{Entry}
use Rattle.mdns_core.specs.InForce.{in_force}
use Rattle.mdns_history.specs.Fitting.{IsLegal}
use Rattle.mdns_history.specs.Replays.{IsReplayed, IsQueued}
use Rattle.mdns_history.specs.Calls.{GoodCallsSucceed}
use Rattle.mdns_asserts.specs.Earned.{AssertionsAreEarned}
use Rattle.mdns_groups.specs.Registered.{HaveGroups, GroupsAreFew}
use Rattle.mdns_hub.specs.declared.hub.Hub.{Hub}
use Rattle.mdns_hub.specs.declared.daemons.Booted.{Booted}
use Rattle.mdns_hub.specs.Played.{Played, start, history_of, transcript}
use Rattle.mdns_hub.specs.Slots.{slot_at}
use Rattle.mdns_hub.specs.Hubs.{StandsFor, SlotStands, BreaksIn}
use Rattle.mdns_hub.proofs.Written.{part_nothing, part_then}
use Rattle.mdns_play.specs.declared.stop.Stop.{Stop}
use Rattle.mdns_play.specs.declared.stop.Stop.TheVariants as stop
use Rattle.mdns_play.specs.Stops.{status_of}
use Rattle.mdns_play.specs.Scripts.{lines_of, PlaysLine, PlaysAll, note_text}
use Rattle.mdns_play.specs.Histories.{AreServedThroughout, CallsSucceedThroughout, AreEarnedThroughout, HaveGroupsThroughout}
use Rattle.mdns_play.specs.Statuses.{PlaysScript, Stops, IsBadLine, PlaysPartOfLine, MayPrint, BreaksOff}
use Rattle.mdns_play.proofs.Lawful.{are_served, calls_succeed, are_earned, have_groups}
use Rattle.mdns_play.specs.Lines.{RanLine, StopsAt, BreaksAt, TakesLine}

-- The lines before the rest of a script were played, and their entries were put.
pub record Ran (script rest : List ℕ) (number : ℕ) (hub : Hub) (old new : Option (List ℕ)) : Type 0 where
  pub done : List (List ℕ)
  pub played : Played
  pub stands : StandsFor hub played
  pub plays : PlaysAll start done played
  pub lines : lines_of script ≡ done ++ lines_of rest
  pub count : number ≡ length done + 1
  pub gains : Appends old new (transcript played)

pub ran_start : (script : List ℕ) (hub : Hub) (o : Option (List ℕ)) → StandsFor hub start → Ran script script 1 hub o o
ran_start script hub o stands = record { done = []; played = start; stands = stands; plays = refl; lines = refl; count = refl; gains = Appends-nil o }

plays_push : (first between last : Played) (done : List (List ℕ)) (line : List ℕ) → PlaysAll first done between → PlaysLine (line_of line) between last → PlaysAll first (done ++ line ∷ []) last
plays_push first between last [] line all one = (last, subst (λ (p : Played). PlaysLine (line_of line) p last) all one, refl)
plays_push first between last (other ∷ done) line all one = (all.0, all.1, plays_push all.0 between last done line all.2 one)

pub ran_next : (script rest line after : List ℕ) (number : ℕ) (before next : Hub) (old mid new : Option (List ℕ)) → Ran script rest number before old mid
    → TakesLine rest line after → RanLine before line next mid new → Ran script after (number + 1) next old new
ran_next script rest line after number before next old mid new ran takes one =
    let o = one ran.played ran.stands in
    record {
      done = ran.done ++ line ∷ [];
      played = o.0;
      stands = o.2;
      plays = plays_push start ran.played o.0 ran.done line ran.plays o.1;
      lines = ran.lines ∙ ap (λ (l : List (List ℕ)). ran.done ++ l) takes.lines ∙ sym (append_assoc ran.done (line ∷ []) (lines_of after));
      count = omega (arith, ran.count, length-append ran.done (line ∷ []));
      gains = subst (λ (text : List ℕ). Appends old new text) (sym o.3.1) (Appends-trans old mid new (transcript ran.played) o.3.0 ran.gains o.3.2);
    }

-- what holds of every legal history, and of none, holds of each that a hub stands for
legal_or_none : (P : List Entry → Type 0) (hub : Hub) (played : Played) → StandsFor hub played → P [] → ((history : List Entry) → IsLegal in_force history → P history) → (daemon : ℕ) → P (history_of daemon played.told)
legal_or_none P hub played stands none holds daemon = at_slot (slot_at hub.daemons.slots.items daemon) (history_of daemon played.told) (stands.slots daemon)
  where
    at_slot : (slot : Option Booted) (history : List Entry) → SlotStands slot history → P history
    at_slot None history h = subst P (sym h) none
    at_slot (Some booted) history h = holds history h.0.legal

pub ran_whole : (script rest : List ℕ) (number : ℕ) (hub : Hub) (old new : Option (List ℕ)) → IsReplayed → IsQueued → GoodCallsSucceed → AssertionsAreEarned → HaveGroups → GroupsAreFew
    → Ran script rest number hub old new → lines_of rest ≡ [] → PlaysScript script old new
ran_whole script rest number hub old new replayed queued succeed earned registered few ran none = record {
  played = ran.played;
  plays = subst (λ (l : List (List ℕ)). PlaysAll start l ran.played) (sym (ran.lines ∙ ap (λ (l : List (List ℕ)). ran.done ++ l) none ∙ append-nil ran.done)) ran.plays;
  gains = ran.gains;
  replays = legal_or_none (λ history. AreServedThroughout history) hub ran.played ran.stands tt (are_served replayed queued);
  calls = legal_or_none (λ history. CallsSucceedThroughout history) hub ran.played ran.stands tt (calls_succeed succeed);
  asserts = legal_or_none (λ history. AreEarnedThroughout history) hub ran.played ran.stands tt (are_earned earned);
  groups = legal_or_none (λ history. HaveGroupsThroughout history) hub ran.played ran.stands tt (have_groups registered few);
}

pub ran_stops : (script rest line after : List ℕ) (number : ℕ) (hub : Hub) (old mid new : Option (List ℕ))
    → Ran script rest number hub old mid → TakesLine rest line after → StopsAt hub line number mid new → Stops script old new
ran_stops script rest line after number hub old mid new ran takes stops =
    let s = stops ran.played ran.stands in
    record {
      done = ran.done;
      line = line;
      more = lines_of after;
      lines = ran.lines ∙ ap (λ (l : List (List ℕ)). ran.done ++ l) takes.lines;
      played = ran.played;
      plays = ran.plays;
      cause = s.0;
      gains = subst (λ (n : ℕ). Appends old new (transcript ran.played ++ note_text n)) ran.count
          (Appends-trans old mid new (transcript ran.played) (note_text number) ran.gains s.1);
    }

pub ran_breaks : (script rest line after : List ℕ) (number : ℕ) (hub : Hub) (old mid new : Option (List ℕ)) → Ran script rest number hub old mid → TakesLine rest line after
    → BreaksAt hub line number mid new → BreaksOff script old new
ran_breaks script rest line after number hub old mid new ran takes breaks =
    let b = breaks ran.played ran.stands in
    record {
      whole = b.0;
      printable = record {
        done = ran.done;
        more = line ∷ lines_of after;
        lines = ran.lines ∙ ap (λ (l : List (List ℕ)). ran.done ++ l) takes.lines;
        played = ran.played;
        plays = ran.plays;
        text = subst (λ (n : ℕ). MayPrint ran.played line n b.0) ran.count b.1;
      };
      front = subst (λ (whole : List ℕ). (n : ℕ) × Appends old new (take n whole)) (sym b.2.1) (part_then old mid new (transcript ran.played) b.2.0 ran.gains b.2.2);
    }

-- One line.

-- nothing of a line is a part of it
pub part_none : (played : Played) (line : Line) → PlaysPartOfLine line played played
part_none played Bad = refl
part_none played (CommandLine command) = inl refl

pub breaks_nothing : (hub : Hub) (line : List ℕ) (o : Option (List ℕ)) → BreaksIn (PlaysPartOfLine (line_of line)) hub o o
breaks_nothing hub line o = λ played stands. (played, part_none played (line_of line), ([], sym (append-nil (transcript played)), part_nothing o o [] refl))

-- a line that was broken off as it was played
pub breaks_played : (hub : Hub) (line : List ℕ) (number : ℕ) (old new : Option (List ℕ)) → BreaksIn (PlaysPartOfLine (line_of line)) hub old new → BreaksAt hub line number old new
breaks_played hub line number old new part = λ played stands.
    let p = part played stands in
    (transcript p.0, inl (p.0, p.1, refl), p.2)

-- a line that is bad, as it was named
pub breaks_bad : (hub : Hub) (line : List ℕ) (number : ℕ) (old same new : Option (List ℕ)) → ((played : Played) → StandsFor hub played → IsBadLine played line × (same ≡ old))
    → (n : ℕ) × Appends same new (take n (note_text number)) → BreaksAt hub line number old new
breaks_bad hub line number old same new bad put = λ played stands.
    let cause = bad played stands in
    let part = subst (λ (o : Option (List ℕ)). (n : ℕ) × Appends o new (take n (note_text number))) cause.1 put in
    (transcript played ++ note_text number, inr (cause.0, refl), (note_text number, refl, part))

pub stopped : {T : Type 0} {x y : Stop} → x ≡ y → ◌≡◌ {A = Result T Stop} (Err x) (Err y)
stopped {T} e = let err : Stop → Result T Stop = λ stop. Err stop in ap err e

-- The whole run.

-- what a status says of the run of the lines

pub from_done : {T P : Type 0} (ran : Result T Stop) → OnOk ran P → status_of ran ≡ 0 → P
from_done (Ok x) p status = p
from_done (Err stop.BadLine) p status = absurd (omega arith)
from_done (Err stop.WriteFault) p status = absurd (omega arith)
from_done (Err stop.NoMemory) p status = absurd (omega arith)

pub from_bad : {T : Type 0} (ran : Result T Stop) → status_of ran ≡ 3 → ran ≡ Err stop.BadLine
from_bad (Ok x) status = absurd (omega arith)
from_bad (Err stop.BadLine) status = refl
from_bad (Err stop.WriteFault) status = absurd (omega arith)
from_bad (Err stop.NoMemory) status = absurd (omega arith)

pub from_write_fault : {T : Type 0} (ran : Result T Stop) → status_of ran ≡ 5 → ran ≡ Err stop.WriteFault
from_write_fault (Ok x) status = absurd (omega arith)
from_write_fault (Err stop.BadLine) status = absurd (omega arith)
from_write_fault (Err stop.WriteFault) status = refl
from_write_fault (Err stop.NoMemory) status = absurd (omega arith)

pub from_no_memory : {T : Type 0} (ran : Result T Stop) → status_of ran ≡ 6 → ran ≡ Err stop.NoMemory
from_no_memory (Ok x) status = absurd (omega arith)
from_no_memory (Err stop.BadLine) status = absurd (omega arith)
from_no_memory (Err stop.WriteFault) status = absurd (omega arith)
from_no_memory (Err stop.NoMemory) status = refl
