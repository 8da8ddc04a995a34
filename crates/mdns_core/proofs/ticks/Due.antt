-- The next moment at which something is due: the first, from now on, at which a held record ends, or a question or a group is due.
use Rattle.std.proofs.Common.{◌≡◌, ℕ, ◌<◌, ◌≤◌, max, Bool, true, false, not, ◌&&◌, ◌||◌, List, [], ◌∷◌, ◌++◌, map, refl, ap, ◌∙◌, sym, subst, arith}
use Rattle.std.proofs.lemmas.List.Sorted.{list_any-IsPermutation}
use Rattle.std.proofs.lemmas.List.Folds.{list_all-append}
use Rattle.std.specs.Prelude.{filter, nat_lt}
use Rattle.std.specs.List.{list_any, list_all}
use Rattle.std.specs.List.Sorted.{IsPermutation}
use Rattle.std.specs.Option.{option_map}
use Rattle.lists.specs.Lists.{least, least_of}
use Rattle.mdns_history.specs.declared.held.Held.{Held}
use Rattle.mdns_history.specs.declared.entry.Entry.{Entry}
use Rattle.mdns_history.specs.History.{now}
use Rattle.mdns_history.specs.Hearings.{hearings}
use Rattle.mdns_history.specs.Lifetimes.{is_live_at, live_records}
use Rattle.mdns_history.specs.Asking.{tick_askings}
use Rattle.mdns_history.specs.Due.{is_nothing, ends_none, is_idle, NextDue}
use Rattle.mdns_history.proofs.LifetimeSteps.{live_of-later}
use Rattle.lists.proofs.Permutations.{IsPermutation-filter}
use Rattle.mdns_question.specs.declared.tracked.Tracked.{Tracked}
use Rattle.mdns_question.specs.Tracking.{due_at}
use Rattle.mdns_question.specs.Next.{next_of}
use Rattle.mdns_question.specs.Standing as asking
use Rattle.mdns_question.proofs.Following.{due_follows}
use Rattle.mdns_core.specs.InForce.{in_force}
use Rattle.mdns_asking.specs.State.{asker_of}
use Rattle.mdns_asking.proofs.Waiting.{below_least, quiet_before}

all_any : {X : Type 0} (p : X → Bool) (hs : List X) → list_all p hs ≡ not (list_any (λ h. not (p h)) hs)
all_any p [] = refl
all_any p (h ∷ hs) = of (p h) (all_any p hs)
  where
    of : (b : Bool) → list_all p hs ≡ not (list_any (λ x. not (p x)) hs) → (b && list_all p hs) ≡ not (not b || list_any (λ x. not (p x)) hs)
    of true e = e
    of false e = refl

pub list_all-IsPermutation : {X : Type 0} (p : X → Bool) (xs ys : List X) → IsPermutation xs ys → list_all p xs ≡ list_all p ys
list_all-IsPermutation p xs ys moved = all_any p xs ∙ ap not (list_any-IsPermutation (λ h. not (p h)) xs ys moved) ∙ sym (all_any p ys)

is_nothing-map : {X Y : Type 0} (f : X → Y) (xs : List X) → is_nothing (map f xs) ≡ is_nothing xs
is_nothing-map f [] = refl
is_nothing-map f (x ∷ xs) = refl

-- Where a tick is idle exactly below each of several numbers, the next moment that is due is the least of them, or now where that is past.
least-due : (past : List Entry) (ns : List ℕ) → ((t : ℕ) → now past ≤ t → is_idle in_force past t ≡ list_all (nat_lt t) ns) → NextDue in_force past (option_map (max (now past)) (least ns))
least-due past [] idle = idle
least-due past (n ∷ ns) idle =
    record {
      from_now = omega arith;
      busy = idle_below (max (now past) m) (omega arith) ∙ (let reached : nat_lt (max (now past) m) m ≡ false = grind arith in reached);
      first = λ earlier later before. idle_below earlier later ∙ (let below : earlier < m = omega arith in let under : nat_lt earlier m ≡ true = grind arith in under);
    }
  where
    m : ℕ
    m = least_of n ns

    idle_below : (t : ℕ) → now past ≤ t → is_idle in_force past t ≡ nat_lt t m
    idle_below t later = idle t later ∙ below_least t n ns

-- A tick at a moment is idle where it ends no record, asks no question and comes before these moments.
module _ (past : List Entry) (waits : List ℕ) (idle : (t : ℕ) → now past ≤ t → is_idle in_force past t ≡ ((ends_none past t && is_nothing (tick_askings past t)) && list_all (nat_lt t) waits))
    (questions : List Tracked) (held : List Held) (stands : asking.Stands (asker_of questions held) past) (records : IsPermutation held (live_records past (now past))) where
  live_later : (moment : ℕ) → now past ≤ moment → IsPermutation (filter (is_live_at moment) held) (live_records past moment)
  unfolding live_records
  live_later moment later =
      subst (λ (live : List Held). IsPermutation (filter (is_live_at moment) held) live) (sym (live_of-later (hearings past) (now past) moment later))
      (IsPermutation-filter (is_live_at moment) held (live_records past (now past)) records)

  asks_none : (moment : ℕ) → now past ≤ moment → is_nothing (tick_askings past moment) ≡ is_nothing (due_at (asker_of questions held) moment)
  asks_none moment later =
      ap is_nothing (sym (due_follows (asker_of questions held) past moment stands (live_later moment later)))
      ∙ is_nothing-map asking.mark_of (due_at (asker_of questions held) moment)

  -- A tick is idle where no held record has ended, no question is due, and it comes before these moments.
  is_idle-held : (moment : ℕ) → now past ≤ moment →
      is_idle in_force past moment ≡ ((list_all (is_live_at moment) held && is_nothing (due_at (asker_of questions held) moment)) && list_all (nat_lt moment) waits)
  is_idle-held moment later =
      idle moment later
      ∙ (λ i. (sym (list_all-IsPermutation (is_live_at moment) held (live_records past (now past)) records) i && asks_none moment later i) && list_all (nat_lt moment) waits)

  -- The next moment that is due is the least of the ends of the held records, the first moments of the questions and these, or now where that is past.
  pub due-held : NextDue in_force past (option_map (max (now past)) (least (map (λ one. one.end) held ++ map (next_of held) questions ++ waits)))
  due-held =
      least-due past (ends ++ nexts ++ waits) (λ t later.
      is_idle-held t later
      ∙ ap (λ b. b && list_all (nat_lt t) waits) (quiet_before questions held t)
      ∙ sym (list_all-append (nat_lt t) (ends ++ nexts) waits))
    where
      ends : List ℕ
      ends = map (λ one. one.end) held

      nexts : List ℕ
      nexts = map (next_of held) questions
