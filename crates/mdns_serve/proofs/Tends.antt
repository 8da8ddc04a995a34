-- The ticker's turns, one after the other.
use Rattle.std.proofs.Common.{◌≡◌, ◌∙◌, ℕ, List, [], ◌∷◌, ◌++◌, ap, sym, subst, Option}
use Rattle.std.proofs.lemmas.List.{append-nil, append_assoc}
use Rattle.mdns_history.specs.declared.event.Event.{Event}
use Rattle.mdns_turn.specs.History.{StartsWith, StandsAfter, turns}
use Rattle.mdns_outside.specs.Parts.{Handed}
use Rattle.mdns_serve.specs.declared.happening.Happening.{Happening}
use Rattle.mdns_serve.specs.declared.happening.Happening.TheVariants.{Entered, Missed}
use Rattle.mdns_serve.specs.declared.shared.Shared.{Shared}
use Rattle.mdns_serve.specs.Turns.{turns_of, owed}
use Rattle.mdns_serve.specs.Shares.{StandsFor, Does}
use Rattle.mdns_serve.specs.Packets.{packets_in, packets_of, HandsSome}
use Rattle.mdns_serve.specs.Reading.{IsFor}
use Rattle.mdns_serve.specs.Ticking.{Tends, TendsBy}
use Rattle.mdns_serve.specs.Tending.{AreTended, Tended, TendsOnce}
use Rattle.mdns_serve.proofs.Handing.{hands_none, hands_append}
use Rattle.mdns_serve.proofs.Calling.{packets_append, packets_one}

-- the places stay where more is seen
still_tended : (opening : Shared) (number : ℕ) (seen more : List (ℕ × Happening)) (tended : List Happening) → StartsWith more seen → AreTended opening number seen tended → AreTended opening number more tended
still_tended opening number seen more [] grown are = tt
still_tended opening number seen more (turn ∷ tended) grown are =
    let p = are.0 in
    let at = p.0 ++ (number, turn) ∷ [] in (
      (p.0, p.1, (p.2.0 ++ grown.0, grown.1 ∙ ap (λ l. l ++ grown.0) p.2.1 ∙ append_assoc at p.2.0 grown.0)),
      still_tended opening number seen more tended grown are.1,
    )

tended_append : (opening : Shared) (number : ℕ) (seen : List (ℕ × Happening)) (tended more : List Happening) → AreTended opening number seen tended → AreTended opening number seen more → AreTended opening number seen (tended ++ more)
tended_append opening number seen [] more are next = next
tended_append opening number seen (turn ∷ tended) more are next = (are.0, tended_append opening number seen tended more are.1 next)

-- no turn was taken
pub tended_none : (opening : Shared) (number : ℕ) (seen : List (ℕ × Happening)) (m : List Happening) (x : Option (List Handed)) → Tended opening number seen m m x x
tended_none opening number seen m x = record { tended = []; mine = sym (append-nil m); are = tt; air = hands_none x }

does_for : (clock word : ℕ) (event : Event) (last : ℕ) (turn : Happening) → Does clock word event last turn → IsFor event turn
does_for clock word event last (Entered entry) does = does.0
does_for clock word event last (Missed detaching) does = does

tends_of : (clock word : ℕ) (owed : List ℕ) (last : ℕ) (turn : Happening) → TendsBy clock word owed last turn → Tends owed turn
tends_of clock word owed last turn tends = (tends.0, tends.1, does_for clock word tends.0 last turn tends.2)

-- one turn was taken, at a clock's moment and with a word
pub tends_once : (clock word : ℕ) (opening before : Shared) (number : ℕ) (front seen : List (ℕ × Happening)) (turn : Happening) (m n : List Happening) (x y : Option (List Handed))
    → StandsAfter StandsFor opening front before → TendsBy clock word before.missed.items before.daemon.last turn → seen ≡ front ++ (number, turn) ∷ [] → n ≡ m ++ turn ∷ [] → HandsSome x y (packets_in turn)
    → TendsOnce clock word opening number seen m n x y
tends_once clock word opening before number front seen turn m n x y got ran is mine air = record {
  front = front;
  turn = turn;
  tends = λ past stands.
      let s = got past stands in
      subst (λ (last : ℕ). TendsBy clock word (owed (turns_of (past ++ turns front))) last turn) s.stands.last
      (subst (λ (missed : List ℕ). TendsBy clock word missed before.daemon.last turn) s.missed ran);
  last = is;
  mine = mine;
  air = subst (HandsSome x y) (sym (packets_one turn)) air;
}

-- so it is one of a ticker
pub tended_one : (clock word : ℕ) (opening : Shared) (number : ℕ) (seen : List (ℕ × Happening)) (m n : List Happening) (x y : Option (List Handed))
    → TendsOnce clock word opening number seen m n x y → Tended opening number seen m n x y
tended_one clock word opening number seen m n x y once = record {
  tended = once.turn ∷ [];
  mine = once.mine;
  are = ((once.front, (λ past stands. tends_of clock word _ _ once.turn (once.tends past stands)), ([], once.last ∙ sym (append-nil (once.front ++ (number, once.turn) ∷ [])))), tt);
  air = once.air;
}

-- turns, and further ones
pub tended_after : (opening : Shared) (number : ℕ) (seen more : List (ℕ × Happening)) (m n o : List Happening) (x y z : Option (List Handed))
    → StartsWith more seen → Tended opening number seen m n x y → Tended opening number more n o y z → Tended opening number more m o x z
tended_after opening number seen more m n o x y z grown first next = record {
  tended = first.tended ++ next.tended;
  mine = next.mine ∙ ap (λ l. l ++ next.tended) first.mine ∙ append_assoc m first.tended next.tended;
  are = tended_append opening number more first.tended next.tended (still_tended opening number seen more first.tended grown first.are) next.are;
  air = subst (HandsSome x z) (sym (packets_append first.tended next.tended)) (hands_append x y z (packets_of first.tended) (packets_of next.tended) first.air next.air);
}
