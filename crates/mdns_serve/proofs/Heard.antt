-- Packets that were received, and the turns that were made of them.
use Rattle.std.proofs.Common.{◌≡◌, ◌∙◌, ℕ, List, [], ◌∷◌, ◌++◌, take, refl, ap, sym, subst, Option, Some, None}
use Rattle.std.specs.Prelude.{MatchOption}
use Rattle.std.proofs.lemmas.List.{append-nil, append_assoc}
use Rattle.mdns_base.specs.declared.host.Host.{Host}
use Rattle.mdns_history.specs.declared.event.Event.TheVariants as event
use Rattle.mdns_outside.specs.declared.parts.Arrival.{Arrival}
use Rattle.mdns_outside.specs.Parts.{Arriving, Handed, TakesFirst, HasEnded}
use Rattle.mdns_serve.specs.declared.happening.Happening.{Happening}
use Rattle.mdns_serve.specs.declared.hearing.HearEnd.{HearEnd}
use Rattle.mdns_serve.specs.Packets.{packets_of, HandsSome}
use Rattle.mdns_serve.specs.Reading.{IsFor}
use Rattle.mdns_serve.specs.Ticking.{most_received, AreHeard, EndsWith, Hears, HearsOne}
use Rattle.mdns_serve.proofs.Handing.{hands_none, hands_append}
use Rattle.mdns_serve.proofs.Calling.{packets_append}

heard_append : (packets more : List Arriving) (turns others : List Happening) → AreHeard packets turns → AreHeard more others → AreHeard (packets ++ more) (turns ++ others)
heard_append [] more [] others are next = next
heard_append [] more (turn ∷ turns) others are next = absurd are
heard_append (packet ∷ packets) more [] others are next = absurd are
heard_append (packet ∷ packets) more (turn ∷ turns) others are next = (are.0, heard_append packets more turns others are.1 next)

-- nothing was heard
pub hears_none : (a : Option (List Arriving)) (m : List Happening) (x : Option (List Handed)) → Hears a a m m x x None
hears_none a m x = record { heard = []; mine = sym (append-nil m); took = λ arrivals told. ([], arrivals, refl, tt, told, tt); air = hands_none x }

-- the ear ended or failed, and took nothing
pub hears_end : (a b : Option (List Arriving)) (m : List Happening) (x : Option (List Handed)) (end : HearEnd)
    → ((arrivals : List Arriving) → a ≡ Some arrivals → (b ≡ Some arrivals) × EndsWith (Some end) arrivals) → Hears a b m m x x (Some end)
hears_end a b m x end kept = record { heard = []; mine = sym (append-nil m); took = λ arrivals told. let k = kept arrivals told in ([], arrivals, refl, tt, k.0, k.1); air = hands_none x }

-- one packet was heard
pub hears_one : (a b : Option (List Arriving)) (m n : List Happening) (x y : Option (List Handed)) (from : Host) (packet : List ℕ)
    → ((arrivals : List Arriving) → a ≡ Some arrivals → (first : Arriving) × (rest : List Arriving) × (arrivals ≡ first ∷ rest) × (b ≡ Some rest) × (from ≡ first.0) × (packet ≡ take most_received first.1))
    → HearsOne from packet m n x y → Hears a b m n x y None
hears_one a b m n x y from packet took one = record {
  heard = one.turn ∷ [];
  mine = one.mine;
  took = λ arrivals told.
      let t = took arrivals told in (
        t.0 ∷ [],
        t.1,
        t.2,
        (subst (λ (e : _). IsFor e one.turn) (ap (λ f. event.Hear f packet) t.4 ∙ ap (λ p. event.Hear t.0.0 p) t.5) one.is, tt),
        t.3,
        tt,
      );
  air = one.air;
}

-- packets were heard, and then others
pub hears_after : (a b c : Option (List Arriving)) (m n o : List Happening) (x y z : Option (List Handed)) (result : Option HearEnd) → Hears a b m n x y None → Hears b c n o y z result → Hears a c m o x z result
hears_after a b c m n o x y z result first next = record {
  heard = first.heard ++ next.heard;
  mine = next.mine ∙ ap (λ l. l ++ next.heard) first.mine ∙ append_assoc m first.heard next.heard;
  took = λ arrivals told.
      let s = first.took arrivals told in
      let t = next.took s.1 s.4 in (
        s.0 ++ t.0,
        t.1,
        s.2 ∙ ap (λ l. s.0 ++ l) t.2 ∙ sym (append_assoc s.0 t.0 t.1),
        heard_append s.0 t.0 first.heard next.heard s.3 t.3,
        t.4,
        t.5,
      );
  air = subst (HandsSome x z) (sym (packets_append first.heard next.heard)) (hands_append x y z (packets_of first.heard) (packets_of next.heard) first.air next.air);
}

-- what an ear gave, where it gave a packet
pub received : (a b : Option (List Arriving)) (into : List ℕ) (found : Option Arrival) (arrival : Arrival) → found ≡ Some arrival → ((arrivals : List Arriving) → a ≡ Some arrivals → MatchOption found (HasEnded arrivals b) (λ one. TakesFirst arrivals b into one))
    → (arrivals : List Arriving) → a ≡ Some arrivals → TakesFirst arrivals b into arrival
received a b into found arrival is receives arrivals told = subst (λ (f : Option Arrival). MatchOption f (HasEnded arrivals b) (λ one. TakesFirst arrivals b into one)) is (receives arrivals told)

-- what an ear has left, where it gave none
pub ended : (a b : Option (List Arriving)) (into : List ℕ) (found : Option Arrival) → found ≡ None → ((arrivals : List Arriving) → a ≡ Some arrivals → MatchOption found (HasEnded arrivals b) (λ one. TakesFirst arrivals b into one))
    → (arrivals : List Arriving) → a ≡ Some arrivals → HasEnded arrivals b
ended a b into found is receives arrivals told = subst (λ (f : Option Arrival). MatchOption f (HasEnded arrivals b) (λ one. TakesFirst arrivals b into one)) is (receives arrivals told)
