-- Items that were taken, and their frames.
use Rattle.std.proofs.Common.{◌≡◌, ◌∙◌, ℕ, ◌+◌, List, [], ◌∷◌, ◌++◌, take, length, refl, ap, sym, subst, Option, Some, None}
use Rattle.std.specs.Io.KnownBytes.{Appends, Keeps}
use Rattle.std.proofs.KnownBytes.{Appends-nil, Appends-trans, Appends-kept}
use Rattle.std.proofs.lemmas.List.{append-nil, append_assoc}
use Rattle.std.proofs.Math.Seq.{take-append-add}
use Rattle.mdns_history.specs.declared.event.Event.TheVariants as event
use Rattle.mdns_outside.specs.Parts.{Handed}
use Rattle.mdns_serve.specs.declared.happening.Happening.{Happening}
use Rattle.mdns_serve.specs.declared.writing.WriteEnd.{WriteEnd}
use Rattle.mdns_serve.specs.declared.writing.WriteEnd.TheVariants.{Closed, Cut}
use Rattle.mdns_serve.specs.Packets.{packets_in, packets_of, HandsSome}
use Rattle.mdns_serve.specs.Reading.{IsFor}
use Rattle.mdns_serve.specs.Writing.{most_at_once, frames_in, frames_of, AreTakes, shut_in, last_shut, PutsFrames, ShutsBy, Takes}
use Rattle.mdns_serve.proofs.Handing.{hands_none, hands_append}
use Rattle.mdns_serve.proofs.Calling.{packets_append, packets_one}

frames_append : (turns more : List Happening) → frames_of (turns ++ more) ≡ frames_of turns ++ frames_of more
frames_append [] more = refl
frames_append (turn ∷ turns) more = ap (λ l. frames_in turn ++ l) (frames_append turns more) ∙ sym (append_assoc (frames_in turn) (frames_of turns) (frames_of more))

are_append : (session : ℕ) (takes more : List Happening) → AreTakes session takes → AreTakes session more → AreTakes session (takes ++ more)
are_append session [] more are next = next
are_append session (turn ∷ takes) more are next = (are.0, are_append session takes more are.1 next)

shut_more : (takes : List Happening) (turn : Happening) (more : List Happening) → last_shut (takes ++ turn ∷ more) ≡ last_shut (turn ∷ more)
shut_more [] turn more = refl
shut_more (first ∷ []) turn more = refl
shut_more (first ∷ second ∷ takes) turn more = shut_more (second ∷ takes) turn more

never : (end : WriteEnd) → ◌≡◌ {A = Option WriteEnd} None (Some end) → ⊥
never end e = cc

-- Whole frames were put, and then others.
puts_append : (a b c : Option (List ℕ)) (frames more : List ℕ) (result : Option WriteEnd) → PutsFrames a b frames None → PutsFrames b c more result → PutsFrames a c (frames ++ more) result
puts_append a b c frames more result first next =
    let whole = first.1 refl in (
      (length frames + next.0.0, subst (λ l. Appends a c l) (sym (take-append-add frames more next.0.0)) (Appends-trans a b c frames (take next.0.0 more) whole next.0.1)),
      (λ is. Appends-trans a b c frames more whole (next.1 is)),
    )

-- the same where nothing more is put
pub puts_kept : (a b c : Option (List ℕ)) (frames : List ℕ) (result : Option WriteEnd) → PutsFrames a b frames result → Keeps b c → PutsFrames a c frames result
puts_kept a b c frames result put keeps = ((put.0.0, Appends-kept a b c (take put.0.0 frames) put.0.1 keeps), (λ is. Appends-kept a b c frames (put.1 is) keeps))

module _ (session : ℕ) where
  pub takes_none : (a : Option (List ℕ)) (m : List Happening) (x : Option (List Handed)) → Takes session a a m m x x None
  takes_none a m x = record {
    takes = [];
    are = tt;
    mine = sym (append-nil m);
    put = ((0, Appends-nil a), (λ is. Appends-nil a));
    shut = (((λ e. absurd (never Closed e)), (λ e. absurd (never Closed e))), ((λ e. absurd (never Cut e)), (λ e. absurd (never Cut e))));
    air = hands_none x;
  }

  -- one more turn
  pub takes_one : (a b c : Option (List ℕ)) (m n o : List Happening) (x y z : Option (List Handed)) (turn : Happening) (result : Option WriteEnd) → Takes session a b m n x y None
      → IsFor (event.Take session most_at_once) turn → o ≡ n ++ turn ∷ [] → PutsFrames b c (frames_in turn) result → ShutsBy result (shut_in turn) → HandsSome y z (packets_in turn)
      → Takes session a c m o x z result
  takes_one a b c m n o x y z turn result before is mine put shut air = record {
    takes = before.takes ++ turn ∷ [];
    are = are_append session before.takes (turn ∷ []) before.are (is, tt);
    mine = mine ∙ ap (λ l. l ++ turn ∷ []) before.mine ∙ append_assoc m before.takes (turn ∷ []);
    put = subst (λ l. PutsFrames a c l result) (ap (λ l. frames_of before.takes ++ l) (sym (append-nil (frames_in turn))) ∙ sym (frames_append before.takes (turn ∷ []))) (puts_append a b c (frames_of before.takes) (frames_in turn) result before.put put);
    shut = subst (ShutsBy result) (sym (shut_more before.takes turn [])) shut;
    air = subst (HandsSome x z) (sym (packets_append before.takes (turn ∷ []))) (hands_append x y z (packets_of before.takes) (packets_of (turn ∷ [])) before.air (subst (HandsSome y z) (sym (packets_one turn)) air));
  }

  -- takes, and further ones
  pub takes_after : (a b c : Option (List ℕ)) (m n o : List Happening) (x y z : Option (List Handed)) (result : Option WriteEnd) → Takes session a b m n x y None → Takes session b c n o y z result
      → Takes session a c m o x z result
  takes_after a b c m n o x y z result before next = of next.takes next.are next.mine next.put next.shut next.air
    where
      of : (takes : List Happening) → AreTakes session takes → o ≡ n ++ takes → PutsFrames b c (frames_of takes) result → ShutsBy result (last_shut takes) → HandsSome y z (packets_of takes) → Takes session a c m o x z result
      of [] are mine put shut air = record {
        takes = before.takes;
        are = before.are;
        mine = mine ∙ append-nil n ∙ before.mine;
        put = subst (λ l. PutsFrames a c l result) (append-nil (frames_of before.takes)) (puts_append a b c (frames_of before.takes) [] result before.put put);
        shut = (((λ e. absurd (never Closed (shut.0.0 e))), (λ e. absurd (never Closed (before.shut.0.1 e)))), ((λ e. absurd (never Cut (shut.1.0 e))), (λ e. absurd (never Cut (before.shut.1.1 e)))));
        air = subst (HandsSome x z) (append-nil (packets_of before.takes)) (hands_append x y z (packets_of before.takes) [] before.air air);
      }
      of (turn ∷ takes) are mine put shut air = record {
        takes = before.takes ++ turn ∷ takes;
        are = are_append session before.takes (turn ∷ takes) before.are are;
        mine = mine ∙ ap (λ l. l ++ turn ∷ takes) before.mine ∙ append_assoc m before.takes (turn ∷ takes);
        put = subst (λ l. PutsFrames a c l result) (sym (frames_append before.takes (turn ∷ takes))) (puts_append a b c (frames_of before.takes) (frames_of (turn ∷ takes)) result before.put put);
        shut = subst (ShutsBy result) (sym (shut_more before.takes turn takes)) shut;
        air = subst (HandsSome x z) (sym (packets_append before.takes (turn ∷ takes))) (hands_append x y z (packets_of before.takes) (packets_of (turn ∷ takes)) before.air air);
      }
