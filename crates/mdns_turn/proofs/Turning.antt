-- From the steps of a turn to what the turn tells.
use Rattle.std.proofs.Common.{◌≡◌, ℕ, List, [], ◌∷◌, ◌++◌, get_or, sym, ap, ◌∙◌, subst, append_assoc, Option, Some, None}
use mathlib.Core.List.{map-append}
use Rattle.mdns_turn.specs.History.{turns, StandsAfter}
use Rattle.mdns_turn.specs.Views.{SeatState, waiting}
use Rattle.mdns_turn.specs.Plays.{Comes, Arrives}

module _ {T E : Type 0} (stands : List E → T → Type 0) where
  same_value : (y z : T) (more : List (ℕ × Option T)) → (0, Some y) ∷ more ≡ (0, Some z) ∷ [] → y ≡ z
  same_value y z more e = let f : Some y ≡ Some z = ap (λ (l : List (ℕ × Option T)). (get_or l 0 (0, Some y)).1) e in cc

  pub arrives : (m : SeatState T E) (t : ℕ) (drawn looked taken : SeatState T E) (value : T) → drawn ≡ (waiting m.0 t, m.1) → Comes stands t drawn looked → looked.1 ≡ (0, Some value) ∷ [] → taken ≡ (looked.0, (0, None) ∷ []) → Arrives stands value m taken
  arrives m t drawn looked taken value e comes holds took = let h : Comes stands t (waiting m.0 t, m.1) looked = subst (λ (z : SeatState T E). Comes stands t z looked) e comes in
      let same : h.value ≡ value = same_value h.value value m.1 (sym (ap (λ (z : SeatState T E). z.1) h.seat) ∙ holds) in record {
        ticket = t;
        between = h.between;
        seat = took ∙ ap (λ (z : SeatState T E). (z.0, (0, None) ∷ [])) h.seat;
        current = record { right = λ x o. subst (λ (y : T). StandsAfter stands x (m.0.seen ++ h.between) y) same (h.current.right x o); turns = h.current.turns };
      }

  -- a work that adds the turn x
  pub stands_after : (opening : T) (seen : List (ℕ × E)) (n : ℕ) (x : E) (before after : T) → StandsAfter stands opening seen before → ((past : List E) → stands past before → stands (past ++ x ∷ []) after)
      → StandsAfter stands opening (seen ++ (n, x) ∷ []) after
  stands_after opening seen n x before after right adds past old = subst (λ (l : List E). stands l after)
      (append_assoc past (turns seen) (x ∷ []) ∙ ap (λ (l : List E). past ++ l) (sym (map-append (λ (p : ℕ × E). p.1) seen ((n, x) ∷ []))))
      (adds (past ++ turns seen) (right past old))
