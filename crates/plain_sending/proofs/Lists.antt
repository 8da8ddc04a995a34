-- Lists with one more element at the end.
use Rattle.std.proofs.Common.{◌≡◌, Bool, true, false, cond, List, [], ◌∷◌, ◌++◌, refl, ap, ◌∙◌}
use Rattle.std.specs.Prelude.{filter, map}
use Rattle.std.proofs.lemmas.List.{map-append}
use Rattle.std.proofs.lemmas.List.Elements.{filter-append}
use Rattle.plain_history.specs.Kept.{kept_if}

-- what is made of one more, if it is kept
pub made_more : {X Y : Type 0} (f : X → Y) (p : X → Bool) (xs : List X) (x : X) → map f (filter p (xs ++ x ∷ [])) ≡ map f (filter p xs) ++ kept_if (p x) (f x)
made_more {X = X} {Y = Y} f p xs x =
    ap (map f) (filter-append p xs (x ∷ [])) ∙ map-append f (filter p xs) (filter p (x ∷ [])) ∙ ap (λ (l : List Y). map f (filter p xs) ++ l) (one (p x))
  where
    one : (b : Bool) → map f (cond b (x ∷ []) []) ≡ kept_if b (f x)
    one true = refl
    one false = refl
