-- Lists with one more element at the end.
use Rattle.std.proofs.Common.{◌≡◌, Bool, true, false, cond, List, [], ◌∷◌, ◌++◌, refl, ap, ◌∙◌, Option, Some, None}
use Rattle.std.specs.Prelude.{filter, map}
use Rattle.std.specs.List.{filter_map, cons_option}
use Rattle.std.specs.Option.{option_to_list}
use Rattle.std.proofs.lemmas.List.{map-append}
use Rattle.std.proofs.lemmas.List.Elements.{filter-append, filter_map-append}
use Rattle.plain_history.specs.Kept.{kept_if}

-- what is given of one more
pub given_more : {X Y : Type 0} (f : X → Option Y) (xs : List X) (x : X) → filter_map f (xs ++ x ∷ []) ≡ filter_map f xs ++ option_to_list (f x)
given_more {Y = Y} f xs x = filter_map-append f xs (x ∷ []) ∙ ap (λ (l : List Y). filter_map f xs ++ l) (one (f x))
  where
    one : (o : Option Y) → cons_option o [] ≡ option_to_list o
    one None = refl
    one (Some y) = refl

-- what is made of one more, if it is kept
pub made_more : {X Y : Type 0} (f : X → Y) (p : X → Bool) (xs : List X) (x : X) → map f (filter p (xs ++ x ∷ [])) ≡ map f (filter p xs) ++ kept_if (p x) (f x)
made_more {X = X} {Y = Y} f p xs x =
    ap (map f) (filter-append p xs (x ∷ [])) ∙ map-append f (filter p xs) (filter p (x ∷ [])) ∙ ap (λ (l : List Y). map f (filter p xs) ++ l) (one (p x))
  where
    one : (b : Bool) → map f (cond b (x ∷ []) []) ≡ kept_if b (f x)
    one true = refl
    one false = refl
