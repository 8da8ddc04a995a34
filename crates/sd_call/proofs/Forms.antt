-- How many subtypes a text has, by what is read of it.
use Rattle.std.proofs.Common.{◌≡◌, ℕ, zero, suc, ◌<◌, ◌≤◌, Bool, true, false, not, leb, List, [], ◌∷◌, Option, Some, None, length, Bor, refl, sym, ap, ◌∙◌, arith}
use Rattle.std.specs.Prelude.{slice_get, is_some, is_none, option_copied, IfSome}
use Rattle.std.proofs.lemmas.Bool.Decides.{nat_tests}
use Rattle.sd_name.specs.ServiceTypes.{ServiceType}
use Rattle.sd_call.specs.Requests.{has_subtypes_up_to}

-- no element stands at a place exactly where the list isn't longer
pub none_at : {X : Type 0} (xs : List X) (place : ℕ) → is_none (slice_get xs place) ≡ leb (length xs) place
none_at [] place = least place
  where
    least : (place : ℕ) → true ≡ leb 0 place
    least place = grind (arith, nat_tests)
none_at (x ∷ xs) zero = more (length xs)
  where
    more : (n : ℕ) → false ≡ leb (suc n) 0
    more n = grind (arith, nat_tests)
none_at (x ∷ xs) (suc place) = none_at xs place ∙ step (length xs) place
  where
    step : (n m : ℕ) → leb n m ≡ leb (suc n) (suc m)
    step n m = grind (arith, nat_tests)

copied : (o : Option (Bor (List ℕ))) → is_none o ≡ is_none (option_copied o)
copied None = refl
copied (Some x) = refl

told : (o : Option (Bor (List ℕ))) (found : Bool) → is_some o ≡ not found → found ≡ is_none o
told None true h = refl
told None false h = cc
told (Some x) true h = cc
told (Some x) false h = refl

pub few_subtypes : (type : ServiceType) (spelled : Option ServiceType) (most : ℕ) (at : Option (Bor (List ℕ))) (found : Bool) → spelled ≡ Some type →
    option_copied at ≡ slice_get type.subtypes most → is_some at ≡ not found → found ≡ has_subtypes_up_to most spelled
few_subtypes type spelled most at found s e f = told at found f ∙ copied at ∙ ap is_none e ∙ none_at type.subtypes most ∙ ap (has_subtypes_up_to most) (sym s)

pub no_type : (spelled : Option ServiceType) (most : ℕ) → most ≤ 16 → IfSome spelled (λ type. 16 < length type.subtypes) → false ≡ has_subtypes_up_to most spelled
no_type None most h k = refl
no_type (Some type) most h k = more (length type.subtypes) k
  where
    more : (n : ℕ) → 16 < n → false ≡ leb n most
    more n l = grind (arith, nat_tests)
