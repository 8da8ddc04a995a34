-- Renewals that pass a test, and one more.
use Rattle.std.proofs.Common.{◌≡◌, ◌∙◌, Bool, true, ◌&&◌, List, [], ◌∷◌, ◌++◌, Option, refl, ap}
use Rattle.std.specs.List.{list_all}
use Rattle.std.proofs.lemmas.Bool.{and_from}
use Rattle.std.proofs.lemmas.List.Folds.{list_all-append}
use Rattle.mdns_claimants.specs.declared.renewal.Renewal.{Renewal}

-- one renewal more
pub push_passes : (r : Option Renewal → Bool) (renewals after : List (Option Renewal)) (renewal : Option Renewal) → after ≡ renewals ++ renewal ∷ [] → list_all r renewals ≡ true → r renewal ≡ true → list_all r after ≡ true
push_passes r renewals after renewal put h k =
    ap (list_all r) put ∙ list_all-append r renewals (renewal ∷ []) ∙ and_from (list_all r renewals) (r renewal && true) h (and_from (r renewal) true k refl)
