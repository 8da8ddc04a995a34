-- Renewals of groups, in their places, and the names of the records that they bring.
use Rattle.std.specs.Prelude.{◌≡◌, ℕ, slice_index_or, true, List, [], ◌∷◌, Option, Some, None}
use Rattle.std.specs.List.{list_all}
use Rattle.dns_name.specs.Names.{folded_eq}
use Rattle.mdns_probe.specs.Kept.{Kept, name_of}
use Rattle.mdns_claimants.specs.declared.renewal.Renewal.{Renewal}

-- a group with other records, under another number, if there are any
abbrev pub with_renewal : Option Renewal → Kept → Kept
with_renewal None one = one
with_renewal (Some renewal) one = record { group = one.group; number = renewal.number; claim = renewal.claim }

-- groups with the renewals in the same places
abbrev pub with_renewals : List (Option Renewal) → List Kept → List Kept
with_renewals [] kept = kept
with_renewals (renewal ∷ renewals) [] = []
with_renewals (renewal ∷ renewals) (one ∷ kept) = with_renewal renewal one ∷ with_renewals renewals kept

-- the unique records of a claim have the name of its group
abbrev pub IsNamed : Kept → Type 0
IsNamed one = list_all (λ rr. folded_eq rr.owner (name_of one)) one.claim.unique ≡ true

-- each renewal has the name that its number gives to the group in the same place
abbrev pub AreNamed : List (Option Renewal) → List Kept → Type 0
AreNamed [] kept = Unit {0}
AreNamed (renewal ∷ renewals) [] = ⊥
AreNamed (renewal ∷ renewals) (one ∷ kept) = IsNamed (with_renewal renewal one) × AreNamed renewals kept

-- a renewal has the name that its number gives to the group at a place
abbrev pub IsNamedAt : Option Renewal → ℕ → List Kept → Type 0
IsNamedAt renewal place kept = (one : Kept) → one ≡ slice_index_or kept place one → IsNamed (with_renewal renewal one)
