-- The definitions at examples: they compute.
use Rattle.std.proofs.Common.{◌≡◌, ℕ, List, [], ◌∷◌, ◌++◌, refl, codes, Some, None}
use Rattle.std.specs.Fmt.{digits}
use Rattle.std.specs.List.{repeat}
use Rattle.sd_name.specs.ServiceTypes.{service_type}
use Rattle.sd_name.specs.Renaming.{renamed, host_renamed}

-- an e with an accent, of two bytes
abbrev accented : List ℕ
accented = 0xc3 ∷ 0xa9 ∷ []

-- a label of 63 bytes is cut at a whole character
row_renamed : renamed (repeat 31 accented ++ codes "a") 2 ≡ repeat 29 accented ++ codes " (2)"
unfolding renamed digits
row_renamed = refl

row_host_renamed : host_renamed (codes "h") 12 ≡ codes "h-12"
unfolding host_renamed digits
row_host_renamed = refl

row_type : service_type (codes "_ipp._tcp.,_color,plain") ≡ Some (record { name = codes "_ipp" ∷ codes "_tcp" ∷ codes "local" ∷ []; subtypes = codes "_color" ∷ codes "plain" ∷ [] })
unfolding service_type
row_type = refl

-- no underscore, two hyphens in a row, an empty subtype, another transport
row_no_types : service_type (codes "ipp._tcp") ∷ service_type (codes "_a--b._tcp") ∷ service_type (codes "_ipp._tcp,") ∷ service_type (codes "_ipp._sctp") ∷ [] ≡ None ∷ None ∷ None ∷ None ∷ []
unfolding service_type
row_no_types = refl
