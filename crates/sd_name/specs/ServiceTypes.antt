-- Service types and the names of services. (RFC 6335 5.1, RFC 6763 4 and 7)
use Rattle.std.specs.Prelude.{ℕ, ◌==◌, nat_le, Bool, true, false, not, ◌&&◌, ◌||◌, List, [], ◌∷◌, length, codes, Option, Some, None, option_and_then, if◌then◌else◌}
use Rattle.std.specs.Char.{is_ascii_alphabetic, is_ascii_alphanumeric, is_ascii_control}
use Rattle.std.specs.List.{list_all, list_any, slice_split}
use Rattle.std.specs.Str.{bytes_eq}

-- a type's name under `local`, and the subtypes as written, in their order
pub record ServiceType : Type 0 where
  pub name : List (List ℕ)
  pub subtypes : List (List ℕ)

-- the top domain (RFC 6762 3)
abbrev pub local_name : List (List ℕ)
local_name = codes "local" ∷ []

-- an ASCII control character: 0 to 31, or 127
abbrev pub is_control : ℕ → Bool
is_control b = is_ascii_control b

-- each part between hyphens has a byte: no hyphen stands at an end, and no two are adjacent
abbrev pub hyphens_apart : List ℕ → Bool
hyphens_apart bytes = list_all (λ part. not (length part == 0)) (slice_split (λ b. b == 45) bytes)

-- the name of a protocol: 1 to 15 letters, digits and hyphens, at least one letter, hyphens apart (RFC 6335 5.1)
abbrev pub is_app : List ℕ → Bool
is_app bytes =
    nat_le (length bytes) 15 && list_all (λ b. is_ascii_alphanumeric b || b == 45) bytes
    && list_any is_ascii_alphabetic bytes && hyphens_apart bytes

-- an underscore and the name of a protocol (RFC 6763 7)
abbrev pub is_app_label : List ℕ → Bool
is_app_label [] = false
is_app_label (b ∷ bs) = b == 95 && is_app bs

-- the label of a transport (RFC 6763 7)
abbrev pub is_transport : List ℕ → Bool
is_transport bytes = bytes_eq bytes (codes "_tcp") || bytes_eq bytes (codes "_udp")

-- a subtype: 1 to 63 bytes without a dot, a comma or a control character (RFC 6763 7.1)
abbrev pub is_subtype : List ℕ → Bool
is_subtype bytes =
    nat_le 1 (length bytes) && nat_le (length bytes) 63
    && list_all (λ b. not (is_control b || b == 44 || b == 46)) bytes

-- no piece, or the empty one behind a final dot
abbrev pub is_end : List (List ℕ) → Bool
is_end [] = true
is_end (last ∷ []) = length last == 0
is_end (piece ∷ next ∷ pieces) = false

-- the name under `local` of the pieces of `_app._tcp` or `_app._udp`, which may end in a dot
abbrev pub type_name : List (List ℕ) → Option (List (List ℕ))
type_name (app ∷ transport ∷ rest) =
    if is_app_label app && is_transport transport && is_end rest then Some (app ∷ transport ∷ local_name) else None
type_name _ = None

-- the type of this name, if these are subtypes
abbrev pub type_with : List (List ℕ) → List (List ℕ) → Option ServiceType
type_with subtypes name = if list_all is_subtype subtypes then Some (record { name = name; subtypes = subtypes }) else None

-- the pieces between commas: the type, and each subtype
abbrev pub type_of_pieces : List (List ℕ) → Option ServiceType
type_of_pieces [] = None
type_of_pieces (first ∷ subtypes) = option_and_then (type_with subtypes) (type_name (slice_split (λ b. b == 46) first))

-- the service type that a text spells, if it spells one
unfoldable pub service_type : List ℕ → Option ServiceType
service_type text = type_of_pieces (slice_split (λ b. b == 44) text)

-- the full name of a service (RFC 6763 4.1)
abbrev pub instance_name : List ℕ → ServiceType → List (List ℕ)
instance_name label type = label ∷ type.name

-- the name at which a subtype is browsed (RFC 6763 7.1)
abbrev pub subtype_name : List ℕ → ServiceType → List (List ℕ)
subtype_name subtype type = subtype ∷ codes "_sub" ∷ type.name

-- the name at which the types of all services stand (RFC 6763 9)
abbrev pub types_name : List (List ℕ)
types_name = codes "_services" ∷ codes "_dns-sd" ∷ codes "_udp" ∷ local_name

-- a label that names a service: 1 to 63 bytes without control characters (RFC 6763 4.1.1)
unfoldable pub is_service_label : List ℕ → Bool
is_service_label label = nat_le 1 (length label) && nat_le (length label) 63 && list_all (λ b. not (is_control b)) label
