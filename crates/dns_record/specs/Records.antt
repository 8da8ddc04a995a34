-- Records and questions: types, data as bytes, sameness, order and matching. (RFC 1035 3.2 and 3.3, RFC 6762 8.2)
use Rattle.std.specs.Prelude.{ℕ, ◌==◌, Bool, true, false, not, ◌&&◌, ◌||◌, List, ◌++◌, length, drop, nat_le, Option, Some, None, option_and_then, if◌then◌else◌}
use Rattle.std.specs.Int.{to_be_bytes, w16, w32, w128}
use Rattle.std.specs.Option.{option_map_or}
use Rattle.std.specs.Ordering.{nat_cmp, ordering_then}
use Rattle.std.specs.Cmp.Lexicographic.{slice_cmp}
use Rattle.std.specs.Str.{bytes_eq}
use Rattle.std.specs.declared.cmp.Ordering.{Ordering}
use Rattle.dns_name.specs.Names.{wire_of, labels_of, is_name, folded, folded_eq, name_cmp}
use Rattle.dns_record.specs.declared.record.Rdata.{Rdata}
use Rattle.dns_record.specs.declared.record.Rdata.TheVariants.{A, Aaaa, Ptr, Cname, Srv, Txt, Nsec, Raw}
use Rattle.dns_record.specs.declared.record.Rr.{Rr}
use Rattle.dns_record.specs.declared.record.Key.{Key}

-- the number of the type
abbrev pub kind_of : Rdata → ℕ
kind_of (A address) = 1
kind_of (Aaaa address) = 28
kind_of (Ptr name) = 12
kind_of (Cname name) = 5
kind_of (Srv priority weight port target) = 33
kind_of (Txt bytes) = 16
kind_of (Nsec next bitmap) = 47
kind_of (Raw kind bytes) = kind

-- the type ANY, of questions alone
abbrev pub any_kind : ℕ
any_kind = 255

-- the type OPT, of records that are passed over
abbrev pub opt_kind : ℕ
opt_kind = 41

-- the data as it stands in a message in which no name is compressed
abbrev pub data_of : Rdata → List ℕ
data_of (A address) = to_be_bytes w32 address
data_of (Aaaa address) = to_be_bytes w128 address
data_of (Ptr name) = wire_of name
data_of (Cname name) = wire_of name
data_of (Srv priority weight port target) = to_be_bytes w16 priority ++ to_be_bytes w16 weight ++ to_be_bytes w16 port ++ wire_of target
data_of (Txt bytes) = bytes
data_of (Nsec next bitmap) = wire_of next ++ bitmap
data_of (Raw kind bytes) = bytes

-- What makes a record the same as another: the folded owner in wire form, the type and the data.
pub record Identity : Type 0 where
  pub owner : List ℕ
  pub kind : ℕ
  pub bytes : List ℕ

-- the identity of a record; the flush bit and the TTL don't count
abbrev pub identity_of : Rr → Identity
identity_of rr = record { owner = wire_of (folded rr.owner); kind = kind_of rr.rdata; bytes = data_of rr.rdata }

-- whether two data are equal: the type and the bytes agree
unfoldable pub data_eq : Rdata → Rdata → Bool
data_eq left right = (kind_of left == kind_of right) && bytes_eq (data_of left) (data_of right)

-- Two records are the same where folded owner, type and data agree.
unfoldable pub same : Rr → Rr → Bool
same left right = folded_eq left.owner right.owner && data_eq left.rdata right.rdata

-- The order of data: by the number of the type, then by the bytes.
unfoldable pub rdata_cmp : Rdata → Rdata → Ordering
rdata_cmp left right = ordering_then (nat_cmp (kind_of left) (kind_of right)) (slice_cmp nat_cmp (data_of left) (data_of right))

-- Record order: by folded owner, then by type, then by data.
unfoldable pub record_cmp : Rr → Rr → Ordering
record_cmp left right = ordering_then (name_cmp left.owner right.owner) (rdata_cmp left.rdata right.rdata)

-- A question matches a record of its name whose type it asks for.
unfoldable pub matches : Key → Rr → Bool
matches question rr = folded_eq question.name rr.owner && ((question.kind == any_kind) || (question.kind == kind_of rr.rdata))

-- Questions are equal where folded names and types agree.
unfoldable pub key_eq : Key → Key → Bool
key_eq left right = folded_eq left.name right.name && (left.kind == right.kind)

-- the order of questions: by folded name, then by type
unfoldable pub key_cmp : Key → Key → Ordering
key_cmp left right = ordering_then (name_cmp left.name right.name) (nat_cmp left.kind right.kind)

-- what follows the name with which bytes begin in wire form, if they begin with one
unfoldable pub after_name : List ℕ → Option (List ℕ)
after_name bytes =
    let name = labels_of bytes in let rest = drop (length (wire_of name)) bytes in
    if is_name name && bytes_eq (wire_of name ++ rest) bytes then Some rest else None

-- whether a type has a variant of its own, or is that of no record
abbrev pub is_typed : ℕ → Bool
is_typed kind = (kind == 1) || (kind == 5) || (kind == 12) || (kind == 16) || (kind == 28) || (kind == 33) || (kind == 47) || (kind == opt_kind)

-- whether so many bytes are left
abbrev pub leaves : ℕ → Option (List ℕ) → Bool
leaves count rest = option_map_or (λ bytes. length bytes == count) rest false

-- the form of raw bytes: NS is a name, MX two bytes and a name, SOA two names and 20 bytes (RFC 1035 3.3.9, 3.3.11, 3.3.13)
abbrev pub has_raw_form : ℕ → List ℕ → Bool
has_raw_form kind bytes =
    if kind == 2 then leaves 0 (after_name bytes)
    else if kind == 15 then nat_le 2 (length bytes) && leaves 0 (after_name (drop 2 bytes))
    else if kind == 6 then leaves 20 (option_and_then after_name (after_name bytes))
    else true

-- Raw data are of another type than OPT and those that have a variant, and have their type's form.
unfoldable pub is_rdata : Rdata → Bool
is_rdata (Raw kind bytes) = not (is_typed kind) && has_raw_form kind bytes
is_rdata _ = true
