-- Which name bytes spell at an offset, and else the first fault in reading order. What stands at an offset is said of the whole bytes. (RFC 1035 4.1.4)
use Rattle.std.specs.Prelude.{ℕ, zero, suc, ◌+◌, ◌-◌, ◌*◌, ◌==◌, nat_lt, List, [], ◌∷◌, length, slice_get, slice_index, slice_range, Option, Some, None, Result, Ok, Err, if◌then◌else◌}
use Rattle.std.specs.Int.{from_be_bytes, w16, w32, w128}
use Rattle.dns_pointers.specs.declared.fault.NameFault.{NameFault}
use Rattle.dns_pointers.specs.declared.fault.NameFault.TheVariants.{Truncated, BadPointer, BadLabel, LongName}

infixl 10 ◌>>=◌
-- what stands behind, if what stands before has no fault
abbrev pub ◌>>=◌ : {X Y E : Type 0} → Result X E → (X → Result Y E) → Result Y E
(Ok x) >>= f = f x
(Err e) >>= f = Err e

-- the byte, Truncated where there is none
abbrev pub byte_or_end : Option ℕ → Result ℕ NameFault
byte_or_end None = Err Truncated
byte_or_end (Some b) = Ok b

-- the byte at an offset, Truncated past the end
abbrev pub byte_at : List ℕ → ℕ → Result ℕ NameFault
byte_at bytes at = byte_or_end (slice_get bytes at)

-- the number of two bytes at an offset, the first of them worth most
abbrev pub u16_in : List ℕ → ℕ → ℕ
u16_in bytes at = from_be_bytes w16 (slice_range bytes at (at + 2))

-- the number of four bytes at an offset
abbrev pub u32_in : List ℕ → ℕ → ℕ
u32_in bytes at = from_be_bytes w32 (slice_range bytes at (at + 4))

-- the number of 16 bytes at an offset
abbrev pub u128_in : List ℕ → ℕ → ℕ
u128_in bytes at = from_be_bytes w128 (slice_range bytes at (at + 16))

-- a name and the offset behind it
abbrev pub NameAt : Type 0
NameAt = List (List ℕ) × ℕ

-- the label of so many bytes at an offset, behind labels that take so many bytes in wire form
unfoldable pub label_at : List ℕ → ℕ → ℕ → ℕ → Result (List ℕ) NameFault
label_at bytes at size used =
    if nat_lt (length bytes) (at + size) then Err Truncated
    else if nat_lt 255 (used + 1 + size + 1) then Err LongName
    else Ok (slice_range bytes at (at + size))

-- where the pointer at an offset aims: below the start of the run of labels that it ends
unfoldable pub target_at : List ℕ → ℕ → ℕ → Result ℕ NameFault
target_at bytes start at = byte_at bytes (at + 1) >>= λ low.
    let target = (slice_index bytes at - 192) * 256 + low in if nat_lt target start then Ok target else Err BadPointer

-- The rest of a name at an offset: labels, and the zero byte or a pointer to where the rest of it is spelled. The run of labels began at
-- start, and the labels before take so many bytes. Each turn takes a label or goes to a lesser start, so the turns never run out.
unfoldable pub labels_at : ℕ → List ℕ → ℕ → ℕ → ℕ → Result NameAt NameFault
labels_at zero bytes start at used = Err Truncated
labels_at (suc turns) bytes start at used = byte_at bytes at >>= λ first.
    if first == 0 then Ok ([], at + 1)
    else if nat_lt first 64 then (label_at bytes (at + 1) first used >>= λ label.
    labels_at turns bytes start (at + 1 + first) (used + 1 + first) >>= λ rest. Ok (label ∷ rest.0, rest.1))
    else if nat_lt first 192 then Err BadLabel
    else (target_at bytes start at >>= λ target. labels_at turns bytes target target used >>= λ rest. Ok (rest.0, at + 2))

-- the name at an offset
unfoldable pub name_at : List ℕ → ℕ → Result NameAt NameFault
name_at bytes at = labels_at (length bytes + 129) bytes at at 0
