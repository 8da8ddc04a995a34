-- Numbered labels, by which a group whose name is taken gets another. (RFC 6762 9, RFC 6763 D)
use Rattle.std.specs.Prelude.{ℕ, zero, suc, ◌-◌, ◌==◌, nat_le, nat_lt, Bool, ◌&&◌, List, [], ◌++◌, length, take, decimal, codes, slice_index, if◌then◌else◌}

-- a byte that goes on with a character of UTF-8 (RFC 3629 3)
abbrev pub is_continuation : ℕ → Bool
is_continuation b = nat_le 128 b && nat_lt b 192

-- the longest front of a label that has at most so many bytes and ends with a whole character
abbrev pub cut_to : ℕ → List ℕ → List ℕ
cut_to zero label = []
cut_to (suc room) label = if is_continuation (slice_index label (suc room)) then cut_to room label else take (suc room) label

-- a label with a suffix, cut so that both fit 63 bytes
abbrev pub with_suffix : List ℕ → List ℕ → List ℕ
with_suffix label suffix = cut_to (63 - length suffix) label ++ suffix

-- number n of a service's label: ` (n)` behind it, and the label itself for 1
unfoldable pub renamed : List ℕ → ℕ → List ℕ
renamed label number = if number == 1 then label else with_suffix label (codes " (" ++ decimal number ++ codes ")")

-- number n of a host's label: `-n` behind it, and the label itself for 1
unfoldable pub host_renamed : List ℕ → ℕ → List ℕ
host_renamed label number = if number == 1 then label else with_suffix label (codes "-" ++ decimal number)
