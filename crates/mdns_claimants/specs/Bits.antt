-- Bits of names: a record whose owner's bit isn't there surely doesn't have the name.
use Rattle.std.specs.Prelude.{ℕ, ◌+◌, ◌*◌, ◌%◌, ◌^◌, ◌==◌, Bool, List, [], ◌∷◌, bit_and}
use Rattle.std.specs.List.{list_all}
use Rattle.dns_record.specs.declared.record.Rr.{Rr}

-- the place of a label's bit among 64, behind the place that the bytes before it lead to; the two cases of a letter are 32 apart
abbrev pub place_from : ℕ → List ℕ → ℕ
place_from place [] = place
place_from place (byte ∷ bytes) = place_from ((place * 5 + byte % 32) % 64) bytes

-- the place of a name's bit: that of its first label
abbrev pub place_of : List (List ℕ) → ℕ
place_of [] = 0
place_of (label ∷ labels) = place_from 0 label

-- the bit of a name
abbrev pub bit_of : List (List ℕ) → ℕ
bit_of name = 2 ^ place_of name

-- the bits of the owners of records are all there
unfoldable pub have_bits : ℕ → List Rr → Bool
have_bits bits rrs = list_all (λ rr. bit_and bits (bit_of rr.owner) == bit_of rr.owner) rrs
