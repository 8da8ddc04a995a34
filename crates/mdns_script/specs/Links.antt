-- The lines that change the link: how long packets are under way, which are lost, and which daemons are parted.
use Rattle.std.specs.Prelude.{ℕ, nat_le, ◌&&◌, List, Option, Some}
use Rattle.number_text.specs.Cut.{cut_of}
use Rattle.number_text.specs.Digits.{◌>>=◌, decimal_of}
use Rattle.mdns_script.specs.Tokens.{when}
use Rattle.mdns_script.specs.Boots.{daemon_of}

-- a number from the least to the most that there may be
abbrev pub number_in : ℕ → ℕ → List ℕ → Option ℕ
number_in least most text = do
  n ← decimal_of text
  when (nat_le least n && nat_le n most) n

-- `A B`: two daemons
unfoldable pub two_daemons : List ℕ → Option (ℕ × ℕ)
two_daemons text = do
  words ← cut_of 32 text
  left ← daemon_of words.0
  right ← daemon_of words.1
  Some (left, right)
