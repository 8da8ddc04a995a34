-- The words of lines.
use Rattle.std.specs.Prelude.{ℕ, ◌-◌, ◌^◌, nat_lt, nat_le, ◌&&◌, List, length, take, drop, Option, Some, None, ℤ, pos, negsuc, codes, if◌then◌else◌}
use Rattle.std.specs.Result.{result_ok}
use Rattle.std.specs.Str.{bytes_eq}
use Rattle.mdns_base.specs.declared.host.Host.{Host}
use Rattle.number_text.specs.Digits.{◌>>=◌, decimal_below, ipv4_of}
use Rattle.dns_name.specs.Names.{is_label}
use Rattle.dns_name.specs.ReadName.{read_name}
use Rattle.dns_name.specs.TextItems.{label_read}
use Rattle.mdns_script.specs.Tokens.{when, text_of}

-- what follows a word at the front of a text
abbrev pub after : List ℕ → List ℕ → Option (List ℕ)
after word text = if bytes_eq (take (length word) text) word then Some (drop (length word) text) else None

-- what is read behind a word, or something else where the text has other words
abbrev pub or_else : {A : Type 0} → Option (List ℕ) → (List ℕ → Option A) → Option A → Option A
or_else None read other = other
or_else (Some rest) read other = read rest

-- a value of a word, if it is that word
abbrev pub if_word : {A : Type 0} → List ℕ → List ℕ → A → Option A
if_word word text value = when (bytes_eq text word) value

-- the name that bytes spell
abbrev pub name_in : List ℕ → Option (List (List ℕ))
name_in bytes = text_of bytes >>= λ text. result_ok (read_name text)

-- the label that bytes spell: 1 to 63 bytes
abbrev pub label_in : List ℕ → Option (List ℕ)
label_in bytes = label_read 63 bytes >>= λ label. when (is_label label) label

-- an address and a port, of two words
unfoldable pub host_in : List ℕ → List ℕ → Option Host
host_in ip port = do
  a ← ipv4_of ip
  p ← decimal_below (2 ^ 16) port
  Some (record { ip = a; port = p })

-- a signed number below zero, of which the amount is read
abbrev pub signed_below : List ℕ → Option ℤ
signed_below amount = do
  n ← decimal_below (2 ^ 32) amount
  when (nat_le 1 n && nat_le n (2 ^ 31)) (negsuc (n - 1))

-- a signed number of 32 bits
abbrev pub signed_in : List ℕ → Option ℤ
signed_in text = or_else (after (codes "-") text) signed_below (decimal_below (2 ^ 32) text >>= λ n. when (nat_lt n (2 ^ 31)) (pos n))
