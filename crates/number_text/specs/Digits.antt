-- Numbers and bytes as text.
use Rattle.std.specs.Prelude.{◌≡◌, ◌≢◌, ℕ, ◌+◌, ◌*◌, ◌/◌, ◌%◌, ◌^◌, ◌<◌, nat_lt, ◌==◌, ◌&&◌, List, [], ◌∷◌, ◌++◌, decimal, if◌then◌else◌, Option, Some, None, MatchOption, option_and_then, length, take, drop}
use Rattle.std.specs.Int.{w16, w32, to_be_bytes, from_be_bytes}
use Rattle.std.specs.List.{slice_index}
use Rattle.std.specs.Option.{option_map}
use Rattle.std.specs.Result.{result_ok}
use Rattle.std.specs.Str.{bytes_eq, str_to_ascii_lowercase}
use Rattle.std.specs.Str.Parse.{digits_value}
use Rattle.hex.specs.Hex.{IsBytes, encode_lower, decode_of, decode_sized}
use Rattle.number_text.specs.Cut.{cut_of}

-- the number below a limit whose print the text is, where there is one
abbrev pub IsReadFrom : (ℕ → List ℕ) → ℕ → List ℕ → Option ℕ → Type 0
IsReadFrom print limit text result = MatchOption result ((n : ℕ) → n < limit → text ≢ print n) (λ n. (n < limit) × (text ≡ print n))

-- what comes of a value, if there is one
infixl 10 ◌>>=◌
abbrev pub ◌>>=◌ : {A B : Type 0} → Option A → (A → Option B) → Option B
o >>= f = option_and_then f o

-- the number of 64 bits whose digits the text is, without a sign or a leading zero
unfoldable pub decimal_of : List ℕ → Option ℕ
decimal_of text =
    if nat_lt (digits_value 10 text) (2 ^ 64) && bytes_eq (decimal (digits_value 10 text)) text then Some (digits_value 10 text) else None

-- the same, where the number is below a limit
abbrev pub decimal_below : ℕ → List ℕ → Option ℕ
decimal_below limit text = option_and_then (λ n. if nat_lt n limit then Some n else None) (decimal_of text)

-- four numbers with a separator between them
unfoldable pub four_text : ℕ → (ℕ → List ℕ) → ℕ → ℕ → ℕ → ℕ → List ℕ
four_text separator print a b c d = print a ++ separator ∷ print b ++ separator ∷ print c ++ separator ∷ print d

-- what is made of four numbers with a separator between them
unfoldable pub four_of : ℕ → (List ℕ → Option ℕ) → (ℕ → ℕ → ℕ → ℕ → ℕ) → List ℕ → Option ℕ
four_of separator number make text = do
  first ← cut_of separator text
  second ← cut_of separator first.1
  third ← cut_of separator second.1
  a ← number first.0
  b ← number second.0
  c ← number third.0
  d ← number third.1
  Some (make a b c d)

-- an address of IPv4 is written as four decimal numbers with dots, the highest byte first
unfoldable pub ipv4_text : ℕ → List ℕ
ipv4_text a = four_text 46 decimal (a / 2 ^ 24) (a / 2 ^ 16 % 256) (a / 2 ^ 8 % 256) (a % 256)

-- the address that four numbers below 256 with dots are
unfoldable pub ipv4_of : List ℕ → Option ℕ
ipv4_of text = four_of 46 (decimal_below 256) (λ a b c d. from_be_bytes w32 (a ∷ b ∷ c ∷ d ∷ [])) text

-- bytes are written as two hexadecimal digits each, in lower case, and no bytes as `-`
unfoldable pub hex_text : List ℕ → List ℕ
hex_text [] = 45 ∷ []
hex_text (b ∷ bytes) = encode_lower (b ∷ bytes)

-- the bytes of digits in either case
abbrev pub digits_of : List ℕ → Option (List ℕ)
digits_of text = result_ok (decode_of text)

-- the bytes that a text spells, if it does: `-` spells none
unfoldable pub hex_of : List ℕ → Option (List ℕ)
hex_of text = if length text == 0 then None else if bytes_eq text (45 ∷ []) then Some [] else digits_of text

-- the bytes whose print is the text in lower case, where there are such
abbrev pub IsHexOf : List ℕ → Option (List ℕ) → Type 0
IsHexOf text result = MatchOption result ((bytes : List ℕ) → IsBytes bytes → str_to_ascii_lowercase text ≢ hex_text bytes) (λ bytes. str_to_ascii_lowercase text ≡ hex_text bytes)

-- two bytes as four hexadecimal digits
abbrev pub group_text : ℕ → List ℕ
group_text n = encode_lower (to_be_bytes w16 n)

-- half an address of IPv6: four groups with colons
unfoldable pub ipv6_half_text : ℕ → List ℕ
ipv6_half_text n = four_text 58 group_text (n / 2 ^ 48) (n / 2 ^ 32 % 2 ^ 16) (n / 2 ^ 16 % 2 ^ 16) (n % 2 ^ 16)

-- an address of IPv6 is written as eight groups of four hexadecimal digits with colons, the highest first
unfoldable pub ipv6_text : ℕ → List ℕ
ipv6_text a = ipv6_half_text (a / 2 ^ 64) ++ 58 ∷ ipv6_half_text (a % 2 ^ 64)

-- the number of four hexadecimal digits in either case
abbrev pub group_of : List ℕ → Option ℕ
group_of text = option_map (from_be_bytes w16) (result_ok (decode_sized text 2))

-- the number of four groups with colons
unfoldable pub ipv6_half_of : List ℕ → Option ℕ
ipv6_half_of text = four_of 58 group_of (λ a b c d. ((a * 2 ^ 16 + b) * 2 ^ 16 + c) * 2 ^ 16 + d) text

-- what stands on both sides of the colon in the middle
abbrev pub ipv6_parts : List ℕ → Option (List ℕ × List ℕ)
ipv6_parts text = if (length text == 39) && (slice_index text 19 == 58) then Some (take 19 text, drop 20 text) else None

-- the address that eight groups with colons are
unfoldable pub ipv6_of : List ℕ → Option ℕ
ipv6_of text = do
  parts ← ipv6_parts text
  a ← ipv6_half_of parts.0
  b ← ipv6_half_of parts.1
  Some (a * 2 ^ 64 + b)
