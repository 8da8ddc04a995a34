-- Numbers, bytes, addresses, labels and names as text: they can be seen, and tell what they are the text of.
use Rattle.std.proofs.Common.{◌≡◌, ℕ, zero, suc, ℤ, pos, negsuc, ◌+◌, ◌-◌, ◌*◌, ◌/◌, ◌%◌, ◌^◌, ◌<◌, Bool, true, false, cond, ◌&&◌, ◌||◌, eqb, ltb, leb, List, [], ◌∷◌, ◌++◌, Some, refl, ap, sym, ◌∙◌, inl, inr, arith, rules}
use Rattle.std.specs.Prelude.{decimal, slice_index}
use Rattle.std.specs.Char.{is_ascii_digit}
use Rattle.std.specs.Fmt.{signed_decimal}
use Rattle.std.specs.Int.{to_be_bytes, w16}
use Rattle.std.specs.List.{list_all, flat_map}
use Rattle.std.specs.Result.{result_ok}
use Rattle.std.specs.Str.{all_ascii_digits}
use Rattle.std.proofs.lemmas.Bool.{ltb-true, lt-ltb, eqb-true, cases_lt, and_from, and_parts}
use Rattle.std.proofs.lemmas.Bool.Decides.{nat_tests}
use Rattle.std.proofs.lemmas.Fmt.{digits_decimal, signed_decimal_injective}
use Rattle.std.proofs.lemmas.Str.Parse.{IsNumeralModel, numerals_by_fold}
use Rattle.hex.specs.Hex.{IsBytes, encode_with, encode_lower, lower_digits}
use Rattle.number_text.specs.Digits.{decimal_below, hex_of, hex_text, ipv4_of, ipv4_text, ipv6_of, ipv6_text, ipv6_half_text, four_text, group_text}
use Rattle.number_text.proofs.Decimals.{decimal_below_written}
use Rattle.number_text.proofs.HexText.{hex_written}
use Rattle.number_text.proofs.Ipv4Text.{ipv4_written}
use Rattle.number_text.proofs.Ipv6Text.{ipv6_written}
use Rattle.dns_name.specs.Names.{is_name}
use Rattle.dns_name.specs.NameText.{three_digits, byte_text, label_text, name_text}
use Rattle.dns_name.specs.TextItems.{items_of}
use Rattle.dns_name.specs.ReadName.{read_name}
use Rattle.dns_name.specs.declared.items.TextItem.{TextItem}
use Rattle.dns_name.specs.declared.items.TextItem.TheVariants.{Dot, Byte, Bad}
use Rattle.dns_name.proofs.ReadBack.{items_of-byte, read_name-name_text}
use Rattle.dns_name.proofs.Spelling.{items_of-next, items_of-none}
use Rattle.dns_message.specs.Writing.{is_below, are_bytes, is_spellable_name}
use Rattle.sd_call.specs.CallText.{label_token, type_byte, type_token}
use Rattle.mdns_history.specs.Typed.{is_signed}
use Rattle.mdns_history.proofs.Texts.{are_seen, seen_joined}

-- what a test of size says
pub below : (bits n : ℕ) → is_below bits n ≡ true → n < 2 ^ bits
below bits n h = ltb-true n (2 ^ bits) h

-- ---- decimal numbers

abbrev read_on : ℕ → List ℕ → ℕ
read_on n [] = n
read_on n (c ∷ cs) = read_on (10 * n + (c - 48)) cs

own : IsNumeralModel (λ ds. all_ascii_digits ds ≡ true) (read_on 0)
own = numerals_by_fold _ (search rules) read_on (search rules)

digit_seen : (c : ℕ) → is_ascii_digit c ≡ true → ltb 32 c ≡ true
digit_seen c h = grind (arith, nat_tests)

digits_seen : (ds : List ℕ) → all_ascii_digits ds ≡ true → are_seen ds ≡ true
digits_seen [] h = refl
digits_seen (c ∷ ds) h = let parts = and_parts (is_ascii_digit c) (all_ascii_digits ds) h in and_from _ _ (digit_seen c parts.0) (digits_seen ds parts.1)

pub decimal_digits : (n : ℕ) → n < 2 ^ 64 → all_ascii_digits (decimal n) ≡ true
decimal_digits n h = digits_decimal own n h

pub decimal_seen : (n : ℕ) → n < 2 ^ 64 → are_seen (decimal n) ≡ true
decimal_seen n h = digits_seen (decimal n) (decimal_digits n h)

some_same : {X : Type 0} (x y : X) → Some x ≡ Some y → x ≡ y
some_same x y h = cc

pub decimal_told : (m n : ℕ) → m < 2 ^ 64 → n < 2 ^ 64 → decimal m ≡ decimal n → m ≡ n
decimal_told m n h k e =
    some_same m n (sym (decimal_below_written (2 ^ 64) m (omega arith) h) ∙ ap (decimal_below (2 ^ 64)) e ∙ decimal_below_written (2 ^ 64) n (omega arith) k)

-- a decimal is no word that begins with a letter
pub decimal_no_word : (n c : ℕ) (t : List ℕ) → n < 2 ^ 64 → is_ascii_digit c ≡ false → decimal n ≡ c ∷ t → true ≡ false
decimal_no_word n c t h k e = sym (and_parts (is_ascii_digit c) (all_ascii_digits t) (ap all_ascii_digits (sym e) ∙ decimal_digits n h)).0 ∙ k

pub signed_seen : (z : ℤ) → is_signed z ≡ true → are_seen (signed_decimal z) ≡ true
signed_seen (pos n) h = let small : n < 2 ^ 31 = below 31 n h in decimal_seen n (omega arith)
signed_seen (negsuc n) h = let small : n < 2 ^ 31 = below 31 n h in decimal_seen (suc n) (omega arith)

pub signed_told : (y z : ℤ) → is_signed y ≡ true → is_signed z ≡ true → signed_decimal y ≡ signed_decimal z → y ≡ z
signed_told (pos m) (pos n) h k e = let p : m < 2 ^ 31 = below 31 m h in let q : n < 2 ^ 31 = below 31 n k in signed_decimal_injective (pos m) (pos n) (omega arith) (omega arith) e
signed_told (pos m) (negsuc n) h k e = let p : m < 2 ^ 31 = below 31 m h in let q : n < 2 ^ 31 = below 31 n k in signed_decimal_injective (pos m) (negsuc n) (omega arith) (omega arith) e
signed_told (negsuc m) (pos n) h k e = let p : m < 2 ^ 31 = below 31 m h in let q : n < 2 ^ 31 = below 31 n k in signed_decimal_injective (negsuc m) (pos n) (omega arith) (omega arith) e
signed_told (negsuc m) (negsuc n) h k e = let p : m < 2 ^ 31 = below 31 m h in let q : n < 2 ^ 31 = below 31 n k in signed_decimal_injective (negsuc m) (negsuc n) (omega arith) (omega arith) e

-- ---- hexadecimal digits

abbrev are_right : ℕ → Bool
are_right zero = true
are_right (suc n) = ltb 32 (slice_index lower_digits n) && are_right n

are_right-at : (n v : ℕ) → are_right n ≡ true → v < n → ltb 32 (slice_index lower_digits v) ≡ true
are_right-at zero v h less = absurd (omega arith)
are_right-at (suc n) v h less =
    let parts = and_parts (ltb 32 (slice_index lower_digits n)) (are_right n) h in
    elim (cases_lt v n) [
      | inl low ↦ are_right-at n v parts.1 low
      | inr top ↦ let e : v ≡ n = omega arith in rw e parts.0
    ]

hex_digit_seen : (v : ℕ) → v < 16 → ltb 32 (slice_index lower_digits v) ≡ true
hex_digit_seen v h = are_right-at 16 v refl h

digits_of_bytes_seen : (bytes : List ℕ) → are_bytes bytes ≡ true → are_seen (encode_lower bytes) ≡ true
unfolding encode_with
digits_of_bytes_seen [] h = refl
digits_of_bytes_seen (b ∷ bytes) h =
    let parts = and_parts (is_below 8 b) (are_bytes bytes) h in
    let small : b < 2 ^ 8 = below 8 b parts.0 in
    and_from _ _ (hex_digit_seen (b / 16) (omega arith)) (and_from _ _ (hex_digit_seen (b % 16) (omega arith)) (digits_of_bytes_seen bytes parts.1))

pub bytes_are : (bytes : List ℕ) → are_bytes bytes ≡ true → IsBytes bytes
bytes_are [] h i = omega arith
bytes_are (b ∷ bytes) h zero = let small : b < 2 ^ 8 = below 8 b (and_parts (is_below 8 b) (are_bytes bytes) h).0 in small
bytes_are (b ∷ bytes) h (suc i) = bytes_are bytes (and_parts (is_below 8 b) (are_bytes bytes) h).1 i

pub hex_seen : (bytes : List ℕ) → are_bytes bytes ≡ true → are_seen (hex_text bytes) ≡ true
unfolding hex_text
hex_seen [] h = refl
hex_seen (b ∷ bytes) h = digits_of_bytes_seen (b ∷ bytes) h

pub hex_told : (m n : List ℕ) → are_bytes m ≡ true → are_bytes n ≡ true → hex_text m ≡ hex_text n → m ≡ n
hex_told m n h k e = some_same m n (sym (hex_written m (bytes_are m h)) ∙ ap hex_of e ∙ hex_written n (bytes_are n k))

-- ---- addresses

four_seen : (separator : ℕ) (print : ℕ → List ℕ) (a b c d : ℕ) → ltb 32 separator ≡ true → are_seen (print a) ≡ true → are_seen (print b) ≡ true → are_seen (print c) ≡ true → are_seen (print d) ≡ true →
    are_seen (four_text separator print a b c d) ≡ true
unfolding four_text
four_seen separator print a b c d s ha hb hc hd =
    seen_joined ((print a ++ separator ∷ print b) ++ separator ∷ print c) (separator ∷ print d)
    (seen_joined (print a ++ separator ∷ print b) (separator ∷ print c) (seen_joined (print a) (separator ∷ print b) ha (and_from _ _ s hb)) (and_from _ _ s hc)) (and_from _ _ s hd)

pub ipv4_seen : (a : ℕ) → a < 2 ^ 32 → are_seen (ipv4_text a) ≡ true
unfolding ipv4_text
ipv4_seen a h = four_seen 46 decimal _ _ _ _ refl (decimal_seen _ (omega arith)) (decimal_seen _ (omega arith)) (decimal_seen _ (omega arith)) (decimal_seen _ (omega arith))

pub ipv4_told : (a b : ℕ) → a < 2 ^ 32 → b < 2 ^ 32 → ipv4_text a ≡ ipv4_text b → a ≡ b
ipv4_told a b h k e = some_same a b (sym (ipv4_written a h) ∙ ap ipv4_of e ∙ ipv4_written b k)

group_seen : (n : ℕ) → n < 2 ^ 16 → are_seen (group_text n) ≡ true
group_seen n h = digits_of_bytes_seen (to_be_bytes w16 n) (and_from _ _ (lt-ltb (n / 256 ^ 1 % 256) (2 ^ 8) (omega arith)) (and_from _ _ (lt-ltb (n % 256) (2 ^ 8) (omega arith)) refl))

half_seen : (n : ℕ) → n < 2 ^ 64 → are_seen (ipv6_half_text n) ≡ true
unfolding ipv6_half_text
half_seen n h = four_seen 58 group_text _ _ _ _ refl (group_seen _ (omega arith)) (group_seen _ (omega arith)) (group_seen _ (omega arith)) (group_seen _ (omega arith))

pub ipv6_seen : (a : ℕ) → a < 2 ^ 128 → are_seen (ipv6_text a) ≡ true
unfolding ipv6_text
ipv6_seen a h = seen_joined (ipv6_half_text (a / 2 ^ 64)) (58 ∷ ipv6_half_text (a % 2 ^ 64)) (half_seen _ (omega arith)) (and_from _ _ refl (half_seen _ (omega arith)))

pub ipv6_told : (a b : ℕ) → a < 2 ^ 128 → b < 2 ^ 128 → ipv6_text a ≡ ipv6_text b → a ≡ b
ipv6_told a b h k e = some_same a b (sym (ipv6_written a h) ∙ ap ipv6_of e ∙ ipv6_written b k)

-- ---- labels and service types

three_seen : (b : ℕ) → are_seen (three_digits b) ≡ true
three_seen b = and_from _ _ (above (b / 100)) (and_from _ _ (above (b / 10 % 10)) (and_from _ _ (above (b % 10)) refl))
  where
    above : (d : ℕ) → ltb 32 (48 + d) ≡ true
    above d = grind (arith, nat_tests)

byte_seen : (b : ℕ) → are_seen (byte_text b) ≡ true
byte_seen b = go (eqb b 46 || eqb b 92) refl (leb b 32 || leb 127 b) refl
  where
    above : (b : ℕ) → (leb b 32 || leb 127 b) ≡ false → ltb 32 b ≡ true
    above b h = grind (arith, nat_tests)

    dot : (b : ℕ) → (eqb b 46 || eqb b 92) ≡ true → ltb 32 b ≡ true
    dot b h = grind (arith, nat_tests)

    go : (c : Bool) → (eqb b 46 || eqb b 92) ≡ c → (d : Bool) → (leb b 32 || leb 127 b) ≡ d → are_seen (cond c (92 ∷ b ∷ []) (cond d (92 ∷ three_digits b) (b ∷ []))) ≡ true
    go true h d k = and_from _ _ refl (and_from _ _ (dot b h) refl)
    go false h true k = and_from _ _ refl (three_seen b)
    go false h false k = and_from _ _ (above b k) refl

label_seen : (label : List ℕ) → are_seen (label_text label) ≡ true
label_seen [] = refl
label_seen (b ∷ label) = seen_joined (byte_text b) (label_text label) (byte_seen b) (label_seen label)

pub label_token_seen : (label : List ℕ) → are_seen (label_token label) ≡ true
label_token_seen [] = refl
label_token_seen (b ∷ label) = label_seen (b ∷ label)

abbrev byte_items : List ℕ → List TextItem
byte_items [] = []
byte_items (b ∷ label) = Byte b ∷ byte_items label

items_of-text : (label : List ℕ) → are_bytes label ≡ true → items_of (label_text label) ≡ byte_items label
items_of-text [] h = items_of-none [] refl
items_of-text (b ∷ label) h =
    let parts = and_parts (is_below 8 b) (are_bytes label) h in
    items_of-byte b (label_text label) (below 8 b parts.0) ∙ ap (λ (l : List TextItem). Byte b ∷ l) (items_of-text label parts.1)

byte_items-told : (l m : List ℕ) → byte_items l ≡ byte_items m → l ≡ m
byte_items-told [] [] e = refl
byte_items-told [] (c ∷ m) e = cc
byte_items-told (b ∷ l) [] e = cc
byte_items-told (b ∷ l) (c ∷ m) e = let head : b ≡ c = cc in let rest : byte_items l ≡ byte_items m = cc in λ i. head i ∷ byte_items-told l m rest i

empty_token : items_of (92 ∷ 101 ∷ []) ≡ Bad ∷ Byte 101 ∷ []
empty_token = items_of-next 92 (101 ∷ []) (101 ∷ []) Bad refl refl ∙ ap (λ (l : List TextItem). Bad ∷ l) (items_of-next 101 [] [] (Byte 101) refl refl ∙ ap (λ (l : List TextItem). Byte 101 ∷ l) (items_of-none [] refl))

pub label_token_told : (l m : List ℕ) → are_bytes l ≡ true → are_bytes m ≡ true → label_token l ≡ label_token m → l ≡ m
label_token_told [] [] h k e = refl
label_token_told [] (c ∷ m) h k e = let no : Bad ∷ Byte 101 ∷ [] ≡ Byte c ∷ byte_items m = sym empty_token ∙ ap items_of e ∙ items_of-text (c ∷ m) k in cc
label_token_told (b ∷ l) [] h k e = let no : Byte b ∷ byte_items l ≡ Bad ∷ Byte 101 ∷ [] = sym (items_of-text (b ∷ l) h) ∙ ap items_of e ∙ empty_token in cc
label_token_told (b ∷ l) (c ∷ m) h k e = byte_items-told (b ∷ l) (c ∷ m) (sym (items_of-text (b ∷ l) h) ∙ ap items_of e ∙ items_of-text (c ∷ m) k)

-- a byte of a service type as an item: dots are themselves
abbrev type_item : ℕ → TextItem
type_item b = cond (eqb b 46) Dot (Byte b)

abbrev type_items : List ℕ → List TextItem
type_items [] = []
type_items (b ∷ l) = type_item b ∷ type_items l

type_byte_seen : (b : ℕ) → are_seen (type_byte b) ≡ true
type_byte_seen b = go (eqb b 46) refl
  where
    dot : (b : ℕ) → eqb b 46 ≡ true → ltb 32 b ≡ true
    dot b h = grind (arith, nat_tests)

    go : (c : Bool) → eqb b 46 ≡ c → are_seen (cond c (b ∷ []) (byte_text b)) ≡ true
    go true h = and_from _ _ (dot b h) refl
    go false h = byte_seen b

type_seen : (l : List ℕ) → are_seen (flat_map type_byte l) ≡ true
type_seen [] = refl
type_seen (b ∷ l) = seen_joined (type_byte b) (flat_map type_byte l) (type_byte_seen b) (type_seen l)

pub type_token_seen : (l : List ℕ) → are_seen (type_token l) ≡ true
type_token_seen [] = refl
type_token_seen (b ∷ l) = type_seen (b ∷ l)

items_of-type_byte : (b : ℕ) (rest : List ℕ) → is_below 8 b ≡ true → items_of (type_byte b ++ rest) ≡ type_item b ∷ items_of rest
items_of-type_byte b rest h = go (eqb b 46) refl
  where
    go : (c : Bool) → eqb b 46 ≡ c → items_of (cond c (b ∷ []) (byte_text b) ++ rest) ≡ cond c Dot (Byte b) ∷ items_of rest
    go true k = items_of-next b rest rest Dot (rw k refl) (rw k refl)
    go false k = items_of-byte b rest (below 8 b h)

items_of-type : (l : List ℕ) → are_bytes l ≡ true → items_of (flat_map type_byte l) ≡ type_items l
items_of-type [] h = items_of-none [] refl
items_of-type (b ∷ l) h =
    let parts = and_parts (is_below 8 b) (are_bytes l) h in
    items_of-type_byte b (flat_map type_byte l) parts.0 ∙ ap (λ (i : List TextItem). type_item b ∷ i) (items_of-type l parts.1)

type_item-told : (b c : ℕ) → type_item b ≡ type_item c → b ≡ c
type_item-told b c e = go (eqb b 46) refl (eqb c 46) refl e
  where
    go : (p : Bool) → eqb b 46 ≡ p → (q : Bool) → eqb c 46 ≡ q → cond p Dot (Byte b) ≡ cond q Dot (Byte c) → b ≡ c
    go true h true k e = eqb-true b 46 h ∙ sym (eqb-true c 46 k)
    go true h false k e = cc
    go false h true k e = cc
    go false h false k e = cc

type_items-told : (l m : List ℕ) → type_items l ≡ type_items m → l ≡ m
type_items-told [] [] e = refl
type_items-told [] (c ∷ m) e = cc
type_items-told (b ∷ l) [] e = cc
type_items-told (b ∷ l) (c ∷ m) e =
    let head : type_item b ≡ type_item c = cc in let rest : type_items l ≡ type_items m = cc in
    let first : b ≡ c = type_item-told b c head in λ i. first i ∷ type_items-told l m rest i

no_bad : (c : ℕ) (m : List ℕ) → Bad ∷ Byte 101 ∷ [] ≡ type_item c ∷ type_items m → true ≡ false
no_bad c m e = go (eqb c 46) e
  where
    go : (p : Bool) → Bad ∷ Byte 101 ∷ [] ≡ cond p Dot (Byte c) ∷ type_items m → true ≡ false
    go true e = cc
    go false e = cc

pub type_token_told : (l m : List ℕ) → are_bytes l ≡ true → are_bytes m ≡ true → type_token l ≡ type_token m → l ≡ m
type_token_told [] [] h k e = refl
type_token_told [] (c ∷ m) h k e = let no : true ≡ false = no_bad c m (sym empty_token ∙ ap items_of e ∙ items_of-type (c ∷ m) k) in cc
type_token_told (b ∷ l) [] h k e = let no : true ≡ false = no_bad b l (sym (sym (items_of-type (b ∷ l) h) ∙ ap items_of e ∙ empty_token)) in cc
type_token_told (b ∷ l) (c ∷ m) h k e = type_items-told (b ∷ l) (c ∷ m) (sym (items_of-type (b ∷ l) h) ∙ ap items_of e ∙ items_of-type (c ∷ m) k)

-- ---- names

labels_seen : (name : List (List ℕ)) → are_seen (flat_map (λ l. label_text l ++ 46 ∷ []) name) ≡ true
labels_seen [] = refl
labels_seen (label ∷ name) = seen_joined (label_text label ++ 46 ∷ []) _ (seen_joined (label_text label) (46 ∷ []) (label_seen label) refl) (labels_seen name)

pub name_seen : (name : List (List ℕ)) → are_seen (name_text name) ≡ true
name_seen [] = refl
name_seen (label ∷ name) = labels_seen (label ∷ name)

pub name_told : (m n : List (List ℕ)) → is_spellable_name m ≡ true → is_spellable_name n ≡ true → name_text m ≡ name_text n → m ≡ n
name_told m n h k e =
    let p = and_parts (is_name m) (list_all are_bytes m) h in
    let q = and_parts (is_name n) (list_all are_bytes n) k in
    some_same m n (ap result_ok (sym (read_name-name_text m p.0 p.1) ∙ ap read_name e ∙ read_name-name_text n q.0 q.1))
