-- Records as text are ASCII, so they are UTF-8.
use Rattle.std.proofs.Common.{◌≡◌, ℕ, zero, suc, ◌+◌, ◌/◌, ◌%◌, ◌^◌, ◌<◌, Bool, true, false, cond, ◌&&◌, ◌||◌, eqb, ltb, leb, List, [], ◌∷◌, ◌++◌, Option, refl, ap, ◌∙◌, inl, inr, arith, codes}
use Rattle.std.specs.Prelude.{decimal, slice_index}
use Rattle.std.specs.Char.{is_ascii_digit}
use Rattle.std.specs.Int.{to_be_bytes, w16}
use Rattle.std.specs.List.{list_all, flat_map}
use Rattle.std.specs.Option.{unwrap_or}
use Rattle.std.specs.Str.{is_utf8, IsAscii, all_ascii_digits}
use Rattle.std.proofs.lemmas.Bool.{ltb-true, lt-ltb, cases_lt, and_from, and_parts}
use Rattle.std.proofs.lemmas.Bool.Decides.{nat_tests}
use Rattle.std.proofs.lemmas.Str.{is_utf8-from_IsUtf8, IsUtf8-from_ascii}
use Rattle.std.proofs.lemmas.Str.Ascii.{IsAscii-nil, IsAscii-cons}
use Rattle.hex.specs.Hex.{encode_with, encode_lower, lower_digits}
use Rattle.number_text.specs.Digits.{hex_text, ipv4_text, ipv6_text, ipv6_half_text, four_text, group_text}
use Rattle.dns_name.specs.Names.{is_name}
use Rattle.dns_name.specs.NameText.{three_digits, byte_text, label_text, name_text}
use Rattle.dns_record.specs.Records.{kind_of, is_rdata}
use Rattle.dns_record.specs.RecordText.{space, kind_name, kind_text, data_text, flush_text, record_text}
use Rattle.dns_record.specs.declared.record.Rdata.{Rdata}
use Rattle.dns_record.specs.declared.record.Rdata.TheVariants.{A, Aaaa, Ptr, Cname, Srv, Txt, Nsec, Raw}
use Rattle.dns_record.specs.declared.record.Rr.{Rr}
use Rattle.dns_record.proofs.KindTexts.{kind_cases}
use Rattle.dns_message.specs.Writing.{is_below, are_bytes, is_spellable_name, is_spellable_data, is_spellable_record}
use Rattle.mdns_history.proofs.Texts.{all_joined}
use Rattle.mdns_history.proofs.TokenTexts.{below, decimal_digits}
use Rattle.mdns_history.proofs.RecordTexts.{kind_small, three, four}

-- bytes of ASCII
abbrev are_ascii : List ℕ → Bool
are_ascii text = list_all (λ b. ltb b 128) text

joined : (t u : List ℕ) → are_ascii t ≡ true → are_ascii u ≡ true → are_ascii (t ++ u) ≡ true
joined t u h k = all_joined (λ b. ltb b 128) t u h k

is_ascii : (text : List ℕ) → are_ascii text ≡ true → IsAscii text
is_ascii [] h = IsAscii-nil
is_ascii (b ∷ text) h = let parts = and_parts (ltb b 128) (are_ascii text) h in IsAscii-cons b text (ltb-true b 128 parts.0) (is_ascii text parts.1)

utf8 : (text : List ℕ) → are_ascii text ≡ true → is_utf8 text ≡ true
utf8 text h = is_utf8-from_IsUtf8 text (IsUtf8-from_ascii text (is_ascii text h))

-- ---- numbers

digits_ascii : (t : List ℕ) → all_ascii_digits t ≡ true → are_ascii t ≡ true
digits_ascii [] h = refl
digits_ascii (b ∷ t) h = let parts = and_parts (is_ascii_digit b) (all_ascii_digits t) h in and_from _ _ (digit b parts.0) (digits_ascii t parts.1)
  where
    digit : (b : ℕ) → is_ascii_digit b ≡ true → ltb b 128 ≡ true
    digit b h = grind (arith, nat_tests)

decimal_ascii : (n : ℕ) → n < 2 ^ 64 → are_ascii (decimal n) ≡ true
decimal_ascii n h = digits_ascii (decimal n) (decimal_digits n h)

-- ---- hexadecimal digits

abbrev are_right : ℕ → Bool
are_right zero = true
are_right (suc n) = ltb (slice_index lower_digits n) 128 && are_right n

are_right-at : (n v : ℕ) → are_right n ≡ true → v < n → ltb (slice_index lower_digits v) 128 ≡ true
are_right-at zero v h less = absurd (omega arith)
are_right-at (suc n) v h less =
    let parts = and_parts (ltb (slice_index lower_digits n) 128) (are_right n) h in
    elim (cases_lt v n) [
      | inl low ↦ are_right-at n v parts.1 low
      | inr top ↦ let e : v ≡ n = omega arith in rw e parts.0
    ]

hex_digit_ascii : (v : ℕ) → v < 16 → ltb (slice_index lower_digits v) 128 ≡ true
hex_digit_ascii v h = are_right-at 16 v refl h

digits_of_bytes_ascii : (bytes : List ℕ) → are_bytes bytes ≡ true → are_ascii (encode_lower bytes) ≡ true
unfolding encode_with
digits_of_bytes_ascii [] h = refl
digits_of_bytes_ascii (b ∷ bytes) h =
    let parts = and_parts (is_below 8 b) (are_bytes bytes) h in
    let small : b < 2 ^ 8 = below 8 b parts.0 in
    and_from _ _ (hex_digit_ascii (b / 16) (omega arith)) (and_from _ _ (hex_digit_ascii (b % 16) (omega arith)) (digits_of_bytes_ascii bytes parts.1))

hex_ascii : (bytes : List ℕ) → are_bytes bytes ≡ true → are_ascii (hex_text bytes) ≡ true
unfolding hex_text
hex_ascii [] h = refl
hex_ascii (b ∷ bytes) h = digits_of_bytes_ascii (b ∷ bytes) h

-- ---- addresses

four_ascii : (separator : ℕ) (print : ℕ → List ℕ) (a b c d : ℕ) → ltb separator 128 ≡ true → are_ascii (print a) ≡ true → are_ascii (print b) ≡ true → are_ascii (print c) ≡ true → are_ascii (print d) ≡ true →
    are_ascii (four_text separator print a b c d) ≡ true
unfolding four_text
four_ascii separator print a b c d s ha hb hc hd =
    joined ((print a ++ separator ∷ print b) ++ separator ∷ print c) (separator ∷ print d)
    (joined (print a ++ separator ∷ print b) (separator ∷ print c) (joined (print a) (separator ∷ print b) ha (and_from _ _ s hb)) (and_from _ _ s hc)) (and_from _ _ s hd)

ipv4_ascii : (a : ℕ) → a < 2 ^ 32 → are_ascii (ipv4_text a) ≡ true
unfolding ipv4_text
ipv4_ascii a h = four_ascii 46 decimal _ _ _ _ refl (decimal_ascii _ (omega arith)) (decimal_ascii _ (omega arith)) (decimal_ascii _ (omega arith)) (decimal_ascii _ (omega arith))

group_ascii : (n : ℕ) → n < 2 ^ 16 → are_ascii (group_text n) ≡ true
group_ascii n h = digits_of_bytes_ascii (to_be_bytes w16 n) (and_from _ _ (lt-ltb (n / 256 ^ 1 % 256) (2 ^ 8) (omega arith)) (and_from _ _ (lt-ltb (n % 256) (2 ^ 8) (omega arith)) refl))

half_ascii : (n : ℕ) → n < 2 ^ 64 → are_ascii (ipv6_half_text n) ≡ true
unfolding ipv6_half_text
half_ascii n h = four_ascii 58 group_text _ _ _ _ refl (group_ascii _ (omega arith)) (group_ascii _ (omega arith)) (group_ascii _ (omega arith)) (group_ascii _ (omega arith))

ipv6_ascii : (a : ℕ) → a < 2 ^ 128 → are_ascii (ipv6_text a) ≡ true
unfolding ipv6_text
ipv6_ascii a h = joined (ipv6_half_text (a / 2 ^ 64)) (58 ∷ ipv6_half_text (a % 2 ^ 64)) (half_ascii _ (omega arith)) (and_from _ _ refl (half_ascii _ (omega arith)))

-- ---- names

byte_ascii : (b : ℕ) → b < 256 → are_ascii (byte_text b) ≡ true
byte_ascii b small = go (eqb b 46 || eqb b 92) refl (leb b 32 || leb 127 b) refl
  where
    digit : (d : ℕ) → d < 10 → ltb (48 + d) 128 ≡ true
    digit d less = lt-ltb (48 + d) 128 (omega arith)

    under : (b : ℕ) → (leb b 32 || leb 127 b) ≡ false → ltb b 128 ≡ true
    under b h = grind (arith, nat_tests)

    dot : (b : ℕ) → (eqb b 46 || eqb b 92) ≡ true → ltb b 128 ≡ true
    dot b h = grind (arith, nat_tests)

    go : (c : Bool) → (eqb b 46 || eqb b 92) ≡ c → (d : Bool) → (leb b 32 || leb 127 b) ≡ d → are_ascii (cond c (92 ∷ b ∷ []) (cond d (92 ∷ three_digits b) (b ∷ []))) ≡ true
    go true h d k = and_from _ _ refl (and_from _ _ (dot b h) refl)
    go false h true k =
        and_from _ _ refl (and_from _ _ (digit (b / 100) (omega arith)) (and_from _ _ (digit (b / 10 % 10) (omega arith)) (and_from _ _ (digit (b % 10) (omega arith)) refl)))
    go false h false k = and_from _ _ (under b k) refl

label_ascii : (label : List ℕ) → are_bytes label ≡ true → are_ascii (label_text label) ≡ true
label_ascii [] h = refl
label_ascii (b ∷ label) h =
    let parts = and_parts (is_below 8 b) (are_bytes label) h in joined (byte_text b) (label_text label) (byte_ascii b (below 8 b parts.0)) (label_ascii label parts.1)

labels_ascii : (name : List (List ℕ)) → list_all are_bytes name ≡ true → are_ascii (flat_map (λ l. label_text l ++ 46 ∷ []) name) ≡ true
labels_ascii [] h = refl
labels_ascii (label ∷ name) h =
    let parts = and_parts (are_bytes label) (list_all are_bytes name) h in
    joined (label_text label ++ 46 ∷ []) _ (joined (label_text label) (46 ∷ []) (label_ascii label parts.0) refl) (labels_ascii name parts.1)

name_ascii : (name : List (List ℕ)) → is_spellable_name name ≡ true → are_ascii (name_text name) ≡ true
name_ascii [] h = refl
name_ascii (label ∷ name) h = labels_ascii (label ∷ name) (and_parts (is_name (label ∷ name)) (list_all are_bytes (label ∷ name)) h).1

pub name_utf8 : (name : List (List ℕ)) → is_spellable_name name ≡ true → is_utf8 (name_text name) ≡ true
name_utf8 name h = utf8 (name_text name) (name_ascii name h)

-- ---- records

kind_ascii : (k : ℕ) → k < 2 ^ 16 → are_ascii (kind_text k) ≡ true
unfolding kind_text kind_name
kind_ascii k =
    kind_cases (λ n. n < 2 ^ 16 → are_ascii (kind_text n) ≡ true) (λ h. refl) (λ h. refl) (λ h. refl) (λ h. refl) (λ h. refl) (λ h. refl) (λ h. refl)
    (λ h. refl) (λ h. refl) (λ h. refl) (λ h. refl) (λ h. refl) (λ h. refl) (λ n e h. ap (λ (o : Option (List ℕ)). are_ascii (unwrap_or o (codes "TYPE" ++ decimal n))) e ∙ decimal_ascii n (omega arith)) k

-- a word, and another behind a space
spaced : (t u : List ℕ) → are_ascii t ≡ true → are_ascii u ≡ true → are_ascii ((t ++ space) ++ u) ≡ true
spaced t u h k = joined (t ++ space) u (joined t space h refl) k

number_ascii : (bits n : ℕ) → is_below bits n ≡ true → 2 ^ bits < 2 ^ 64 + 1 → are_ascii (decimal n) ≡ true
number_ascii bits n h small = let less : n < 2 ^ bits = below bits n h in decimal_ascii n (omega arith)

data_ascii : (rdata : Rdata) → is_spellable_data rdata ≡ true → are_ascii (data_text rdata) ≡ true
unfolding data_text
data_ascii (A address) h = ipv4_ascii address (below 32 address h)
data_ascii (Aaaa address) h = ipv6_ascii address (below 128 address h)
data_ascii (Ptr name) h = name_ascii name h
data_ascii (Cname name) h = name_ascii name h
data_ascii (Srv priority weight port target) h =
    let p = four (is_below 16 priority) (is_below 16 weight) (is_below 16 port) (is_spellable_name target) h in
    spaced ((decimal priority ++ space ++ decimal weight) ++ space ++ decimal port) (name_text target)
    (spaced (decimal priority ++ space ++ decimal weight) (decimal port)
    (spaced (decimal priority) (decimal weight) (number_ascii 16 priority p.0 (omega arith)) (number_ascii 16 weight p.1 (omega arith)))
    (number_ascii 16 port p.2 (omega arith))) (name_ascii target p.3)
data_ascii (Txt bytes) h = hex_ascii bytes h
data_ascii (Nsec next bitmap) h = let p = and_parts (is_spellable_name next) (are_bytes bitmap) h in spaced (name_text next) (hex_text bitmap) (name_ascii next p.0) (hex_ascii bitmap p.1)
data_ascii (Raw kind bytes) h = hex_ascii bytes (three (is_below 16 kind) (are_bytes bytes) (is_rdata (Raw kind bytes)) h).1

flush_ascii : (flush : Bool) → are_ascii (flush_text flush) ≡ true
flush_ascii true = refl
flush_ascii false = refl

pub record_utf8 : (rr : Rr) → is_spellable_record rr ≡ true → is_utf8 (record_text rr) ≡ true
unfolding record_text
record_utf8 rr h =
    let p = three (is_spellable_name rr.owner) (is_below 32 rr.ttl) (is_spellable_data rr.rdata) h in
    utf8 (record_text rr)
    (spaced (((name_text rr.owner ++ space ++ decimal rr.ttl) ++ space ++ flush_text rr.flush) ++ space ++ kind_text (kind_of rr.rdata)) (data_text rr.rdata)
    (spaced ((name_text rr.owner ++ space ++ decimal rr.ttl) ++ space ++ flush_text rr.flush) (kind_text (kind_of rr.rdata))
    (spaced (name_text rr.owner ++ space ++ decimal rr.ttl) (flush_text rr.flush)
    (spaced (name_text rr.owner) (decimal rr.ttl) (name_ascii rr.owner p.0) (number_ascii 32 rr.ttl p.1 (omega arith))) (flush_ascii rr.flush))
    (kind_ascii (kind_of rr.rdata) (kind_small rr.rdata p.2))) (data_ascii rr.rdata p.2))
