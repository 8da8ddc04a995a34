-- What is read of a text of bytes has bytes.
use Rattle.std.proofs.Common.{◌≡◌, ℕ, zero, suc, ◌+◌, ◌-◌, ◌*◌, ◌/◌, ◌%◌, ◌^◌, ◌<◌, ◌≤◌, ◌==◌, Bool, true, false, cond, ◌&&◌, ◌||◌, ltb, leb, List, [], ◌∷◌, Option, Some, None, length, take, refl, ap, sym, ◌∙◌, inl, inr, arith, subst}
use Rattle.std.specs.Prelude.{filter, slice_index}
use Rattle.std.specs.Char.{is_ascii_digit}
use Rattle.std.specs.List.{list_all, onto_first}
use Rattle.std.specs.Option.{option_map, option_map_or}
use Rattle.std.specs.Str.{is_utf8}
use Rattle.std.proofs.Math.Utf8.{encode, encodes, scalar, scalars, scalar_cases}
use Rattle.std.proofs.lemmas.Bool.{ltb-true, lt-ltb, leb-true, and_from, and_parts}
use Rattle.std.proofs.lemmas.List.Folds.{list_all-append}
use Rattle.std.proofs.lemmas.Str.{IsUtf8-from_is_utf8}
use Rattle.dns_name.specs.TextItems.{decimal_byte, escaped, item_at, items_past, items_of, bytes_spelled}
use Rattle.dns_name.specs.ReadName.{labels_spelled}
use Rattle.dns_name.specs.declared.items.TextItem.{TextItem}
use Rattle.dns_name.specs.declared.items.TextItem.TheVariants.{Dot, Byte, Bad}
use Rattle.dns_message.specs.Writing.{is_below, are_bytes}

byte_is : (b : ℕ) → b < 256 → is_below 8 b ≡ true
byte_is b h = lt-ltb b (2 ^ 8) (omega arith)

-- bytes, by each place
pub bytes_from : (bytes : List ℕ) → ((i : ℕ) → slice_index bytes i < 256) → are_bytes bytes ≡ true
bytes_from [] h = refl
bytes_from (b ∷ bytes) h = and_from _ _ (byte_is b (h 0)) (bytes_from bytes (λ i. h (suc i)))

-- ---- UTF-8

encode_bytes : (c : ℕ) → scalar c ≡ true → are_bytes (encode c) ≡ true
unfolding encode
encode_bytes c h = go (ltb c 128) refl (ltb c 2048) refl (ltb c 65536) refl
  where
    most : c < 1114112
    most = elim (scalar_cases c h) [ inl low ↦ omega arith | inr high ↦ high.1 ]

    next : (n : ℕ) → is_below 8 (128 + n % 64) ≡ true
    next n = byte_is (128 + n % 64) (omega arith)

    go : (x : Bool) → ltb c 128 ≡ x → (y : Bool) → ltb c 2048 ≡ y → (z : Bool) → ltb c 65536 ≡ z →
        are_bytes (cond x (c ∷ []) (cond y ((192 + c / 64) ∷ (128 + c % 64) ∷ []) (cond z ((224 + c / 4096) ∷ (128 + c / 64 % 64) ∷ (128 + c % 64) ∷ [])
        ((240 + c / 262144) ∷ (128 + c / 4096 % 64) ∷ (128 + c / 64 % 64) ∷ (128 + c % 64) ∷ [])))) ≡ true
    go true e y f z g = and_from _ _ (byte_is c (omega (arith, ltb-true c 128 e))) refl
    go false e true f z g = and_from _ _ (byte_is (192 + c / 64) (omega (arith, ltb-true c 2048 f))) (and_from _ _ (next c) refl)
    go false e false f true g = and_from _ _ (byte_is (224 + c / 4096) (omega (arith, ltb-true c 65536 g))) (and_from _ _ (next (c / 64)) (and_from _ _ (next c) refl))
    go false e false f false g = and_from _ _ (byte_is (240 + c / 262144) (omega (arith, most))) (and_from _ _ (next (c / 4096)) (and_from _ _ (next (c / 64)) (and_from _ _ (next c) refl)))

encodes_bytes : (cs : List ℕ) → scalars cs ≡ true → are_bytes (encodes cs) ≡ true
encodes_bytes [] h = refl
encodes_bytes (c ∷ cs) h =
    let parts = and_parts (scalar c) (scalars cs) h in
    list_all-append (is_below 8) (encode c) (encodes cs) ∙ and_from _ _ (encode_bytes c parts.0) (encodes_bytes cs parts.1)

-- text is made of bytes
pub utf8_bytes : (text : List ℕ) → is_utf8 text ≡ true → are_bytes text ≡ true
utf8_bytes text h = let u = IsUtf8-from_is_utf8 text h in sym (ap are_bytes u.1.1) ∙ encodes_bytes u.0 u.1.0

-- ---- items

-- an item of bytes
abbrev pub is_item : TextItem → Bool
is_item (Byte b) = is_below 8 b
is_item Dot = true
is_item Bad = true

abbrev pub are_items : List TextItem → Bool
are_items items = list_all is_item items

decimal_small : (digits : List ℕ) (n : ℕ) → decimal_byte digits ≡ Some n → n ≤ 255
decimal_small [] n h = absurd (cc)
decimal_small (a ∷ []) n h = absurd (cc)
decimal_small (a ∷ b ∷ []) n h = absurd (cc)
decimal_small (a ∷ b ∷ c ∷ []) n h = go (list_all is_ascii_digit (a ∷ b ∷ c ∷ []) && leb (100 * (a - 48) + 10 * (b - 48) + (c - 48)) 255) refl h
  where
    value : ℕ
    value = 100 * (a - 48) + 10 * (b - 48) + (c - 48)

    go : (t : Bool) → (list_all is_ascii_digit (a ∷ b ∷ c ∷ []) && leb value 255) ≡ t → cond t (Some value) None ≡ Some n → n ≤ 255
    go false e k = absurd (cc)
    go true e k =
        let same : value ≡ n = cc in
        subst (λ (m : ℕ). m ≤ 255) same (leb-true value 255 (and_parts (list_all is_ascii_digit (a ∷ b ∷ c ∷ [])) (leb value 255) e).1)
decimal_small (a ∷ b ∷ c ∷ d ∷ digits) n h = absurd (cc)

spelled_good : (o : Option ℕ) → ((n : ℕ) → o ≡ Some n → n ≤ 255) → is_item (option_map_or {T = ℕ} {U = TextItem × ℕ} (λ n. (Byte n, 3)) o (Bad, 0)).0 ≡ true
spelled_good None h = refl
spelled_good (Some n) h = byte_is n (omega (arith, h n refl))

escaped_good : (text : List ℕ) → are_bytes text ≡ true → is_item (escaped text).0 ≡ true
escaped_good [] h = refl
escaped_good (c ∷ text) h = go (c == 46 || c == 92)
  where
    go : (t : Bool) → is_item (cond {A = TextItem × ℕ} t (Byte c, 1) (option_map_or (λ n. (Byte n, 3)) (decimal_byte (take 3 (c ∷ text))) (Bad, 0))).0 ≡ true
    go true = (and_parts (is_below 8 c) (are_bytes text) h).0
    go false = spelled_good (decimal_byte (take 3 (c ∷ text))) (decimal_small (take 3 (c ∷ text)))

item_good : (b : ℕ) (text : List ℕ) → is_below 8 b ≡ true → are_bytes text ≡ true → is_item (item_at b text).0 ≡ true
item_good b text h k = go (b == 46) (b == 92)
  where
    go : (s t : Bool) → is_item (cond {A = TextItem × ℕ} s (Dot, 0) (cond t (escaped text) (Byte b, 0))).0 ≡ true
    go true t = refl
    go false true = escaped_good text k
    go false false = h

past_good : (passed : ℕ) (text : List ℕ) → are_bytes text ≡ true → are_items (items_past passed text) ≡ true
unfolding items_past
past_good passed [] h = refl
past_good (suc passed) (b ∷ text) h = past_good passed text (and_parts (is_below 8 b) (are_bytes text) h).1
past_good zero (b ∷ text) h =
    let parts = and_parts (is_below 8 b) (are_bytes text) h in and_from _ _ (item_good b text parts.0 parts.1) (past_good (item_at b text).1 text parts.1)

pub items_good : (text : List ℕ) → are_bytes text ≡ true → are_items (items_of text) ≡ true
items_good text h = past_good 0 text h

-- what items spell
pub spelled_bytes : (items : List TextItem) (bytes : List ℕ) → are_items items ≡ true → bytes_spelled items ≡ Some bytes → are_bytes bytes ≡ true
spelled_bytes [] bytes h e = let same : [] ≡ bytes = cc in ap are_bytes (sym same)
spelled_bytes (Dot ∷ items) bytes h e = absurd (cc)
spelled_bytes (Bad ∷ items) bytes h e = absurd (cc)
spelled_bytes (Byte b ∷ items) bytes h e =
    let parts = and_parts (is_below 8 b) (are_items items) h in behind parts.0 (bytes_spelled items) (λ rest f. spelled_bytes items rest parts.1 f) e
  where
    behind : is_below 8 b ≡ true → (o : Option (List ℕ)) → ((rest : List ℕ) → o ≡ Some rest → are_bytes rest ≡ true) → option_map {T = List ℕ} {U = List ℕ} (λ rest. b ∷ rest) o ≡ Some bytes →
        are_bytes bytes ≡ true
    behind k None f g = absurd (cc)
    behind k (Some rest) f g = let same : b ∷ rest ≡ bytes = cc in ap are_bytes (sym same) ∙ and_from _ _ k (f rest refl)

first_bytes : (b : ℕ) (labels : List (List ℕ)) → is_below 8 b ≡ true → list_all are_bytes labels ≡ true → list_all are_bytes (onto_first b labels) ≡ true
first_bytes b [] h k = and_from _ _ (and_from _ _ h refl) refl
first_bytes b (label ∷ labels) h k =
    let parts = and_parts (are_bytes label) (list_all are_bytes labels) k in and_from _ _ (and_from _ _ h parts.0) parts.1

pub labels_bytes : (items : List TextItem) → are_items items ≡ true → list_all are_bytes (labels_spelled items) ≡ true
labels_bytes [] h = refl
labels_bytes (Dot ∷ items) h = labels_bytes items h
labels_bytes (Byte b ∷ items) h = let parts = and_parts (is_below 8 b) (are_items items) h in first_bytes b (labels_spelled items) parts.0 (labels_bytes items parts.1)
labels_bytes (Bad ∷ items) h = labels_bytes items h

pub kept_bytes : (p : List ℕ → Bool) (labels : List (List ℕ)) → list_all are_bytes labels ≡ true → list_all are_bytes (filter p labels) ≡ true
kept_bytes p [] h = refl
kept_bytes p (label ∷ labels) h =
    let parts = and_parts (are_bytes label) (list_all are_bytes labels) h in go (p label) parts.0 (kept_bytes p labels parts.1)
  where
    go : (t : Bool) → are_bytes label ≡ true → list_all are_bytes (filter p labels) ≡ true → list_all are_bytes (cond t (label ∷ filter p labels) (filter p labels)) ≡ true
    go true one rest = and_from _ _ one rest
    go false one rest = rest

-- a text that has bytes has items, and the bytes that these spell are some
pub spelled_some : (text bytes : List ℕ) → 1 ≤ length text → bytes_spelled (items_of text) ≡ Some bytes → 1 ≤ length bytes
unfolding items_past
spelled_some [] bytes h e = absurd (omega arith)
spelled_some (b ∷ text) bytes h e = of (item_at b text).0 (items_past (item_at b text).1 text) e
  where
    of : (item : TextItem) (items : List TextItem) → bytes_spelled (item ∷ items) ≡ Some bytes → 1 ≤ length bytes
    of Dot items f = absurd (cc)
    of Bad items f = absurd (cc)
    of (Byte c) items f = behind (bytes_spelled items) f
      where
        behind : (o : Option (List ℕ)) → option_map {T = List ℕ} {U = List ℕ} (λ rest. c ∷ rest) o ≡ Some bytes → 1 ≤ length bytes
        behind None g = absurd (cc)
        behind (Some rest) g = let same : c ∷ rest ≡ bytes = cc in omega (arith, ap length same)
