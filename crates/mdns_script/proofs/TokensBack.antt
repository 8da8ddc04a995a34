-- What is printed of names, labels, service types and TXT data is read as them.
use Rattle.std.proofs.Common.{◌≡◌, ℕ, ◌+◌, ◌/◌, ◌%◌, ◌^◌, ◌<◌, ◌≤◌, ◌==◌, Bool, true, false, cond, not, ◌&&◌, ◌||◌, eqb, ltb, leb, List, [], ◌∷◌, ◌++◌, Option, Some, length, map, refl, ap, sym, ◌∙◌, arith, length-append, append-nil, codes}
use Rattle.std.specs.Prelude.{nat_le}
use Rattle.std.specs.List.{list_all, flat_map, slice_split, onto_first}
use Rattle.std.specs.Option.{option_map, option_and_then}
use Rattle.std.specs.Str.{bytes_eq, is_utf8, IsAscii}
use Rattle.std.proofs.lemmas.Bool.{ltb-true, lt-ltb, le-leb, leb-true, ne_eqb, eqb-true, and_from, and_parts, or_parts}
use Rattle.std.proofs.lemmas.Bool.Decides.{nat_tests}
use Rattle.std.proofs.lemmas.List.Folds.{list_all-append}
use Rattle.std.proofs.lemmas.Slice.Eq.{bytes_eq-Decides}
use Rattle.std.proofs.lemmas.Str.{is_utf8-from_IsUtf8, IsUtf8-from_ascii}
use Rattle.std.proofs.lemmas.Str.Ascii.{IsAscii-nil, IsAscii-cons}
use Rattle.number_text.specs.Cut.{cut_of}
use Rattle.number_text.proofs.Joined.{lacks, cut_of-joined}
use Rattle.dns_name.specs.Names.{is_name, is_label}
use Rattle.dns_name.specs.NameText.{three_digits, byte_text, label_text, name_text}
use Rattle.dns_name.specs.TextItems.{items_of, bytes_spelled, label_read}
use Rattle.dns_name.specs.declared.items.TextItem.{TextItem}
use Rattle.dns_name.specs.declared.items.TextItem.TheVariants.{Dot, Byte}
use Rattle.dns_name.proofs.ReadBack.{items_of-byte, read_name-name_text}
use Rattle.dns_name.proofs.Spelling.{items_of-next, items_of-none}
use Rattle.dns_message.specs.Writing.{is_below, are_bytes, is_spellable_name}
use Rattle.txt_record.specs.Strings.{is_txt, strings_of, txt_data}
use Rattle.txt_record.proofs.Runs.{txt_data-strings_of, whole_from_is_txt, short_from_is_txt}
use Rattle.sd_call.specs.CallText.{label_token, type_byte, type_token}
use Rattle.mdns_history.specs.Typed.{is_text}
use Rattle.mdns_history.proofs.Texts.{are_seen}
use Rattle.mdns_history.proofs.TokenTexts.{below, label_token_seen, label_token_told, type_token_told}
use Rattle.mdns_history.proofs.RecordTexts.{three}
use Rattle.mdns_script.specs.Tokens.{text_of, is_whole, token_of, name_of, type_spelled, label_of, type_of, host_label_of, string_of, strings_of as tokens_read, short_txt, txt_of}
use Rattle.mdns_script.specs.CommandText.{string_word, txt_words}
use Rattle.mdns_script.specs.Writable.{is_writable_text, is_writable_txt}

-- ---- tokens

-- no space is among what can be seen
pub seen_lacks : (text : List ℕ) → are_seen text ≡ true → lacks 32 text ≡ false
seen_lacks [] h = refl
seen_lacks (b ∷ text) h =
    let parts = and_parts (ltb 32 b) (are_seen text) h in
    let above : 32 < b = ltb-true 32 b parts.0 in
    let other : eqb b 32 ≡ false = ne_eqb b 32 (λ e. absurd (omega arith)) in
    rw (other, seen_lacks text parts.1) refl

-- a word before a space
pub word_cut : (word rest : List ℕ) → are_seen word ≡ true → cut_of 32 (word ++ 32 ∷ rest) ≡ Some (word, rest)
word_cut word rest h = cut_of-joined 32 word rest (seen_lacks word h)

-- ASCII that can be seen
abbrev pub are_plain : List ℕ → Bool
are_plain text = list_all (λ b. ltb 32 b && ltb b 127) text

plain_joined : (t u : List ℕ) → are_plain t ≡ true → are_plain u ≡ true → are_plain (t ++ u) ≡ true
plain_joined [] u h k = k
plain_joined (b ∷ t) u h k = let parts = and_parts (ltb 32 b && ltb b 127) (are_plain t) h in and_from _ _ parts.0 (plain_joined t u parts.1 k)

plain_ascii : (text : List ℕ) → are_plain text ≡ true → IsAscii text
plain_ascii [] h = IsAscii-nil
plain_ascii (b ∷ text) h =
    let parts = and_parts (ltb 32 b && ltb b 127) (are_plain text) h in
    let small : b < 127 = ltb-true b 127 (and_parts (ltb 32 b) (ltb b 127) parts.0).1 in
    IsAscii-cons b text (omega arith) (plain_ascii text parts.1)

plain_whole : (text : List ℕ) → are_plain text ≡ true → is_whole text ≡ true
plain_whole [] h = refl
plain_whole (b ∷ text) h =
    let parts = and_parts (ltb 32 b && ltb b 127) (are_plain text) h in
    let above : 32 < b = ltb-true 32 b (and_parts (ltb 32 b) (ltb b 127) parts.0).0 in
    let other : eqb b 32 ≡ false = ne_eqb b 32 (λ e. absurd (omega arith)) in
    and_from _ _ (ap not other) (plain_whole text parts.1)

pub plain_token : (text : List ℕ) → 1 ≤ length text → are_plain text ≡ true → token_of text ≡ Some text
plain_token text some h =
    let utf8 : is_utf8 text ≡ true = is_utf8-from_IsUtf8 text (IsUtf8-from_ascii text (plain_ascii text h)) in
    let full : eqb (length text) 0 ≡ false = ne_eqb (length text) 0 (λ e. absurd (omega arith)) in
    rw (utf8, full, plain_whole text h) refl

-- ---- bytes of labels

three_plain : (b : ℕ) → b < 256 → are_plain (three_digits b) ≡ true
three_plain b h = and_from _ _ (digit (b / 100) (omega arith)) (and_from _ _ (digit (b / 10 % 10) (omega arith)) (and_from _ _ (digit (b % 10) (omega arith)) refl))
  where
    digit : (d : ℕ) → d < 10 → (ltb 32 (48 + d) && ltb (48 + d) 127) ≡ true
    digit d less = and_from _ _ (lt-ltb 32 (48 + d) (omega arith)) (lt-ltb (48 + d) 127 (omega arith))

-- a byte's text has bytes, all of them plain
byte_plain : (b : ℕ) → b < 256 → (are_plain (byte_text b) ≡ true) × (1 ≤ length (byte_text b))
byte_plain b small = go (eqb b 46 || eqb b 92) refl (leb b 32 || leb 127 b) refl
  where
    dot : (b : ℕ) → (eqb b 46 || eqb b 92) ≡ true → (ltb 32 b && ltb b 127) ≡ true
    dot b h = grind (arith, nat_tests)

    other : (b : ℕ) → (leb b 32 || leb 127 b) ≡ false → (ltb 32 b && ltb b 127) ≡ true
    other b h = grind (arith, nat_tests)

    go : (c : Bool) → (eqb b 46 || eqb b 92) ≡ c → (d : Bool) → (leb b 32 || leb 127 b) ≡ d →
        (are_plain (cond c (92 ∷ b ∷ []) (cond d (92 ∷ three_digits b) (b ∷ []))) ≡ true) × (1 ≤ length (cond c (92 ∷ b ∷ []) (cond d (92 ∷ three_digits b) (b ∷ []))))
    go true h d k = (and_from _ _ refl (and_from _ _ (dot b h) refl), omega arith)
    go false h true k = (and_from _ _ refl (three_plain b small), omega arith)
    go false h false k = (and_from _ _ (other b k) refl, omega arith)

label_plain : (label : List ℕ) → are_bytes label ≡ true → are_plain (label_text label) ≡ true
label_plain [] h = refl
label_plain (b ∷ label) h =
    let parts = and_parts (is_below 8 b) (are_bytes label) h in plain_joined (byte_text b) (label_text label) (byte_plain b (below 8 b parts.0)).0 (label_plain label parts.1)

label_long : (b : ℕ) (label : List ℕ) → is_below 8 b ≡ true → 1 ≤ length (label_text (b ∷ label))
label_long b label h = omega (arith, (byte_plain b (below 8 b h)).1, length-append (byte_text b) (label_text label))

label_spelled : (label : List ℕ) → are_bytes label ≡ true → bytes_spelled (items_of (label_text label)) ≡ Some label
label_spelled [] h = ap bytes_spelled (items_of-none [] refl)
label_spelled (b ∷ label) h =
    let parts = and_parts (is_below 8 b) (are_bytes label) h in
    ap bytes_spelled (items_of-byte b (label_text label) (below 8 b parts.0)) ∙ ap (λ (o : Option (List ℕ)). option_map (λ bytes. b ∷ bytes) o) (label_spelled label parts.1)

label_back : (most : ℕ) (label : List ℕ) → are_bytes label ≡ true → length label ≤ most → label_read most (label_text label) ≡ Some label
label_back most label h short = rw (label_spelled label h, le-leb (length label) most short) refl

-- the text of a label that has bytes is a token, and is read as that label
pub token_back : (most b : ℕ) (label : List ℕ) → are_bytes (b ∷ label) ≡ true → length (b ∷ label) ≤ most → (token_of (label_text (b ∷ label)) ≡ Some (label_text (b ∷ label))) × (label_read most (label_text (b ∷ label)) ≡ Some (b ∷ label))
token_back most b label h short =
    let parts = and_parts (is_below 8 b) (are_bytes label) h in
    (plain_token (label_text (b ∷ label)) (label_long b label parts.0) (label_plain (b ∷ label) h), label_back most (b ∷ label) h short)

-- what `\e` is not
not_empty : (text : List ℕ) → (text ≡ codes "\\e" → ⊥) → bytes_eq text (codes "\\e") ≡ false
not_empty text other = go (bytes_eq text (codes "\\e")) refl
  where
    go : (b : Bool) → bytes_eq text (codes "\\e") ≡ b → b ≡ false
    go true e = absurd (other ((bytes_eq-Decides text (codes "\\e")).0 e))
    go false e = refl

-- ---- labels, service types and names

-- what a text of a request says: bytes of UTF-8, and not too many
pub record IsSaid (text : List ℕ) : Type 0 where
  pub bytes : are_bytes text ≡ true
  pub short : length text ≤ 1024
  pub utf8 : is_utf8 text ≡ true

pub said : (text : List ℕ) → is_writable_text text ≡ true → IsSaid text
said text h =
    let parts = and_parts (is_text text) (is_utf8 text) h in
    let of = and_parts (are_bytes text) (nat_le (length text) 1024) parts.0 in
    record { bytes = of.0; short = leb-true (length text) 1024 of.1; utf8 = parts.1 }

text_back : (text : List ℕ) → is_utf8 text ≡ true → text_of text ≡ Some text
text_back text h = rw h refl

pub label_token_back : (label : List ℕ) → IsSaid label → label_of (label_token label) ≡ Some label
label_token_back [] h = text_back [] h.utf8
label_token_back (b ∷ label) h =
    let back = token_back 1024 b label h.bytes h.short in
    let other : bytes_eq (label_text (b ∷ label)) (codes "\\e") ≡ false =
    not_empty (label_text (b ∷ label)) (λ e. let no : [] ≡ b ∷ label = label_token_told [] (b ∷ label) refl h.bytes (sym e) in absurd (cc)) in
    rw (other, back.0, back.1) (text_back (b ∷ label) h.utf8)

-- a byte of a service type, of which dots are themselves
type_byte_plain : (b : ℕ) → b < 256 → (are_plain (type_byte b) ≡ true) × (1 ≤ length (type_byte b))
type_byte_plain b small = go (eqb b 46) refl
  where
    dot : (b : ℕ) → eqb b 46 ≡ true → (ltb 32 b && ltb b 127) ≡ true
    dot b h = grind (arith, nat_tests)

    go : (c : Bool) → eqb b 46 ≡ c → (are_plain (cond c (b ∷ []) (byte_text b)) ≡ true) × (1 ≤ length (cond c (b ∷ []) (byte_text b)))
    go true h = (and_from _ _ (dot b h) refl, omega arith)
    go false h = byte_plain b small

type_plain : (text : List ℕ) → are_bytes text ≡ true → are_plain (flat_map type_byte text) ≡ true
type_plain [] h = refl
type_plain (b ∷ text) h =
    let parts = and_parts (is_below 8 b) (are_bytes text) h in plain_joined (type_byte b) (flat_map type_byte text) (type_byte_plain b (below 8 b parts.0)).0 (type_plain text parts.1)

type_long : (b : ℕ) (text : List ℕ) → is_below 8 b ≡ true → 1 ≤ length (flat_map type_byte (b ∷ text))
type_long b text h = omega (arith, (type_byte_plain b (below 8 b h)).1, length-append (type_byte b) (flat_map type_byte text))

-- the byte that an item stands for, before what the others do
abbrev before : Option ℕ → Option (List ℕ) → Option (List ℕ)
before first rest = option_and_then (λ byte. option_and_then (λ bytes. Some (byte ∷ bytes)) rest) first

type_byte_spelled : (b : ℕ) (rest : List ℕ) → b < 256 → type_spelled (items_of (type_byte b ++ rest)) ≡ before (Some b) (type_spelled (items_of rest))
type_byte_spelled b rest small = go (eqb b 46) refl
  where
    go : (c : Bool) → eqb b 46 ≡ c → type_spelled (items_of (cond c (b ∷ []) (byte_text b) ++ rest)) ≡ before (Some b) (type_spelled (items_of rest))
    go true h =
        ap type_spelled (items_of-next b rest rest Dot (rw h refl) (rw h refl)) ∙ ap (λ (n : ℕ). before (Some n) (type_spelled (items_of rest))) (sym (eqb-true b 46 h))
    go false h = ap type_spelled (items_of-byte b rest small)

type_spelled_back : (text : List ℕ) → are_bytes text ≡ true → type_spelled (items_of (flat_map type_byte text)) ≡ Some text
type_spelled_back [] h = ap type_spelled (items_of-none [] refl)
type_spelled_back (b ∷ text) h =
    let parts = and_parts (is_below 8 b) (are_bytes text) h in
    type_byte_spelled b (flat_map type_byte text) (below 8 b parts.0) ∙ ap (λ (o : Option (List ℕ)). before (Some b) o) (type_spelled_back text parts.1)

pub type_token_back : (text : List ℕ) → IsSaid text → type_of (type_token text) ≡ Some text
type_token_back [] h = text_back [] h.utf8
type_token_back (b ∷ text) h =
    let parts = and_parts (is_below 8 b) (are_bytes text) h.bytes in
    let other : bytes_eq (flat_map type_byte (b ∷ text)) (codes "\\e") ≡ false =
    not_empty (flat_map type_byte (b ∷ text)) (λ e. let same : [] ≡ b ∷ text = type_token_told [] (b ∷ text) refl h.bytes (sym e) in absurd (cc)) in
    let token : token_of (flat_map type_byte (b ∷ text)) ≡ Some (flat_map type_byte (b ∷ text)) =
    plain_token (flat_map type_byte (b ∷ text)) (type_long b text parts.0) (type_plain (b ∷ text) h.bytes) in
    rw (other, token, type_spelled_back (b ∷ text) h.bytes, le-leb (length (b ∷ text)) 1024 h.short) (text_back (b ∷ text) h.utf8)

labels_plain : (name : List (List ℕ)) → list_all are_bytes name ≡ true → are_plain (flat_map (λ l. label_text l ++ 46 ∷ []) name) ≡ true
labels_plain [] h = refl
labels_plain (label ∷ name) h =
    let parts = and_parts (are_bytes label) (list_all are_bytes name) h in
    plain_joined (label_text label ++ 46 ∷ []) _ (plain_joined (label_text label) (46 ∷ []) (label_plain label parts.0) refl) (labels_plain name parts.1)

name_plain : (name : List (List ℕ)) → list_all are_bytes name ≡ true → (are_plain (name_text name) ≡ true) × (1 ≤ length (name_text name))
name_plain [] h = (refl, omega arith)
name_plain (label ∷ name) h =
    (labels_plain (label ∷ name) h, omega (arith, length-append (label_text label) (46 ∷ []), length-append (label_text label ++ 46 ∷ []) (flat_map (λ l. label_text l ++ 46 ∷ []) name)))

pub name_back : (name : List (List ℕ)) → is_spellable_name name ≡ true → name_of (name_text name) ≡ Some name
name_back name h =
    let parts = and_parts (is_name name) (list_all are_bytes name) h in
    let plain = name_plain name parts.1 in
    rw (plain_token (name_text name) plain.1 plain.0, read_name-name_text name parts.0 parts.1) refl

pub host_label_back : (label : List ℕ) → is_label label ≡ true → are_bytes label ≡ true → is_utf8 label ≡ true → host_label_of (label_token label) ≡ Some label
host_label_back [] l h u = absurd (cc)
host_label_back (b ∷ label) l h u =
    let most = and_parts (nat_le 1 (length (b ∷ label))) (nat_le (length (b ∷ label)) 63) l in
    let back = token_back 63 b label h (leb-true (length (b ∷ label)) 63 most.1) in
    rw (back.0, back.1, u, l) refl

-- ---- TXT data

-- a text is split at its spaces
split_last : (text : List ℕ) → lacks 32 text ≡ false → slice_split (λ b. b == 32) text ≡ text ∷ []
split_last [] h = refl
split_last (b ∷ text) h =
    let parts = or_parts (eqb b 32) (lacks 32 text) h in rw parts.0 (ap (onto_first b) (split_last text parts.1))

split_word : (word rest : List ℕ) → lacks 32 word ≡ false → slice_split (λ b. b == 32) (word ++ 32 ∷ rest) ≡ word ∷ slice_split (λ b. b == 32) rest
split_word [] rest h = refl
split_word (b ∷ word) rest h =
    let parts = or_parts (eqb b 32) (lacks 32 word) h in rw parts.0 (ap (onto_first b) (split_word word rest parts.1))

-- the words of strings, without the space before the first
abbrev words_from : List ℕ → List (List ℕ) → List ℕ
words_from string strings = label_token string ++ flat_map string_word strings

words_split : (string : List ℕ) (strings : List (List ℕ)) → slice_split (λ b. b == 32) (words_from string strings) ≡ map label_token (string ∷ strings)
words_split string [] = ap (slice_split (λ b. b == 32)) (append-nil (label_token string)) ∙ split_last (label_token string) (seen_lacks (label_token string) (label_token_seen string))
words_split string (next ∷ strings) =
    split_word (label_token string) (words_from next strings) (seen_lacks (label_token string) (label_token_seen string)) ∙ ap (λ (words : List (List ℕ)). label_token string ∷ words) (words_split next strings)

-- a string that isn't empty
abbrev pub has_bytes : List ℕ → Bool
has_bytes string = nat_le 1 (length string)

pub string_back : (string : List ℕ) → are_bytes string ≡ true → has_bytes string ≡ true → length string ≤ 255 → string_of (label_token string) ≡ Some string
string_back [] h some short = absurd (cc)
string_back (b ∷ string) h some short = let back = token_back 255 b string h short in rw (back.0, back.1) refl

-- strings are read from their tokens
strings_back : (strings : List (List ℕ)) → are_bytes (txt_data strings) ≡ true → list_all has_bytes strings ≡ true → tokens_read (map label_token strings) ≡ Some strings
strings_back [] h some = refl
strings_back (string ∷ strings) h some =
    let size = and_parts (is_below 8 (length string)) (are_bytes (string ++ txt_data strings)) h in
    let parts = and_parts (are_bytes string) (are_bytes (txt_data strings)) (sym (list_all-append (is_below 8) string (txt_data strings)) ∙ size.1) in
    let each = and_parts (has_bytes string) (list_all has_bytes strings) some in
    let small : length string < 2 ^ 8 = below 8 (length string) size.0 in
    rw (string_back string parts.0 each.0 (omega arith), strings_back strings parts.1 each.1) refl

-- TXT data as words, of which the first stands behind a space, are read as they are.
pub record IsTxtBack (txt : List ℕ) : Type 0 where
  pub rest : List ℕ
  pub words : txt_words txt ≡ 32 ∷ rest
  pub read : txt_of rest ≡ Some txt

-- the one string that is written otherwise
minus_back : txt_of (codes "\\045") ≡ Some (1 ∷ 45 ∷ [])
minus_back =
    let token : token_of (codes "\\045") ≡ Some (codes "\\045") = plain_token (codes "\\045") (omega arith) refl in
    let items : items_of (codes "\\045") ≡ Byte 45 ∷ [] = items_of-next 92 (codes "045") [] (Byte 45) refl refl ∙ ap (λ (l : List TextItem). Byte 45 ∷ l) (items_of-none [] refl) in
    rw (token, items) refl

-- what TXT data are made of
record IsMadeOf (txt : List ℕ) (strings : List (List ℕ)) : Type 0 where
  whole : txt ≡ txt_data strings
  short : length txt ≤ 8192
  read : tokens_read (map label_token strings) ≡ Some strings

-- words that aren't `-` alone are read as their strings
words_read : (txt string : List ℕ) (strings : List (List ℕ)) → IsMadeOf txt (string ∷ strings) → bytes_eq txt (1 ∷ 45 ∷ []) ≡ false → txt_of (words_from string strings) ≡ Some txt
words_read txt string strings h other =
    rw (many (bytes_eq (words_from string strings) (codes "-")) refl, words_split string strings, h.read) (ap short_txt (sym h.whole) ∙ rw (le-leb (length txt) 8192 h.short) refl)
  where
    alone : words_from string strings ≡ codes "-" → txt ≡ 1 ∷ 45 ∷ []
    alone e =
        let same : ◌≡◌ {A = Option (List (List ℕ))} (Some (string ∷ strings)) (Some ((45 ∷ []) ∷ [])) =
        sym h.read ∙ ap tokens_read (sym (words_split string strings) ∙ ap (slice_split (λ b. b == 32)) e) ∙ strings_back ((45 ∷ []) ∷ []) refl refl in
        let made : string ∷ strings ≡ (45 ∷ []) ∷ [] = cc in
        h.whole ∙ ap txt_data made

    many : (b : Bool) → bytes_eq (words_from string strings) (codes "-") ≡ b → b ≡ false
    many true e =
        let yes : bytes_eq txt (1 ∷ 45 ∷ []) ≡ true = (bytes_eq-Decides txt (1 ∷ 45 ∷ [])).1 (alone ((bytes_eq-Decides (words_from string strings) (codes "-")).0 e)) in absurd (cc)
    many false e = refl

pub txt_back : (txt : List ℕ) → is_writable_txt txt ≡ true → IsTxtBack txt
txt_back txt h = go (bytes_eq txt (1 ∷ 45 ∷ [])) refl (strings_of txt) refl
  where
    parts : (are_bytes txt ≡ true) × (is_txt txt ≡ true) × (list_all has_bytes (strings_of txt) ≡ true)
    parts = three (are_bytes txt) (is_txt txt) (list_all has_bytes (strings_of txt)) h

    made : (strings : List (List ℕ)) → strings_of txt ≡ strings → IsMadeOf txt strings
    made strings e =
        let whole : txt ≡ txt_data strings = sym (txt_data-strings_of txt (whole_from_is_txt txt parts.1)) ∙ ap txt_data e in
        record {
          whole = whole;
          short = short_from_is_txt txt parts.1;
          read = strings_back strings (sym (ap are_bytes whole) ∙ parts.0) (sym (ap (list_all has_bytes) e) ∙ parts.2);
        }

    go : (b : Bool) → bytes_eq txt (1 ∷ 45 ∷ []) ≡ b → (strings : List (List ℕ)) → strings_of txt ≡ strings → IsTxtBack txt
    go true e strings f =
        let one : txt ≡ 1 ∷ 45 ∷ [] = (bytes_eq-Decides txt (1 ∷ 45 ∷ [])).0 e in record { rest = codes "\\045"; words = rw e refl; read = minus_back ∙ ap Some (sym one) }
    go false e [] f = let none : txt ≡ [] = (made [] f).whole in record { rest = codes "-"; words = rw (e, f) refl; read = ap Some (sym none) }
    go false e (string ∷ strings) f = record { rest = words_from string strings; words = rw (e, f) refl; read = words_read txt string strings (made (string ∷ strings) f) e }
