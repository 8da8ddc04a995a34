-- What is found under a key after an entry was put in.
use Rattle.std.proofs.Common.{◌≡◌, ℕ, ◌+◌, ◌++◌, ◌&&◌, ◌==◌, Bool, true, false, not, cond, List, [], ◌∷◌, ◌∙◌, length, refl, ap, sym, arith, Option, Some, None, append-nil, length-append, option_map, leb, ltb}
use Rattle.std.proofs.lemmas.Bool.{false≢true, lt-ltb, le-ltb, and_right, and_parts}
use Rattle.std.proofs.Math.Seq.{drop-append-add}
use Rattle.std.proofs.lemmas.List.{take_at, take_all}
use Rattle.std.proofs.lemmas.Slice.Eq.{bytes_eq-Decides}
use Rattle.std.specs.List.{list_all, find, position_or_len}
use Rattle.std.specs.Str.{bytes_eq, str_eq_ignore_ascii_case, str_to_ascii_lowercase}
use Rattle.txt_record.specs.Pairs.{is_equals, is_key_byte, is_key, key_of, value_of, has_key, entry_of, lookup, put}

-- a byte of a key is no `=`
no_equals : (byte : ℕ) → is_key_byte byte ≡ true → is_equals byte ≡ false
no_equals byte h = last (leb 32 byte) (leb byte 126) (is_equals byte) h
  where
    last : (a b c : Bool) → (a && b && not c) ≡ true → c ≡ false
    last true true false h = refl
    last true true true h = absurd (false≢true h)
    last true false c h = absurd (false≢true h)
    last false b c h = absurd (false≢true h)

-- the first `=` of an entry stands behind its key
position_or_len-key : (key rest : List ℕ) → list_all is_key_byte key ≡ true → position_or_len is_equals (key ++ rest) ≡ length key + position_or_len is_equals rest
position_or_len-key [] rest h = omega arith
position_or_len-key (byte ∷ key) rest h =
    let parts = and_parts (is_key_byte byte) (list_all is_key_byte key) h in
    rw (no_equals byte parts.0) (omega (arith, position_or_len-key key rest parts.1))

key_alone : (key : List ℕ) → list_all is_key_byte key ≡ true → position_or_len is_equals key ≡ length key
key_alone key h = ap (position_or_len is_equals) (sym (append-nil key)) ∙ position_or_len-key key [] h ∙ omega arith

key_first : (key value : List ℕ) → list_all is_key_byte key ≡ true → position_or_len is_equals (key ++ 61 ∷ value) ≡ length key
key_first key value h = position_or_len-key key (61 ∷ value) h ∙ omega arith

key_of-entry : (key : List ℕ) (value : Option (List ℕ)) → list_all is_key_byte key ≡ true → key_of (entry_of key value) ≡ key
key_of-entry key None h = rw (key_alone key h) (take_all (length key) key (omega arith))
key_of-entry key (Some value) h = rw (key_first key value h) (take_at key (61 ∷ value) (length key) refl)

value_of-entry : (key : List ℕ) (value : Option (List ℕ)) → list_all is_key_byte key ≡ true → value_of (entry_of key value) ≡ value
value_of-entry key None h =
    let past : ltb (length key) (length key) ≡ false = le-ltb _ _ (omega arith) in
    rw (key_alone key h, past) refl
value_of-entry key (Some value) h =
    let within : ltb (length key) (length (key ++ 61 ∷ value)) ≡ true = lt-ltb _ _ (omega (arith, length-append key (61 ∷ value))) in
    rw (key_first key value h, within) (ap Some (drop-append-add key (61 ∷ value) 1))

has_key-entry : (key : List ℕ) (value : Option (List ℕ)) → is_key key ≡ true → has_key key (entry_of key value) ≡ true
has_key-entry key value h =
    let parts = and_parts (not (length key == 0)) (list_all is_key_byte key) h in
    rw (parts.0, key_of-entry key value parts.1) ((bytes_eq-Decides (str_to_ascii_lowercase key) (str_to_ascii_lowercase key)).1 refl)

find-put : (key entry : List ℕ) (strings : List (List ℕ)) → has_key key entry ≡ true → find (has_key key) (put key entry strings) ≡ Some entry
find-put key entry [] has = rw has refl
find-put key entry (string ∷ strings) has = step (has_key key string) refl (find-put key entry strings has)
  where
    step : (b : Bool) → has_key key string ≡ b → find (has_key key) (put key entry strings) ≡ Some entry → find (has_key key) (cond b (entry ∷ strings) (string ∷ put key entry strings)) ≡ Some entry
    step true is rest = rw has refl
    step false is rest = rw is rest

-- what was put in is found
pub lookup-put : (key : List ℕ) (value : Option (List ℕ)) (strings : List (List ℕ)) → is_key key ≡ true → lookup key (put key (entry_of key value) strings) ≡ Some value
lookup-put key value strings h =
    let parts = and_parts (not (length key == 0)) (list_all is_key_byte key) h in
    ap (option_map value_of) (find-put key (entry_of key value) strings (has_key-entry key value h)) ∙ ap Some (value_of-entry key value parts.1)

-- a string with one key has no other
has_other : (key other string : List ℕ) → has_key key string ≡ true → str_eq_ignore_ascii_case other key ≡ false → has_key other string ≡ false
has_other key other string has differ =
    let same = (bytes_eq-Decides (str_to_ascii_lowercase key) (str_to_ascii_lowercase (key_of string))).0 (and_parts (not (length key == 0)) (str_eq_ignore_ascii_case key (key_of string)) has).1 in
    and_right (not (length other == 0)) (str_eq_ignore_ascii_case other (key_of string)) (ap (bytes_eq (str_to_ascii_lowercase other)) (sym same) ∙ differ)

find-put_other : (key other entry : List ℕ) (strings : List (List ℕ)) → has_key key entry ≡ true → str_eq_ignore_ascii_case other key ≡ false → find (has_key other) (put key entry strings) ≡ find (has_key other) strings
find-put_other key other entry [] has differ = rw (has_other key other entry has differ) refl
find-put_other key other entry (string ∷ strings) has differ = step (has_key key string) refl (find-put_other key other entry strings has differ)
  where
    step : (b : Bool) → has_key key string ≡ b → find (has_key other) (put key entry strings) ≡ find (has_key other) strings → find (has_key other) (cond b (entry ∷ strings) (string ∷ put key entry strings)) ≡ cond (has_key other string) (Some string) (find (has_key other) strings)
    step true is rest = rw (has_other key other entry has differ, has_other key other string is differ) refl
    step false is rest = rw rest refl

-- what stands under other keys stays
pub lookup-put_other : (key other : List ℕ) (value : Option (List ℕ)) (strings : List (List ℕ)) → is_key key ≡ true → str_eq_ignore_ascii_case other key ≡ false → lookup other (put key (entry_of key value) strings) ≡ lookup other strings
lookup-put_other key other value strings h differ =
    ap (option_map value_of) (find-put_other key other (entry_of key value) strings (has_key-entry key value h) differ)
