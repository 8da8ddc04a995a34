-- Strings of TXT data as pairs of a key and a value. (RFC 6763 6.3 and 6.4)
use Rattle.std.specs.Prelude.{ℕ, ◌+◌, ◌==◌, nat_le, Bool, not, ◌&&◌, List, [], ◌∷◌, ◌++◌, length, drop, map, position, Option, Some, None, option_map, if◌then◌else◌}
use Rattle.std.specs.List.{list_all, find, before_first}
use Rattle.std.specs.Str.{str_eq_ignore_ascii_case}
use Rattle.txt_record.specs.Strings.{txt_data}
use Rattle.txt_record.specs.declared.pair.Pair.{Pair}
use Rattle.txt_record.specs.declared.pair.Found.{Found}
use Rattle.txt_record.specs.declared.pair.Found.TheVariants.{Bare, Value}
use Rattle.txt_record.specs.declared.error.TxtError.{TxtError}
use Rattle.txt_record.specs.declared.error.TxtError.TheVariants.{BadKey, LongEntry, LongTxt}

-- the byte that parts a key from its value: `=`
abbrev pub is_equals : ℕ → Bool
is_equals byte = byte == 61

-- a byte of a key: a visible ASCII character or a space, but no `=`
abbrev pub is_key_byte : ℕ → Bool
is_key_byte byte = nat_le 32 byte && nat_le byte 126 && not (is_equals byte)

-- a key has at least one byte
abbrev pub is_key : List ℕ → Bool
is_key key = not (length key == 0) && list_all is_key_byte key

-- the key of a string: what stands before its first `=`, or all of it where it has none
abbrev pub key_of : List ℕ → List ℕ
key_of string = before_first is_equals string

-- the value of a string: what stands behind its first `=`, if it has one
abbrev pub value_of : List ℕ → Option (List ℕ)
value_of string = option_map (λ place. drop (place + 1) string) (position is_equals string)

-- whether this is the string's key, case aside; a string without a key is passed over
abbrev pub has_key : List ℕ → List ℕ → Bool
has_key key string = not (length key == 0) && str_eq_ignore_ascii_case key (key_of string)

-- the string of a key and its value: `key=value`, or the key alone where it has no value
abbrev pub entry_of : List ℕ → Option (List ℕ) → List ℕ
entry_of key None = key
entry_of key (Some value) = key ++ 61 ∷ value

-- what the strings have under a key: the value of the first string that has it
abbrev pub lookup : List ℕ → List (List ℕ) → Option (Option (List ℕ))
lookup key strings = option_map value_of (find (has_key key) strings)

-- the strings with an entry in the place of the first that has its key, or at the end
abbrev pub put : List ℕ → List ℕ → List (List ℕ) → List (List ℕ)
put key entry [] = entry ∷ []
put key entry (string ∷ strings) = if has_key key string then entry ∷ strings else string ∷ put key entry strings

-- the strings without the first that has the key
abbrev pub without_key : List ℕ → List (List ℕ) → List (List ℕ)
without_key key [] = []
without_key key (string ∷ strings) = if has_key key string then strings else string ∷ without_key key strings

-- the keys of pairs
abbrev pub keys_of : List Pair → List (List ℕ)
keys_of pairs = map (λ pair. pair.key) pairs

-- the strings of pairs, in their order
abbrev pub entries_of : List Pair → List (List ℕ)
entries_of pairs = map (λ pair. entry_of pair.key pair.value) pairs

-- what was found, as `lookup` has it
abbrev pub value_found : Found → Option (List ℕ)
value_found Bare = None
value_found (Value value) = Some value.now

-- an entry has at most 255 bytes
abbrev pub is_entry : List ℕ → Bool
is_entry entry = nat_le (length entry) 255

-- the refusal of these keys and entries, if any, where `strings` are what they would make: a bad key, then an entry of more than 255 bytes, then more than 8192 bytes
abbrev pub refusal : List (List ℕ) → List (List ℕ) → List (List ℕ) → Option TxtError
refusal keys entries strings =
    if not (list_all is_key keys) then Some BadKey
    else if not (list_all is_entry entries) then Some LongEntry
    else if not (nat_le (length (txt_data strings)) 8192) then Some LongTxt
    else None

-- the refusal of a record of pairs
abbrev pub pairs_refusal : List Pair → Option TxtError
pairs_refusal pairs = refusal (keys_of pairs) (entries_of pairs) (entries_of pairs)

-- the refusal of a key with a value that is put into strings
abbrev pub put_refusal : List ℕ → Option (List ℕ) → List (List ℕ) → Option TxtError
put_refusal key value strings = refusal (key ∷ []) (entry_of key value ∷ []) (put key (entry_of key value) strings)

-- the refusal of a string at the end of strings
abbrev pub push_refusal : List ℕ → List (List ℕ) → Option TxtError
push_refusal string strings = refusal [] (string ∷ []) (strings ++ string ∷ [])
