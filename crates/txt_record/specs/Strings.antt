-- TXT data as a run of strings behind their lengths. (RFC 1035 3.3.14, RFC 6763 6.1)
use Rattle.std.specs.Prelude.{ℕ, zero, suc, Bool, true, false, List, [], ◌∷◌, ◌++◌, length, drop, nat_le, ◌&&◌}
use Rattle.std.specs.List.{onto_first}

-- whether bytes are a whole run of strings, where so many bytes of the string under way are still to come
abbrev pub ends_whole : ℕ → List ℕ → Bool
ends_whole zero [] = true
ends_whole (suc left) [] = false
ends_whole zero (size ∷ bytes) = ends_whole size bytes
ends_whole (suc left) (byte ∷ bytes) = ends_whole left bytes

-- TXT of a registration: at most 8192 bytes, none or a whole run of strings
abbrev pub is_txt : List ℕ → Bool
is_txt bytes = nat_le (length bytes) 8192 && ends_whole 0 bytes

-- each string behind its length
abbrev pub txt_data : List (List ℕ) → List ℕ
txt_data [] = []
txt_data (string ∷ strings) = length string ∷ string ++ txt_data strings

-- what is left of the string under way, of which so many bytes are still to come, and the strings behind it
abbrev pub strings_from : ℕ → List ℕ → List (List ℕ)
strings_from left [] = [] ∷ []
strings_from zero (size ∷ bytes) = [] ∷ strings_from size bytes
strings_from (suc left) (byte ∷ bytes) = onto_first byte (strings_from left bytes)

-- the strings of TXT data
abbrev pub strings_of : List ℕ → List (List ℕ)
strings_of bytes = drop 1 (strings_from 0 bytes)
