-- A run of strings behind their lengths, and the list of its strings.
use Rattle.std.proofs.Common.{◌≡◌, ℕ, zero, suc, ◌-◌, ◌<◌, ◌≤◌, ◌++◌, true, false, List, [], ◌∷◌, ◌∙◌, length, take, drop, refl, ap, sym, arith, append_assoc, length-append}
use Rattle.std.proofs.lemmas.List.{take_rest}
use Rattle.std.proofs.lemmas.Bool.{false≢true, leb-true, le-leb, and_parts}
use Rattle.std.specs.List.{onto_first}
use Rattle.txt_record.specs.Strings.{is_txt, ends_whole, strings_from, strings_of, txt_data}

-- the string under way is within the bytes
pub whole_fits : (n : ℕ) (bytes : List ℕ) → ends_whole n bytes ≡ true → n ≤ length bytes
whole_fits zero bytes h = omega arith
whole_fits (suc n) [] h = absurd (false≢true h)
whole_fits (suc n) (byte ∷ bytes) h = omega (arith, whole_fits n bytes h)

-- where it is, the bytes are a whole run exactly where those behind it are
pub ends_whole-drop : (n : ℕ) (bytes : List ℕ) → n ≤ length bytes → ends_whole n bytes ≡ ends_whole 0 (drop n bytes)
ends_whole-drop zero bytes fits = refl
ends_whole-drop (suc n) [] fits = absurd (omega arith)
ends_whole-drop (suc n) (byte ∷ bytes) fits = ends_whole-drop n bytes (omega arith)

-- where it is not, they are none
pub ends_whole-short : (n : ℕ) (bytes : List ℕ) → length bytes < n → ends_whole n bytes ≡ false
ends_whole-short zero bytes short = absurd (omega arith)
ends_whole-short (suc n) [] short = refl
ends_whole-short (suc n) (byte ∷ bytes) short = ends_whole-short n bytes (omega arith)

strings_from-zero : (bytes : List ℕ) → strings_from 0 bytes ≡ [] ∷ strings_of bytes
strings_from-zero [] = refl
strings_from-zero (size ∷ bytes) = refl

-- the string under way, and the strings behind it
pub strings_from-is : (n : ℕ) (bytes : List ℕ) → ends_whole n bytes ≡ true → strings_from n bytes ≡ take n bytes ∷ strings_of (drop n bytes)
strings_from-is zero bytes h = strings_from-zero bytes
strings_from-is (suc n) [] h = absurd (false≢true h)
strings_from-is (suc n) (byte ∷ bytes) h = ap (onto_first byte) (strings_from-is n bytes h)

-- a list of strings is the strings of its data
pub strings_of-txt_data : (strings : List (List ℕ)) → strings_of (txt_data strings) ≡ strings
strings_of-txt_data [] = refl
strings_of-txt_data (string ∷ strings) = strings_from-append string (txt_data strings) ∙ ap (λ rest. string ∷ rest) (strings_of-txt_data strings)
  where
    strings_from-append : (string bytes : List ℕ) → strings_from (length string) (string ++ bytes) ≡ string ∷ strings_of bytes
    strings_from-append [] bytes = strings_from-zero bytes
    strings_from-append (byte ∷ string) bytes = ap (onto_first byte) (strings_from-append string bytes)

-- data of strings is a whole run
pub ends_whole-txt_data : (strings : List (List ℕ)) → ends_whole 0 (txt_data strings) ≡ true
ends_whole-txt_data [] = refl
ends_whole-txt_data (string ∷ strings) = ends_whole-append string (txt_data strings) ∙ ends_whole-txt_data strings
  where
    ends_whole-append : (string bytes : List ℕ) → ends_whole (length string) (string ++ bytes) ≡ ends_whole 0 bytes
    ends_whole-append [] bytes = refl
    ends_whole-append (byte ∷ string) bytes = ends_whole-append string bytes

-- the string behind the first length is within the bytes, and a whole run stands behind it
pub first_fits : (run : List ℕ) (size n : ℕ) (bytes : List ℕ) → ends_whole 0 run ≡ true → run ≡ size ∷ bytes → n ≡ size → n ≤ length bytes
first_fits run size n bytes whole e is = rw is (whole_fits size bytes (rw e at whole))

pub first_leaves : (run : List ℕ) (size n : ℕ) (bytes rest : List ℕ) → ends_whole 0 run ≡ true → run ≡ size ∷ bytes → n ≡ size → rest ≡ drop n bytes → ends_whole 0 rest ≡ true
first_leaves run size n bytes rest whole e is back = rw (back, is) (sym (ends_whole-drop size bytes (whole_fits size bytes (rw e at whole))) ∙ rw e at whole)

pub strings_of-first : (run : List ℕ) (size n : ℕ) (bytes string rest : List ℕ) → ends_whole 0 run ≡ true → run ≡ size ∷ bytes → n ≡ size → string ≡ take n bytes → rest ≡ drop n bytes → strings_of run ≡ string ∷ strings_of rest
strings_of-first run size n bytes string rest whole e is front back =
    rw (e, front, back, is) (strings_from-is size bytes (rw e at whole))

-- a string that is longer than what is left spoils the run
pub run_short : (run rest : List ℕ) (size n : ℕ) (bytes : List ℕ) → ends_whole 0 rest ≡ ends_whole 0 run → rest ≡ size ∷ bytes → n ≡ size → length bytes < n → false ≡ ends_whole 0 run
run_short run rest size n bytes same e is short =
    sym (ends_whole-short n bytes short) ∙ rw is (ap (ends_whole 0) (sym e)) ∙ same

-- a string that is not is passed
pub run_more : (run rest : List ℕ) (size n : ℕ) (bytes : List ℕ) → ends_whole 0 rest ≡ ends_whole 0 run → rest ≡ size ∷ bytes → n ≡ size → n ≤ length bytes → ends_whole 0 (take (length bytes - n) (drop n bytes)) ≡ ends_whole 0 run
run_more run rest size n bytes same e is fits =
    ap (ends_whole 0) (take_rest bytes n) ∙ sym (ends_whole-drop n bytes fits) ∙ rw is (ap (ends_whole 0) (sym e)) ∙ same

-- the string under way and those behind it have just these bytes
record IsCutFrom (n : ℕ) (bytes : List ℕ) : Type 0 where
  first : List ℕ
  others : List (List ℕ)
  cut : strings_from n bytes ≡ first ∷ others
  size : length first ≡ n
  all : first ++ txt_data others ≡ bytes

cut_from : (n : ℕ) (bytes : List ℕ) → ends_whole n bytes ≡ true → IsCutFrom n bytes
cut_from zero [] whole = record { first = []; others = []; cut = refl; size = refl; all = refl }
cut_from (suc n) [] whole = absurd (false≢true whole)
cut_from zero (size ∷ bytes) whole =
    let inner = cut_from size bytes whole in
    record {
      first = [];
      others = inner.first ∷ inner.others;
      cut = ap (λ strings. [] ∷ strings) inner.cut;
      size = refl;
      all = rw (inner.size, inner.all) refl;
    }
cut_from (suc n) (byte ∷ bytes) whole =
    let inner = cut_from n bytes whole in
    record {
      first = byte ∷ inner.first;
      others = inner.others;
      cut = ap (onto_first byte) inner.cut;
      size = ap suc inner.size;
      all = ap (λ rest. byte ∷ rest) inner.all;
    }

-- a whole run is the data of its strings
pub txt_data-strings_of : (bytes : List ℕ) → ends_whole 0 bytes ≡ true → txt_data (strings_of bytes) ≡ bytes
txt_data-strings_of [] whole = refl
txt_data-strings_of (size ∷ bytes) whole =
    let inner = cut_from size bytes whole in
    rw (inner.cut, inner.size, inner.all) refl

-- what holds of the bytes of a record
pub whole_from_is_txt : (bytes : List ℕ) → is_txt bytes ≡ true → ends_whole 0 bytes ≡ true
whole_from_is_txt bytes txt = (and_parts _ _ txt).1

pub short_from_is_txt : (bytes : List ℕ) → is_txt bytes ≡ true → length bytes ≤ 8192
short_from_is_txt bytes txt = leb-true (length bytes) 8192 (and_parts _ _ txt).0

-- bytes that are a record are the data of the strings that they are seen as
pub bytes_are : (bytes : List ℕ) (strings : List (List ℕ)) → is_txt bytes ≡ true → strings_of bytes ≡ strings → bytes ≡ txt_data strings
bytes_are bytes strings txt seen =
    sym (txt_data-strings_of bytes (whole_from_is_txt bytes txt)) ∙ ap txt_data seen

pub txt_data-append : (front back : List (List ℕ)) → txt_data (front ++ back) ≡ txt_data front ++ txt_data back
txt_data-append [] back = refl
txt_data-append (string ∷ front) back = ap (λ rest. length string ∷ rest) (ap (λ rest. string ++ rest) (txt_data-append front back) ∙ sym (append_assoc string (txt_data front) (txt_data back)))

pub short_data : (bytes : List ℕ) (strings : List (List ℕ)) → is_txt bytes ≡ true → strings_of bytes ≡ strings → length (txt_data strings) ≤ 8192
short_data bytes strings txt seen =
    rw (← bytes_are bytes strings txt seen) (short_from_is_txt bytes txt)

-- a copy of bytes that are a record
pub data_of_items : (items bytes : List ℕ) → true ≡ is_txt bytes → items ≡ bytes → txt_data (strings_of items) ≡ bytes
data_of_items items bytes txt e = rw e (txt_data-strings_of bytes (whole_from_is_txt bytes (sym txt)))

-- the data of strings is a record where it is short, and is seen as them
pub is_txt-made : (bytes : List ℕ) (strings : List (List ℕ)) → bytes ≡ txt_data strings → length (txt_data strings) ≤ 8192 → is_txt bytes ≡ true
is_txt-made bytes strings e short = rw (e, ends_whole-txt_data strings, le-leb (length (txt_data strings)) 8192 short) refl

pub strings_of-made : (bytes : List ℕ) (strings : List (List ℕ)) → bytes ≡ txt_data strings → strings_of bytes ≡ strings
strings_of-made bytes strings e = ap strings_of e ∙ strings_of-txt_data strings

-- the data with a string at its end
pub txt_data-push : (strings : List (List ℕ)) (string : List ℕ) → txt_data (strings ++ string ∷ []) ≡ txt_data strings ++ length string ∷ string ++ []
txt_data-push strings string = txt_data-append strings (string ∷ []) ∙ sym (append_assoc (txt_data strings) (length string ∷ string) [])

-- each string takes a byte at least
pub length_le_data : (strings : List (List ℕ)) → length strings ≤ length (txt_data strings)
length_le_data [] = omega arith
length_le_data (string ∷ strings) = omega (arith, length_le_data strings, length-append string (txt_data strings))
