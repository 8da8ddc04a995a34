-- TXT data as words: a word for each string behind its length.
use Rattle.std.proofs.Common.{◌≡◌, ℕ, zero, suc, Bool, false, cond, List, [], ◌∷◌, ◌++◌, length, take, drop, refl, ap, ap₂, sym, ◌∙◌, inl, inr, arith, append_assoc}
use Rattle.std.specs.Prelude.{min, codes}
use Rattle.std.specs.List.{flat_map, onto_first}
use Rattle.std.specs.Str.{bytes_eq}
use Rattle.std.proofs.lemmas.Bool.{cases_lt}
use Rattle.std.proofs.lemmas.List.{take_all, drop_all}
use Rattle.txt_record.specs.Strings.{strings_from, strings_of}
use Rattle.sd_call.specs.CallText.{label_token}
use Rattle.mdns_script.specs.CommandText.{string_word, strings_words, txt_words}

strings_from-zero : (bytes : List ℕ) → strings_from 0 bytes ≡ [] ∷ strings_of bytes
strings_from-zero [] = refl
strings_from-zero (size ∷ bytes) = refl

-- the string under way as far as there is one, and the strings behind it
strings_from-any : (n : ℕ) (bytes : List ℕ) → strings_from n bytes ≡ take n bytes ∷ strings_of (drop n bytes)
strings_from-any zero bytes = strings_from-zero bytes
strings_from-any (suc n) [] = refl
strings_from-any (suc n) (byte ∷ bytes) = ap (onto_first byte) (strings_from-any n bytes)

strings_next : (size m : ℕ) (bytes : List ℕ) → m ≡ min size (length bytes) → strings_of (size ∷ bytes) ≡ take m bytes ∷ strings_of (drop m bytes)
strings_next size m bytes e =
    elim (cases_lt (length bytes) size) [
      | inl short ↦
          let all : m ≡ length bytes = omega (arith, e) in
          strings_from-any size bytes
          ∙ ap₂ (λ (string rest : List ℕ). string ∷ strings_of rest) (take_all size bytes (omega arith) ∙ sym (take_all m bytes (omega arith)))
          (drop_all size bytes (omega arith) ∙ sym (drop_all m bytes (omega arith)))
      | inr within ↦ let same : size ≡ m = omega (arith, e) in strings_from-any size bytes ∙ ap (λ (n : ℕ). take n bytes ∷ strings_of (drop n bytes)) same
    ]

-- one more string is put
pub string_put : (size m : ℕ) (whole out pushed put rest bytes string more : List ℕ) → rest ≡ size ∷ bytes → m ≡ min size (length bytes) → string ≡ take m bytes → more ≡ drop m bytes →
    pushed ≡ out ++ 32 ∷ [] → put ≡ pushed ++ label_token string → whole ≡ out ++ flat_map string_word (strings_of rest) → whole ≡ put ++ flat_map string_word (strings_of more)
string_put size m whole out pushed put rest bytes string more r e s o p q h =
    h ∙ ap (λ (strings : List (List ℕ)). out ++ flat_map string_word strings) next
    ∙ sym (append_assoc out (string_word string) (flat_map string_word (strings_of more)))
    ∙ ap (λ (l : List ℕ). l ++ flat_map string_word (strings_of more)) (sym (append_assoc out (32 ∷ []) (label_token string)) ∙ ap (λ (l : List ℕ). l ++ label_token string) (sym p) ∙ sym q)
  where
    next : strings_of rest ≡ string ∷ strings_of more
    next = ap strings_of r ∙ strings_next size m bytes e ∙ ap₂ (λ (x y : List ℕ). x ∷ strings_of y) (sym s) (sym o)

-- where there are bytes, there is a string
from_some : (n : ℕ) (bytes : List ℕ) → strings_words (strings_from n bytes) ≡ flat_map string_word (strings_from n bytes)
from_some n bytes = rw (strings_from-any n bytes) refl

pub words_some : (bytes : List ℕ) → bytes_eq bytes (1 ∷ 45 ∷ []) ≡ false → (bytes ≡ [] → ⊥) → flat_map string_word (strings_of bytes) ≡ txt_words bytes
words_some [] e some = absurd (some refl)
words_some (size ∷ bytes) e some =
    sym (from_some size bytes) ∙ ap (λ (b : Bool). cond b (codes " \\045") (strings_words (strings_of (size ∷ bytes)))) (sym e)
