-- Where the string with a key stands in the data of strings.
use Rattle.std.proofs.Common.{◌≡◌, ℕ, ◌+◌, ◌≤◌, ◌++◌, true, false, List, [], ◌∷◌, ◌∙◌, length, take, drop, refl, ap, sym, arith, append_assoc, append-nil, length-append, length-take, length-drop}
use Rattle.std.proofs.lemmas.List.{take_at, drop_at}
use Rattle.std.proofs.lemmas.List.Folds.{list_any-append, list_all-map}
use Rattle.std.proofs.lemmas.Bool.{or_parts}
use Rattle.std.specs.List.{list_any}
use Rattle.txt_record.specs.Strings.{txt_data}
use Rattle.txt_record.specs.Places.{IsPlaceOf}
use Rattle.txt_record.specs.Pairs.{has_key, put, without_key}
use Rattle.txt_record.proofs.Runs.{txt_data-append}

-- the strings up to start were passed, and none of them has the key
pub record HasPassed (key : List ℕ) (strings left : List (List ℕ)) (start : ℕ) : Type 0 where
  pub front : List (List ℕ)
  pub parts : strings ≡ front ++ left
  pub none : list_any (has_key key) front ≡ false
  pub start_is : start ≡ length (txt_data front)

pub passed_none : (key : List ℕ) (strings left : List (List ℕ)) → left ≡ strings → HasPassed key strings left 0
passed_none key strings left e = record { front = []; parts = sym e; none = refl; start_is = refl }

length-txt_data-push : (front : List (List ℕ)) (string : List ℕ) → length (txt_data (front ++ string ∷ [])) ≡ length (txt_data front) + 1 + length string
length-txt_data-push front string =
    ap length (txt_data-append front (string ∷ []))
    ∙ omega (arith, length-append (txt_data front) (length string ∷ (string ++ [])), ap length (append-nil string))

pub passed_more : (key : List ℕ) (strings left rest : List (List ℕ)) (string : List ℕ) (start end : ℕ) → HasPassed key strings left start → left ≡ string ∷ rest → has_key key string ≡ false → end ≡ start + 1 + length string → HasPassed key strings rest end
passed_more key strings left rest string start end h e other is = record {
  front = h.front ++ string ∷ [];
  parts = h.parts ∙ ap (λ l. h.front ++ l) e ∙ sym (append_assoc h.front (string ∷ []) rest);
  none = list_any-append (has_key key) h.front (string ∷ []) ∙ rw (h.none, other) refl;
  start_is = omega (arith, length-txt_data-push h.front string, h.start_is);
}

pub passed_found : (key : List ℕ) (strings left rest : List (List ℕ)) (string : List ℕ) (start end : ℕ) → HasPassed key strings left start → left ≡ string ∷ rest → has_key key string ≡ true → end ≡ start + 1 + length string → IsPlaceOf key strings start end
passed_found key strings left rest string start end h e this is = record {
  front = h.front;
  string = string;
  back = rest;
  parts = h.parts ∙ ap (λ l. h.front ++ l) e;
  none_before = h.none;
  has = this;
  start_is = h.start_is;
  finish_is = is;
}

pub passed_all : (key : List ℕ) (strings left : List (List ℕ)) (start : ℕ) → HasPassed key strings left start → left ≡ [] → list_any (has_key key) strings ≡ false
passed_all key strings left start h e =
    ap (list_any (has_key key)) (h.parts ∙ ap (λ l. h.front ++ l) e ∙ append-nil h.front) ∙ h.none

-- the data of strings up to one, that string, and the data of those behind it
pub txt_data-parts : (front back : List (List ℕ)) (string : List ℕ) → txt_data (front ++ string ∷ back) ≡ txt_data front ++ (length string ∷ (string ++ txt_data back))
txt_data-parts front back string = txt_data-append front (string ∷ back)

pub passed_within : (key : List ℕ) (strings left rest : List (List ℕ)) (string : List ℕ) (start : ℕ) → HasPassed key strings left start → left ≡ string ∷ rest → start + 1 + length string ≤ length (txt_data strings)
passed_within key strings left rest string start h e =
    let all : txt_data strings ≡ txt_data h.front ++ (length string ∷ (string ++ txt_data rest)) =
    ap txt_data (h.parts ∙ ap (λ l. h.front ++ l) e) ∙ txt_data-parts h.front rest string in
    omega (arith, ap length all, h.start_is, length-append (txt_data h.front) (length string ∷ (string ++ txt_data rest)), length-append string (txt_data rest))

-- what `put` and `without_key` make where the place is known
put-front : (key entry string : List ℕ) (front back : List (List ℕ)) → list_any (has_key key) front ≡ false → has_key key string ≡ true → put key entry (front ++ string ∷ back) ≡ front ++ entry ∷ back
put-front key entry string [] back none this = rw this refl
put-front key entry string (other ∷ front) back none this =
    let parts = or_parts (has_key key other) _ none in
    rw parts.0 (ap (λ rest. other ∷ rest) (put-front key entry string front back parts.1 this))

put-none : (key entry : List ℕ) (strings : List (List ℕ)) → list_any (has_key key) strings ≡ false → put key entry strings ≡ strings ++ entry ∷ []
put-none key entry [] none = refl
put-none key entry (other ∷ strings) none =
    let parts = or_parts (has_key key other) _ none in
    rw parts.0 (ap (λ rest. other ∷ rest) (put-none key entry strings parts.1))

without_key-front : (key string : List ℕ) (front back : List (List ℕ)) → list_any (has_key key) front ≡ false → has_key key string ≡ true → without_key key (front ++ string ∷ back) ≡ front ++ back
without_key-front key string [] back none this = rw this refl
without_key-front key string (other ∷ front) back none this =
    let parts = or_parts (has_key key other) _ none in
    rw parts.0 (ap (λ rest. other ∷ rest) (without_key-front key string front back parts.1 this))

pub without_key-none : (key : List ℕ) (strings : List (List ℕ)) → list_any (has_key key) strings ≡ false → strings ≡ without_key key strings
without_key-none key [] none = refl
without_key-none key (other ∷ strings) none =
    let parts = or_parts (has_key key other) _ none in
    rw parts.0 (ap (λ rest. other ∷ rest) (without_key-none key strings parts.1))

-- what stands before the place, and what stands behind it
pub place_front : (key : List ℕ) (strings : List (List ℕ)) (start finish : ℕ) (p : IsPlaceOf key strings start finish) → take start (txt_data strings) ≡ txt_data p.front
place_front key strings start finish p =
    ap (take start) (ap txt_data p.parts ∙ txt_data-append p.front (p.string ∷ p.back))
    ∙ take_at (txt_data p.front) (txt_data (p.string ∷ p.back)) start (sym p.start_is)

pub place_back : (key : List ℕ) (strings : List (List ℕ)) (start finish : ℕ) (p : IsPlaceOf key strings start finish) → drop finish (txt_data strings) ≡ txt_data p.back
place_back key strings start finish p =
    ap (drop finish) (ap txt_data p.parts ∙ txt_data-append p.front (p.string ∷ p.back) ∙ sym (append_assoc (txt_data p.front) (length p.string ∷ p.string) (txt_data p.back)))
    ∙ drop_at (txt_data p.front ++ length p.string ∷ p.string) (txt_data p.back) finish (omega (arith, length-append (txt_data p.front) (length p.string ∷ p.string), p.start_is, p.finish_is))

pub place_within : (key : List ℕ) (strings : List (List ℕ)) (start finish : ℕ) → IsPlaceOf key strings start finish → (start ≤ finish) × (finish ≤ length (txt_data strings))
place_within key strings start finish p =
    let all : txt_data strings ≡ txt_data p.front ++ (length p.string ∷ (p.string ++ txt_data p.back)) =
    ap txt_data p.parts ∙ txt_data-append p.front (p.string ∷ p.back) in (
      omega (arith, p.finish_is),
      omega (arith, ap length all, p.start_is, p.finish_is, length-append (txt_data p.front) (length p.string ∷ (p.string ++ txt_data p.back)), length-append p.string (txt_data p.back)),
    )

-- the data with an entry in the place, with one at the end, and without what stands in the place
pub txt_data-put : (key : List ℕ) (strings : List (List ℕ)) (start finish : ℕ) → IsPlaceOf key strings start finish → (entry : List ℕ) → txt_data (put key entry strings) ≡ take start (txt_data strings) ++ length entry ∷ entry ++ drop finish (txt_data strings)
txt_data-put key strings start finish p entry =
    ap txt_data (ap (put key entry) p.parts ∙ put-front key entry p.string p.front p.back p.none_before p.has)
    ∙ txt_data-append p.front (entry ∷ p.back)
    ∙ rw (place_front key strings start finish p, place_back key strings start finish p) (sym (append_assoc (txt_data p.front) (length entry ∷ entry) (txt_data p.back)))

pub txt_data-put_last : (key : List ℕ) (strings : List (List ℕ)) → list_any (has_key key) strings ≡ false → (entry : List ℕ) → txt_data (put key entry strings) ≡ txt_data strings ++ length entry ∷ entry ++ []
txt_data-put_last key strings none entry =
    ap txt_data (put-none key entry strings none) ∙ txt_data-append strings (entry ∷ []) ∙ sym (append_assoc (txt_data strings) (length entry ∷ entry) [])

pub txt_data-without_key : (key : List ℕ) (strings : List (List ℕ)) (start finish : ℕ) → IsPlaceOf key strings start finish → take start (txt_data strings) ++ drop finish (txt_data strings) ≡ txt_data (without_key key strings)
txt_data-without_key key strings start finish p =
    rw (place_front key strings start finish p, place_back key strings start finish p)
    (sym (ap txt_data (ap (without_key key) p.parts ∙ without_key-front key p.string p.front p.back p.none_before p.has) ∙ txt_data-append p.front p.back))

-- what is left once the place was taken out of the bytes of a record
pub taken_out : (key text : List ℕ) (strings : List (List ℕ)) (start finish : ℕ) (bytes items : List ℕ) → IsPlaceOf text strings start finish → text ≡ key → bytes ≡ txt_data strings → items ≡ take start bytes ++ drop finish bytes → items ≡ txt_data (without_key key strings)
taken_out key text strings start finish bytes items p same are e =
    e ∙ rw (are, ← same) (txt_data-without_key text strings start finish p)

pub taken_out_short : (key : List ℕ) (strings : List (List ℕ)) (start finish : ℕ) (bytes items : List ℕ) → IsPlaceOf key strings start finish → bytes ≡ txt_data strings → items ≡ take start bytes ++ drop finish bytes → length items ≤ length bytes
taken_out_short key strings start finish bytes items p are e =
    let within = place_within key strings start finish p in
    omega (arith, ap length e, ap length are, within.0, within.1, length-append (take start bytes) (drop finish bytes), length-take start bytes, length-drop finish bytes)

pub ruleset mapped_tests = (list_all-map)
