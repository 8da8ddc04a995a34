-- Lists of answers as sets of bytes.
use Rattle.std.proofs.Common.{◌≡◌, ℕ, Bool, true, false, cond, not, ◌&&◌, ◌||◌, List, [], ◌∷◌, refl, ap, ◌∙◌, sym}
use Rattle.std.proofs.lemmas.Bool.{or_from, or_parts}
use Rattle.std.specs.Prelude.{filter}
use Rattle.std.specs.List.{list_any}
use Rattle.std.specs.Ordering.{nat_cmp, is_lt, is_eq, eq_by_cmp}
use Rattle.std.specs.Cmp.{eq_by_cmp_equiv, Equal-is}
use Rattle.std.specs.Cmp.Lexicographic.{slice_cmp, nat_list_cmp_total}
use Rattle.std.specs.FinSet as set
use Rattle.lists.specs.Lists.{each_once, insert_by, sorted_by, ordered, without}
use Rattle.lists.proofs.InOrder.{none-filter, any-insert, any-sorted}
use Rattle.sd_call.specs.declared.answer.Answer.{Answer}
use Rattle.sd_call.specs.Answers.{answer_bytes, answer_cmp, answer_eq}

-- whether two byte strings are one
abbrev pub eq : List ℕ → List ℕ → Bool
eq left right = eq_by_cmp (slice_cmp nat_cmp) left right

pub eq_symm : (left right : List ℕ) → eq left right ≡ eq right left
eq_symm left right = (eq_by_cmp_equiv nat_list_cmp_total).symm left right

pub eq_refl : (bytes : List ℕ) → eq bytes bytes ≡ true
eq_refl bytes = (eq_by_cmp_equiv nat_list_cmp_total).refl bytes

-- byte strings that compare alike are one
pub eq_path : (left right : List ℕ) → eq left right ≡ true → left ≡ right
eq_path left right e = set.slice_cmp-IsAntisymmetric set.nat_cmp-IsAntisymmetric left right ((Equal-is (slice_cmp nat_cmp left right)).0 e)

-- whether an answer of these bytes is in a list
abbrev pub any_of : List ℕ → List Answer → Bool
any_of bytes answers = list_any (λ a. eq bytes (answer_bytes a)) answers

pub answer_eq-is : (left right : Answer) → answer_eq left right ≡ eq (answer_bytes left) (answer_bytes right)
unfolding answer_eq answer_cmp
answer_eq-is left right = refl

list_any-ext : {X : Type 0} (p q : X → Bool) → ((x : X) → p x ≡ q x) → (xs : List X) → list_any p xs ≡ list_any q xs
list_any-ext p q same [] = refl
list_any-ext p q same (x ∷ xs) = ap (λ b. b || list_any p xs) (same x) ∙ ap (λ b. q x || b) (list_any-ext p q same xs)

pub list_any-answer_eq : (answer : Answer) (answers : List Answer) → list_any (answer_eq answer) answers ≡ any_of (answer_bytes answer) answers
list_any-answer_eq answer answers = list_any-ext (answer_eq answer) (λ a. eq (answer_bytes answer) (answer_bytes a)) (answer_eq-is answer) answers

-- No answer of a list is one of those behind it.
abbrev pub AreDifferent : List Answer → Type 0
AreDifferent [] = Unit {0}
AreDifferent (a ∷ us) = (any_of (answer_bytes a) us ≡ false) × AreDifferent us

-- a filter leaves out, and keeps answers different
any_of-filter : (bytes : List ℕ) (p : Answer → Bool) (us : List Answer) → any_of bytes us ≡ false → any_of bytes (filter p us) ≡ false
any_of-filter bytes p us none = none-filter (λ a. eq bytes (answer_bytes a)) p us none

pub AreDifferent-filter : (p : Answer → Bool) (us : List Answer) → AreDifferent us → AreDifferent (filter p us)
AreDifferent-filter p [] d = tt
AreDifferent-filter p (a ∷ us) d = kept (p a) (any_of-filter (answer_bytes a) p us d.0) (AreDifferent-filter p us d.1)
  where
    kept : (b : Bool) → any_of (answer_bytes a) (filter p us) ≡ false → AreDifferent (filter p us) → AreDifferent (cond b (a ∷ filter p us) (filter p us))
    kept true none rest = (none, rest)
    kept false none rest = rest

is_eq-answer_cmp : (x y : Answer) → is_eq (answer_cmp x y) ≡ eq (answer_bytes x) (answer_bytes y)
unfolding answer_cmp
is_eq-answer_cmp x y = refl

-- what is taken out because it equals an answer isn't there
any_of-removed : (a : Answer) (us : List Answer) → any_of (answer_bytes a) (filter (λ b. not (is_eq (answer_cmp a b))) us) ≡ false
any_of-removed a [] = refl
any_of-removed a (b ∷ us) = removed (is_eq (answer_cmp a b)) (is_eq-answer_cmp a b) (any_of-removed a us)
  where
    removed : (c : Bool) → c ≡ eq (answer_bytes a) (answer_bytes b) → any_of (answer_bytes a) (filter (λ y. not (is_eq (answer_cmp a y))) us) ≡ false →
        any_of (answer_bytes a) (cond (not c) (b ∷ filter (λ y. not (is_eq (answer_cmp a y))) us) (filter (λ y. not (is_eq (answer_cmp a y))) us)) ≡ false
    removed true e rest = rest
    removed false e rest = or_from _ _ (sym e) rest

AreDifferent-each_once : (us : List Answer) → AreDifferent (each_once (λ x y. is_eq (answer_cmp x y)) us)
AreDifferent-each_once [] = tt
AreDifferent-each_once (a ∷ us) =
    (any_of-removed a (each_once (λ x y. is_eq (answer_cmp x y)) us), AreDifferent-filter (λ y. not (is_eq (answer_cmp a y))) (each_once (λ x y. is_eq (answer_cmp x y)) us) (AreDifferent-each_once us))

-- an insertion adds just the answer
any_of-insert_by : (bytes : List ℕ) (a : Answer) (us : List Answer) → any_of bytes (insert_by answer_cmp a us) ≡ (eq bytes (answer_bytes a) || any_of bytes us)
any_of-insert_by bytes a us = any-insert answer_cmp (λ b. eq bytes (answer_bytes b)) a us

AreDifferent-insert_by : (a : Answer) (us : List Answer) → any_of (answer_bytes a) us ≡ false → AreDifferent us → AreDifferent (insert_by answer_cmp a us)
AreDifferent-insert_by a [] new d = (refl, tt)
AreDifferent-insert_by a (b ∷ us) new d = placed (is_lt (answer_cmp b a))
    (AreDifferent-insert_by a us (or_parts (eq (answer_bytes a) (answer_bytes b)) (any_of (answer_bytes a) us) new).1 d.1)
  where
    other : eq (answer_bytes b) (answer_bytes a) ≡ false
    other = eq_symm (answer_bytes b) (answer_bytes a) ∙ (or_parts (eq (answer_bytes a) (answer_bytes b)) (any_of (answer_bytes a) us) new).0

    placed : (c : Bool) → AreDifferent (insert_by answer_cmp a us) → AreDifferent (cond c (b ∷ insert_by answer_cmp a us) (a ∷ b ∷ us))
    placed true rest = (any_of-insert_by (answer_bytes b) a us ∙ or_from _ _ other d.0, rest)
    placed false rest = (new, d)

any_of-sorted_by : (bytes : List ℕ) (us : List Answer) → any_of bytes (sorted_by answer_cmp us) ≡ any_of bytes us
any_of-sorted_by bytes us = any-sorted answer_cmp (λ b. eq bytes (answer_bytes b)) us

AreDifferent-sorted_by : (us : List Answer) → AreDifferent us → AreDifferent (sorted_by answer_cmp us)
AreDifferent-sorted_by [] d = tt
AreDifferent-sorted_by (a ∷ us) d =
    AreDifferent-insert_by a (sorted_by answer_cmp us) (any_of-sorted_by (answer_bytes a) us ∙ d.0) (AreDifferent-sorted_by us d.1)

-- the answers of a list in order, each once, are different
pub AreDifferent-ordered : (us : List Answer) → AreDifferent (ordered answer_cmp us)
AreDifferent-ordered us = AreDifferent-sorted_by (each_once (λ x y. is_eq (answer_cmp x y)) us) (AreDifferent-each_once us)

-- what is in one list and not in another
pub any_of-without : (bytes : List ℕ) (xs ys : List Answer) → any_of bytes (without answer_eq xs ys) ≡ (any_of bytes xs && not (any_of bytes ys))
any_of-without bytes [] ys = refl
any_of-without bytes (x ∷ xs) ys = split (eq bytes (answer_bytes x)) refl (any_of-without bytes xs ys)
  where
    -- at the same bytes both tests are one
    alike : eq bytes (answer_bytes x) ≡ true → list_any (answer_eq x) ys ≡ any_of bytes ys
    alike e = list_any-answer_eq x ys ∙ ap (λ k. any_of k ys) (sym (eq_path bytes (answer_bytes x) e))

    dropped : (c d : Bool) (rest : List Answer) → any_of bytes (cond (not d) (x ∷ rest) rest) ≡ cond (not d) (eq bytes (answer_bytes x) || any_of bytes rest) (any_of bytes rest)
    dropped c true rest = refl
    dropped c false rest = refl

    taken : (n : Bool) → any_of bytes (without answer_eq xs ys) ≡ (any_of bytes xs && not n) → cond (not n) true (any_of bytes (without answer_eq xs ys)) ≡ not n
    taken true rest = rest ∙ and_no (any_of bytes xs)
      where
        and_no : (b : Bool) → (b && false) ≡ false
        and_no true = refl
        and_no false = refl
    taken false rest = refl

    same : (d : Bool) (r : Bool) → cond (not d) r r ≡ r
    same true r = refl
    same false r = refl

    split : (b : Bool) → eq bytes (answer_bytes x) ≡ b → any_of bytes (without answer_eq xs ys) ≡ (any_of bytes xs && not (any_of bytes ys)) →
        any_of bytes (cond (not (list_any (answer_eq x) ys)) (x ∷ without answer_eq xs ys) (without answer_eq xs ys))
        ≡ ((eq bytes (answer_bytes x) || any_of bytes xs) && not (any_of bytes ys))
    split true e rest =
        dropped true (list_any (answer_eq x) ys) (without answer_eq xs ys)
        ∙ ap (λ d. cond (not d) (eq bytes (answer_bytes x) || any_of bytes (without answer_eq xs ys)) (any_of bytes (without answer_eq xs ys))) (alike e)
        ∙ ap (λ c. cond (not (any_of bytes ys)) (c || any_of bytes (without answer_eq xs ys)) (any_of bytes (without answer_eq xs ys))) e
        ∙ taken (any_of bytes ys) rest
        ∙ ap (λ c. (c || any_of bytes xs) && not (any_of bytes ys)) (sym e)
    split false e rest =
        dropped true (list_any (answer_eq x) ys) (without answer_eq xs ys)
        ∙ ap (λ c. cond (not (list_any (answer_eq x) ys)) (c || any_of bytes (without answer_eq xs ys)) (any_of bytes (without answer_eq xs ys))) e
        ∙ same (list_any (answer_eq x) ys) (any_of bytes (without answer_eq xs ys))
        ∙ rest
        ∙ ap (λ c. (c || any_of bytes xs) && not (any_of bytes ys)) (sym e)
