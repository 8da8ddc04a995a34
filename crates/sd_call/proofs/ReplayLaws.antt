-- Replaying removes and adds that lead from old answers to new ones.
use Rattle.std.proofs.Common.{◌≡◌, ℕ, Bool, true, false, not, ◌&&◌, ◌||◌, List, [], ◌∷◌, map, refl, ap, ◌∙◌, sym}
use Rattle.std.specs.List.{list_any}
use Rattle.std.specs.Cmp.Lexicographic.{nat_list_cmp_total}
use Rattle.std.specs.FinSet as set
use Rattle.lists.specs.Lists.{without}
use Rattle.sd_call.specs.declared.answer.Answer.{Answer}
use Rattle.sd_call.specs.Answers.{answer_bytes, answer_eq}
use Rattle.sd_call.specs.Replay.{AnswerSet}
use Rattle.sd_call.proofs.AnswerLists.{eq, eq_refl, eq_path, any_of, AreDifferent, AreDifferent-filter, any_of-without}

-- the answers as a set
abbrev pub set_of : List Answer → AnswerSet
set_of answers = set.from_list (map answer_bytes answers)

list_any-map : (bytes : List ℕ) (xs : List Answer) → list_any (eq bytes) (map answer_bytes xs) ≡ any_of bytes xs
list_any-map bytes [] = refl
list_any-map bytes (x ∷ xs) = ap (λ b. eq bytes (answer_bytes x) || b) (list_any-map bytes xs)

pub contains-set_of : (xs : List Answer) (bytes : List ℕ) → set.contains (set_of xs) bytes ≡ any_of bytes xs
contains-set_of xs bytes = set.contains-from_list nat_list_cmp_total (map answer_bytes xs) bytes ∙ list_any-map bytes xs

-- a set without answers, and with answers more
abbrev pub minus : AnswerSet → List Answer → AnswerSet
minus s [] = s
minus s (x ∷ xs) = minus (set.remove s (answer_bytes x)) xs

abbrev pub plus : AnswerSet → List Answer → AnswerSet
plus s [] = s
plus s (x ∷ xs) = plus (set.insert s (answer_bytes x)) xs

-- answers that can be taken out of a set one after the other, and put into it
abbrev pub CanTake : AnswerSet → List Answer → Type 0
CanTake s [] = Unit {0}
CanTake s (x ∷ xs) = (set.contains s (answer_bytes x) ≡ true) × CanTake (set.remove s (answer_bytes x)) xs

abbrev pub CanPut : AnswerSet → List Answer → Type 0
CanPut s [] = Unit {0}
CanPut s (x ∷ xs) = (set.contains s (answer_bytes x) ≡ false) × CanPut (set.insert s (answer_bytes x)) xs

and_swap : (a b c : Bool) → (a && (b && c)) ≡ ((b && a) && c)
and_swap true true c = refl
and_swap true false c = refl
and_swap false true c = refl
and_swap false false c = refl

contains-minus : (xs : List Answer) (s : AnswerSet) (bytes : List ℕ) → set.contains (minus s xs) bytes ≡ (not (any_of bytes xs) && set.contains s bytes)
contains-minus [] s bytes = refl
contains-minus (x ∷ xs) s bytes =
    contains-minus xs (set.remove s (answer_bytes x)) bytes
    ∙ ap (λ c. not (any_of bytes xs) && c) (set.contains-remove nat_list_cmp_total s (answer_bytes x) bytes)
    ∙ regroup (any_of bytes xs) (eq bytes (answer_bytes x)) (set.contains s bytes)
  where
    regroup : (a b c : Bool) → (not a && (not b && c)) ≡ (not (b || a) && c)
    regroup true true c = refl
    regroup true false c = refl
    regroup false true c = refl
    regroup false false c = refl

contains-plus : (xs : List Answer) (s : AnswerSet) (bytes : List ℕ) → set.contains (plus s xs) bytes ≡ (any_of bytes xs || set.contains s bytes)
contains-plus [] s bytes = refl
contains-plus (x ∷ xs) s bytes =
    contains-plus xs (set.insert s (answer_bytes x)) bytes
    ∙ ap (λ c. any_of bytes xs || c) (set.contains-insert nat_list_cmp_total s (answer_bytes x) bytes)
    ∙ regroup (any_of bytes xs) (eq bytes (answer_bytes x)) (set.contains s bytes)
  where
    regroup : (a b c : Bool) → (a || (b || c)) ≡ ((b || a) || c)
    regroup true true c = refl
    regroup true false c = refl
    regroup false true c = refl
    regroup false false c = refl

-- different answers of a set can be taken out of it
can_take : (xs : List Answer) (s : AnswerSet) → AreDifferent xs → ((bytes : List ℕ) → any_of bytes xs ≡ true → set.contains s bytes ≡ true) → CanTake s xs
can_take [] s d inside = tt
can_take (x ∷ xs) s d inside = (
  inside (answer_bytes x) (ap (λ b. b || any_of (answer_bytes x) xs) (eq_refl (answer_bytes x))),
  can_take xs (set.remove s (answer_bytes x)) d.1 (λ bytes found.
      set.contains-remove nat_list_cmp_total s (answer_bytes x) bytes
      ∙ left (eq bytes (answer_bytes x)) refl bytes found
      ∙ inside bytes (ap (λ c. eq bytes (answer_bytes x) || c) found ∙ or_true (eq bytes (answer_bytes x)))),
)
  where
    or_true : (b : Bool) → (b || true) ≡ true
    or_true true = refl
    or_true false = refl

    left : (b : Bool) → (b ≡ b) → (bytes : List ℕ) → any_of bytes xs ≡ true → (not (eq bytes (answer_bytes x)) && set.contains s bytes) ≡ set.contains s bytes
    left b e bytes found = apart (eq bytes (answer_bytes x)) refl
      where
        apart : (c : Bool) → eq bytes (answer_bytes x) ≡ c → (not (eq bytes (answer_bytes x)) && set.contains s bytes) ≡ set.contains s bytes
        apart true f = let p : any_of (answer_bytes x) xs ≡ true = ap (λ k. any_of k xs) (sym (eq_path bytes (answer_bytes x) f)) ∙ found in let q : true ≡ false = sym p ∙ d.0 in cc
        apart false f = ap (λ c. not c && set.contains s bytes) f

-- different answers that a set lacks can be put into it
can_put : (xs : List Answer) (s : AnswerSet) → AreDifferent xs → ((bytes : List ℕ) → any_of bytes xs ≡ true → set.contains s bytes ≡ false) → CanPut s xs
can_put [] s d outside = tt
can_put (x ∷ xs) s d outside = (
  outside (answer_bytes x) (ap (λ b. b || any_of (answer_bytes x) xs) (eq_refl (answer_bytes x))),
  can_put xs (set.insert s (answer_bytes x)) d.1 (λ bytes found.
      set.contains-insert nat_list_cmp_total s (answer_bytes x) bytes
      ∙ apart bytes found (eq bytes (answer_bytes x)) refl
      ∙ outside bytes (ap (λ c. eq bytes (answer_bytes x) || c) found ∙ or_true (eq bytes (answer_bytes x)))),
)
  where
    or_true : (b : Bool) → (b || true) ≡ true
    or_true true = refl
    or_true false = refl

    apart : (bytes : List ℕ) → any_of bytes xs ≡ true → (c : Bool) → eq bytes (answer_bytes x) ≡ c → (eq bytes (answer_bytes x) || set.contains s bytes) ≡ set.contains s bytes
    apart bytes found true f = let p : any_of (answer_bytes x) xs ≡ true = ap (λ k. any_of k xs) (sym (eq_path bytes (answer_bytes x) f)) ∙ found in let q : true ≡ false = sym p ∙ d.0 in cc
    apart bytes found false f = ap (λ c. c || set.contains s bytes) f

and_left : (a b : Bool) → (a && b) ≡ true → a ≡ true
and_left true b e = refl
and_left false b e = e

and_right : (a b : Bool) → (a && b) ≡ true → b ≡ true
and_right true b e = e
and_right false b e = cc

-- what an operation has no more can be taken
pub can_take_old : (old new : List Answer) → AreDifferent old → CanTake (set_of old) (without answer_eq old new)
can_take_old old new d =
    can_take (without answer_eq old new) (set_of old) (AreDifferent-filter (λ x. not (list_any (answer_eq x) new)) old d)
    (λ bytes found. contains-set_of old bytes ∙ and_left (any_of bytes old) (not (any_of bytes new)) (sym (any_of-without bytes old new) ∙ found))

-- and then what it has newly can be put
pub can_put_new : (old new : List Answer) → AreDifferent new → CanPut (minus (set_of old) (without answer_eq old new)) (without answer_eq new old)
can_put_new old new d =
    can_put (without answer_eq new old) (minus (set_of old) (without answer_eq old new)) (AreDifferent-filter (λ x. not (list_any (answer_eq x) old)) new d)
    (λ bytes found.
    contains-minus (without answer_eq old new) (set_of old) bytes
    ∙ ap (λ c. not (any_of bytes (without answer_eq old new)) && c) (contains-set_of old bytes)
    ∙ absent (any_of bytes old) (not (any_of bytes (without answer_eq old new))) (and_right (any_of bytes new) (not (any_of bytes old)) (sym (any_of-without bytes new old) ∙ found)))
  where
    absent : (o c : Bool) → not o ≡ true → (c && o) ≡ false
    absent true c e = cc
    absent false true e = refl
    absent false false e = refl

-- which leaves the new answers
pub plus-minus : (old new : List Answer) → plus (minus (set_of old) (without answer_eq old new)) (without answer_eq new old) ≡ set_of new
plus-minus old new = set.same_set nat_list_cmp_total (set.slice_cmp-IsAntisymmetric set.nat_cmp-IsAntisymmetric) _ _ (λ bytes.
    contains-plus (without answer_eq new old) (minus (set_of old) (without answer_eq old new)) bytes
    ∙ ap (λ c. any_of bytes (without answer_eq new old) || c) (contains-minus (without answer_eq old new) (set_of old) bytes)
    ∙ ap (λ c. any_of bytes (without answer_eq new old) || (not (any_of bytes (without answer_eq old new)) && c)) (contains-set_of old bytes)
    ∙ ap (λ c. c || (not (any_of bytes (without answer_eq old new)) && any_of bytes old)) (any_of-without bytes new old)
    ∙ ap (λ c. (any_of bytes new && not (any_of bytes old)) || (not c && any_of bytes old)) (any_of-without bytes old new)
    ∙ table (any_of bytes old) (any_of bytes new)
    ∙ sym (contains-set_of new bytes))
  where
    table : (o n : Bool) → ((n && not o) || (not (o && not n) && o)) ≡ n
    table true true = refl
    table true false = refl
    table false true = refl
    table false false = refl
