-- Words on lists that the definitions of every layer use.
use Rattle.std.specs.Prelude.{ℕ, zero, suc, ◌+◌, Bool, List, [], ◌∷◌, Option, Some, None, not, min, filter, if◌then◌else◌}
use Rattle.std.specs.List.{list_any}
use Rattle.std.specs.Ordering.{is_lt, is_eq}
use Rattle.std.specs.declared.cmp.Ordering.{Ordering}

-- the list without each element to which an earlier one is equal
abbrev pub each_once : {X : Type 0} → (X → X → Bool) → List X → List X
each_once eq [] = []
each_once eq (x ∷ xs) = x ∷ filter (λ y. not (eq x y)) (each_once eq xs)

-- x put before the first element that isn't below it
abbrev pub insert_by : {X : Type 0} → (X → X → Ordering) → X → List X → List X
insert_by cmp x [] = x ∷ []
insert_by cmp x (y ∷ ys) = if is_lt (cmp y x) then y ∷ insert_by cmp x ys else x ∷ y ∷ ys

-- the elements in order; those that compare equal stay in the order of the list
abbrev pub sorted_by : {X : Type 0} → (X → X → Ordering) → List X → List X
sorted_by cmp [] = []
sorted_by cmp (x ∷ xs) = insert_by cmp x (sorted_by cmp xs)

-- the elements in order, of those that compare equal the first alone
abbrev pub ordered : {X : Type 0} → (X → X → Ordering) → List X → List X
ordered cmp xs = sorted_by cmp (each_once (λ x y. is_eq (cmp x y)) xs)

-- the elements of xs that ys hasn't
abbrev pub without : {X : Type 0} → (X → X → Bool) → List X → List X → List X
without eq xs ys = filter (λ x. not (list_any (eq x) ys)) xs

-- the elements before the first one that passes the test, all of them where none does
abbrev pub until : {X : Type 0} → (X → Bool) → List X → List X
until test [] = []
until test (x ∷ xs) = if test x then [] else x ∷ until test xs

-- how many elements pass the test
abbrev pub count_where : {X : Type 0} → (X → Bool) → List X → ℕ
count_where test [] = 0
count_where test (x ∷ xs) = let more = count_where test xs in if test x then suc more else more

-- the least of a number and of those in a list
abbrev pub least_of : ℕ → List ℕ → ℕ
least_of n [] = n
least_of n (m ∷ ms) = min m (least_of n ms)

-- the least number of a list, if it has one
abbrev pub least : List ℕ → Option ℕ
least [] = None
least (n ∷ ns) = Some (least_of n ns)

-- the numbers from first on, so many
abbrev pub count_up : ℕ → ℕ → List ℕ
count_up first zero = []
count_up first (suc more) = first ∷ count_up (first + 1) more
