-- Lists by one more element, and the groups by one more entry.
use Rattle.std.proofs.Common.{◌≡◌, ℕ, zero, suc, ◌+◌, ◌-◌, ◌≤◌, not, length, length-drop, drop, List, [], ◌∷◌, ◌++◌, take, Option, Some, None, refl, ap, ◌∙◌, arith}
use Rattle.std.specs.Prelude.{filter, slice_get}
use Rattle.std.specs.Option.{option_to_list}
use Rattle.mdns_history.specs.declared.entry.Entry.{Entry}
use Rattle.mdns_history.specs.Groups.{Group, begun_in, ends_group, groups, names_of, registered_count}

-- the elements up to a place with the one at it
pub get_more : {X : Type 0} (xs : List X) (i : ℕ) (x : X) → slice_get xs i ≡ Some x → take (i + 1) xs ≡ take i xs ++ x ∷ []
get_more [] i x h = absurd (cc)
get_more (y ∷ ys) zero x h = let e : y ≡ x = cc in ap (λ z. z ∷ []) e
get_more (y ∷ ys) (suc i) x h = let e : suc i + 1 ≡ suc (i + 1) = omega arith in ap (λ n. take n (y ∷ ys)) e ∙ ap (λ l. y ∷ l) (get_more ys i x h)

-- as many elements as there are
take_enough : {X : Type 0} (xs : List X) (n : ℕ) → length xs ≤ n → take n xs ≡ xs
take_enough [] zero h = refl
take_enough [] (suc n) h = refl
take_enough (x ∷ xs) zero h = absurd (omega arith)
take_enough (x ∷ xs) (suc n) h = ap (λ l. x ∷ l) (take_enough xs n (omega arith))

-- what is left of a list, as a slice has it
pub slice_rest : {X : Type 0} (xs : List X) (k : ℕ) → take (length xs - k) (drop k xs) ≡ drop k xs
slice_rest xs k = take_enough (drop k xs) (length xs - k) (omega (arith, length-drop k xs))

-- the groups behind an entry
abbrev pub groups_behind : Entry → List Entry → List Group → List Group
groups_behind entry past before = filter (λ group. not (ends_group entry group)) before ++ option_to_list (begun_in entry (registered_count past + 1) (names_of before past))

pub groups_next : (entry : Entry) (past : List Entry) → groups_behind entry past (groups past) ≡ groups (entry ∷ past)
unfolding groups
groups_next entry past = refl
