-- The visits of a walk of different names are few: one for each name, and one for each record of these names.
use Rattle.std.proofs.Common.{◌≡◌, ℕ, ◌+◌, ◌≤◌, Bool, true, false, cond, not, ◌||◌, ◌&&◌, List, [], ◌∷◌, length, refl, ap, sym, subst, ◌∙◌, arith}
use Rattle.std.specs.Prelude.{filter}
use Rattle.std.specs.List.{sum_by, AllByRecursion, IsDistinct}
use Rattle.std.proofs.lemmas.List.Sums.{sum_by-cons}
use Rattle.std.proofs.lemmas.Map.Made.{length-le_from_is_member, is_member-filter}
use Rattle.lists.specs.Lists.{each_once}
use Rattle.dns_name.specs.Names.{folded_eq}
use Rattle.dns_name.proofs.Folding.{folded_eq-equivalence}
use Rattle.mdns_history.specs.declared.held.Held.{Held}
use Rattle.mdns_cache.specs.Lifetimes.{held_of}
use Rattle.mdns_cache.specs.Ended.{is_among}
use Rattle.mdns_records.specs.Visits.{visits_of, visits_of_all}

abbrev Name : Type 0
Name = List (List ℕ)

-- ---- a name that is among some is among them once each is there once

not_false : (b : Bool) → b ≡ false → not b ≡ true
not_false true e = absurd (cc)
not_false false e = refl

pub once-among : (names : List Name) (name : Name) → is_among names name ≡ true → is_among (each_once folded_eq names) name ≡ true
once-among [] name e = e
once-among (one ∷ names) name e = of (folded_eq name one) refl e (once-among names name)
  where
    of : (b : Bool) → folded_eq name one ≡ b → (b || is_among names name) ≡ true → (is_among names name ≡ true → is_among (each_once folded_eq names) name ≡ true) →
        (b || is_among (filter (λ other. not (folded_eq one other)) (each_once folded_eq names)) name) ≡ true
    of true is e rest = refl
    of false is e rest =
        is_member-filter folded_eq-equivalence (λ other. not (folded_eq one other)) name
        (λ other alike. ap not (folded_eq-equivalence.symm one name ∙ folded_eq-equivalence.congr name other one alike ∙ folded_eq-equivalence.symm other one)) (each_once folded_eq names)
        ∙ (λ i. rest e i && not_false (folded_eq one name) (folded_eq-equivalence.symm one name ∙ is) i)

-- different names that are among some are no more than these, each once
names-few : (names those : List Name) → IsDistinct folded_eq names → ((name : Name) → is_among names name ≡ true → is_among those name ≡ true) → length names ≤ length (each_once folded_eq those)
names-few names those once within =
    length-le_from_is_member folded_eq-equivalence names (each_once folded_eq those) once (λ name there. once-among those name (within name there))

-- ---- the records of different names

-- one where something holds
abbrev one_if : Bool → ℕ
one_if true = 1
one_if false = 0

-- how many of these names a record has
count : Held → List Name → ℕ
count one names = sum_by (λ (name : Name). one_if (folded_eq one.rr.owner name)) names

-- how many records have one of these names, those of each name together
together : List Held → List Name → ℕ
together held names = sum_by (λ (name : Name). length (held_of name held)) names

one-more : {X : Type 0} (b : Bool) (x : X) (xs : List X) → length (cond b (x ∷ xs) xs) ≡ one_if b + length xs
one-more true x xs = omega arith
one-more false x xs = omega arith

together-first : (one : Held) (held : List Held) (names : List Name) → together (one ∷ held) names ≡ count one names + together held names
unfolding together count
together-first one held [] = refl
together-first one held (name ∷ names) =
    let a = sum_by-cons (λ (name : Name). length (held_of name (one ∷ held))) name names in
    let b = sum_by-cons (λ (name : Name). length (held_of name held)) name names in
    let c = sum_by-cons (λ (name : Name). one_if (folded_eq one.rr.owner name)) name names in
    let here = one-more (folded_eq one.rr.owner name) one (held_of name held) in
    let rest : sum_by (λ (name : Name). length (held_of name (one ∷ held))) names ≡ sum_by (λ (name : Name). one_if (folded_eq one.rr.owner name)) names + sum_by (λ (name : Name). length (held_of name held)) names = together-first one held names in
    omega (arith, a, b, c, here, rest)

together-none : (names : List Name) → together [] names ≡ 0
unfolding together
together-none [] = refl
together-none (name ∷ names) =
    let a = sum_by-cons (λ (name : Name). length (held_of name [])) name names in
    let rest : sum_by (λ (name : Name). length (held_of name [])) names ≡ 0 = together-none names in
    omega (arith, a, rest)

-- a record has no other name than its own
count-apart : (one : Held) (name : Name) (names : List Name) → folded_eq one.rr.owner name ≡ true → AllByRecursion (λ (other : Name). folded_eq name other ≡ false) names → count one names ≡ 0
unfolding count
count-apart one name [] is apart = refl
count-apart one name (other ∷ names) is apart =
    let a = sum_by-cons (λ (name : Name). one_if (folded_eq one.rr.owner name)) other names in
    let here : one_if (folded_eq one.rr.owner other) ≡ 0 = ap (λ (b : Bool). one_if b) (folded_eq-equivalence.congr one.rr.owner name other is ∙ apart.0) in
    let rest : sum_by (λ (name : Name). one_if (folded_eq one.rr.owner name)) names ≡ 0 = count-apart one name names is apart.1 in
    omega (arith, a, here, rest)

-- so it has one of different names at most, and none where its own isn't among them
count-once : (one : Held) (names : List Name) → IsDistinct folded_eq names → count one names ≤ one_if (is_among names one.rr.owner)
unfolding count IsDistinct
count-once one [] once = omega arith
count-once one (name ∷ names) once = of (folded_eq one.rr.owner name) refl (count-once one names once.1)
  where
    of : (b : Bool) → folded_eq one.rr.owner name ≡ b → count one names ≤ one_if (is_among names one.rr.owner) → count one (name ∷ names) ≤ one_if (b || is_among names one.rr.owner)
    of true is rest =
        let a = sum_by-cons (λ (name : Name). one_if (folded_eq one.rr.owner name)) name names in
        let here : one_if (folded_eq one.rr.owner name) ≡ 1 = ap (λ (b : Bool). one_if b) is in
        let none : sum_by (λ (name : Name). one_if (folded_eq one.rr.owner name)) names ≡ 0 = count-apart one name names is once.0 in
        omega (arith, a, here, none)
    of false is rest =
        let a = sum_by-cons (λ (name : Name). one_if (folded_eq one.rr.owner name)) name names in
        let here : one_if (folded_eq one.rr.owner name) ≡ 0 = ap (λ (b : Bool). one_if b) is in
        let more : sum_by (λ (name : Name). one_if (folded_eq one.rr.owner name)) names ≤ one_if (is_among names one.rr.owner) = rest in
        omega (arith, a, here, more)

under : (a b : Bool) → (a ≡ true → b ≡ true) → one_if a ≤ one_if b
under true b h = subst (λ (c : Bool). 1 ≤ one_if c) (sym (h refl)) (omega arith)
under false true h = omega arith
under false false h = omega arith

together-few : (names those : List Name) → IsDistinct folded_eq names → ((name : Name) → is_among names name ≡ true → is_among those name ≡ true) → (held : List Held) →
    together held names ≤ length (filter (λ (one : Held). is_among those one.rr.owner) held)
together-few names those once within [] = let none = together-none names in omega (arith, none)
together-few names those once within (one ∷ held) =
    let first = together-first one held names in
    let here = count-once one names once in
    let more = under (is_among names one.rr.owner) (is_among those one.rr.owner) (within one.rr.owner) in
    let counted = one-more (is_among those one.rr.owner) one (filter (λ (one : Held). is_among those one.rr.owner) held) in
    let rest = together-few names those once within held in
    omega (arith, first, here, more, counted, rest)

visits-split : (held : List Held) (names : List Name) → visits_of_all held names ≡ together held names + length names
unfolding together
visits-split held [] = refl
visits-split held (name ∷ names) =
    let a = sum_by-cons (visits_of held) name names in
    let b = sum_by-cons (λ (name : Name). length (held_of name held)) name names in
    let rest : visits_of_all held names ≡ sum_by (λ (name : Name). length (held_of name held)) names + length names = visits-split held names in
    omega (arith, a, b, rest)

-- A walk of different names, all among some, takes no more visits than these names, each once, and the records of these names are.
pub visits-few : (names those : List Name) (held : List Held) → IsDistinct folded_eq names → ((name : Name) → is_among names name ≡ true → is_among those name ≡ true) →
    visits_of_all held names ≤ length (each_once folded_eq those) + length (filter (λ (one : Held). is_among those one.rr.owner) held)
visits-few names those held once within =
    let split = visits-split held names in
    let few = names-few names those once within in
    let records = together-few names those once within held in
    omega (arith, split, few, records)
