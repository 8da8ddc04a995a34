-- Where operations and their answers stay there is no change.
use Rattle.std.proofs.Common.{◌≡◌, ◌==◌, Bool, true, false, cond, not, ◌&&◌, ◌||◌, List, [], ◌∷◌, ◌++◌, map, Option, Some, None, refl, ap, ◌∙◌, sym, arith, append_assoc}
use Rattle.std.specs.Prelude.{nat_lt}
use Rattle.std.specs.List.{list_all, list_any, flat_map, find}
use Rattle.std.specs.Option.{option_map_or}
use Rattle.std.specs.Cmp.{eq_by_cmp_equiv}
use Rattle.std.specs.Cmp.Lexicographic.{nat_list_cmp_total}
use Rattle.std.proofs.lemmas.Bool.{or_right}
use Rattle.std.proofs.lemmas.List.Folds.{list_any-append}
use Rattle.lists.specs.Lists.{without}
use Rattle.sd_call.specs.declared.answer.Answer.{Answer}
use Rattle.sd_call.specs.declared.item.Item.TheVariants.{Add, Remove}
use Rattle.sd_call.specs.Answers.{answer_bytes, answer_cmp, answer_eq}
use Rattle.mdns_history.specs.declared.operation.Operation.{Operation}
use Rattle.mdns_history.specs.Sessions.{has_op}
use Rattle.sd_sessions.specs.Answered.{Answering}
use Rattle.sd_sessions.specs.Changes.{lost, gained, items_between}
use Rattle.sd_operations.specs.Operations.{AreRising}

answer_itself : (answer : Answer) → answer_eq answer answer ≡ true
unfolding answer_eq answer_cmp
answer_itself answer = (eq_by_cmp_equiv nat_list_cmp_total).refl (answer_bytes answer)

-- a list without its own elements
without_behind : (us vs : List Answer) → without answer_eq vs (us ++ vs) ≡ []
without_behind us [] = refl
without_behind us (a ∷ vs) = ap (λ b. cond (not b) (a ∷ rest) rest) there ∙ again (without_behind (us ++ a ∷ []) vs)
  where
    rest : List Answer
    rest = without answer_eq vs (us ++ a ∷ vs)

    there : list_any (answer_eq a) (us ++ a ∷ vs) ≡ true
    there =
        list_any-append (answer_eq a) us (a ∷ vs)
        ∙ or_right (list_any (answer_eq a) us) (list_any (answer_eq a) (a ∷ vs)) (ap (λ b. b || list_any (answer_eq a) vs) (answer_itself a))

    again : without answer_eq vs ((us ++ a ∷ []) ++ vs) ≡ [] → rest ≡ []
    again e = ap (λ l. without answer_eq vs l) (sym (append_assoc us (a ∷ []) vs)) ∙ e

pub without-self : (us : List Answer) → without answer_eq us us ≡ []
without-self us = without_behind [] us

-- each operation is found by its number
abbrev AreFound : List Operation → List Operation → Type 0
AreFound all [] = Unit {0}
AreFound all (o ∷ os) = (find (has_op o.op) all ≡ Some o) × AreFound all os

found_behind : (o : Operation) (all os : List Operation) → list_all (λ p. nat_lt o.op p.op) os ≡ true → AreFound all os → AreFound (o ∷ all) os
found_behind o all [] above found = tt
found_behind o all (p ∷ os) above found = of (nat_lt o.op p.op) refl above (λ h. found_behind o all os h found.1)
  where
    of : (b : Bool) → nat_lt o.op p.op ≡ b → (b && list_all (λ q. nat_lt o.op q.op) os) ≡ true → (list_all (λ q. nat_lt o.op q.op) os ≡ true → AreFound (o ∷ all) os) → AreFound (o ∷ all) (p ∷ os)
    of true e h rest = let other : (o.op == p.op) ≡ false = grind arith in (ap (λ b. cond b (Some o) (find (has_op p.op) all)) other ∙ found.0, rest h)
    of false e h rest = cc

are_found : (os : List Operation) → AreRising os → AreFound os os
are_found [] rising = tt
are_found (o ∷ os) rising = (ap (λ b. cond b (Some o) (find (has_op o.op) os)) itself, found_behind o os os rising.0 (are_found os rising.1))
  where
    itself : (o.op == o.op) ≡ true
    itself = grind arith

lost_none : (all : List Operation) (f : Answering) (os : List Operation) → AreFound all os → flat_map (lost f f all) os ≡ []
lost_none all f [] found = refl
lost_none all f (o ∷ os) found =
    ap (λ (x : Option Operation). map (λ answer. Remove o.op answer) (without answer_eq (option_map_or f x []) (f o)) ++ flat_map (lost f f all) os) found.0
    ∙ ap (λ us. map (λ answer. Remove o.op answer) us ++ flat_map (lost f f all) os) (without-self (f o))
    ∙ lost_none all f os found.1

gained_none : (all : List Operation) (f : Answering) (os : List Operation) → AreFound all os → flat_map (gained f f all) os ≡ []
gained_none all f [] found = refl
gained_none all f (o ∷ os) found =
    ap (λ (x : Option Operation). map (λ answer. Add o.op answer) (without answer_eq (f o) (option_map_or f x [])) ++ flat_map (gained f f all) os) found.0
    ∙ ap (λ us. map (λ answer. Add o.op answer) us ++ flat_map (gained f f all) os) (without-self (f o))
    ∙ gained_none all f os found.1

-- With the same operations and the same answers there is no change.
pub items_between-same : (os : List Operation) (f : Answering) → AreRising os → items_between f f None os os ≡ []
unfolding items_between
items_between-same os f rising =
    ap (λ xs. xs ++ flat_map (gained f f os) os) (lost_none os f os (are_found os rising)) ∙ gained_none os f os (are_found os rising)
