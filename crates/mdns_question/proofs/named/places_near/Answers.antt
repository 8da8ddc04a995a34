use Rattle.std.proofs.Common.{◌≡◌, ℕ, ◌+◌, ◌<◌, ◌≤◌, true, get_or, length, refl, ap, sym, ◌∙◌, arith, ⊎_elim}
use Rattle.std.proofs.lemmas.Bool.{cases_lt}
use Rattle.dns_name.specs.Names.{folded_eq}
use Rattle.mdns_question.specs.declared.tracked.Tracked.{Tracked}
use Rattle.mdns_question.proofs.NameParts.{run_of_name, first_of_run}
use Rattle.mdns_question.proofs.named.places_near.Goals as goal

pub returns-then-is_at : goal.returns-then-is_at
returns-then-is_at c =
    run_of_name c.args.name.now c.args.questions.now first end c.requires order c.end_from.ensures.within
    (first_of_run c.args.name.now c.args.questions.now first c.args.near c.requires c.first_to-first.ensures.order within at c.first_to-first.ensures.named c.first_to-first.ensures.before)
    named c.end_from.ensures.behind
  where
    first : ℕ
    first = c.first_to-first.result

    end : ℕ
    end = c.end_from.result

    within : c.args.near < length c.args.questions.now
    within = c.if-is_at.ensures.within refl

    at : (d : Tracked) → folded_eq c.args.name.now (get_or c.args.questions.now c.args.near d).key.name ≡ true
    at = c.if-is_at.ensures.named refl

    order : first ≤ end
    order = let most : first ≤ c.args.near = c.first_to-first.ensures.order in let more : c.args.near + 1 ≤ end = c.end_from.ensures.order in omega (arith, most, more)

    named : (k : ℕ) → k < end → (d : Tracked) → first ≤ k → folded_eq c.args.name.now (get_or c.args.questions.now k d).key.name ≡ true
    named k h d g =
        ⊎_elim (λ less. c.first_to-first.ensures.named k less d g)
        (λ more. ⊎_elim (λ past. c.end_from.ensures.named k h d (omega (arith, past)))
        (λ here. let same : c.args.near ≡ k = omega (arith, more, here) in ap (λ (i : ℕ). folded_eq c.args.name.now (get_or c.args.questions.now i d).key.name) (sym same) ∙ at d)
        (cases_lt c.args.near k)) (cases_lt k c.args.near)
