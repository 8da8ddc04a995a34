use Rattle.std.proofs.Common.{◌∙◌, sym, ap, length, arith}
use Rattle.txt_record.proofs.Runs.{first_fits, first_leaves, strings_of-first}
use Rattle.txt_record.proofs.strings.StringsIterator.next.Goals as goal

pub split_at-requires : goal.split_at-requires
split_at-requires c = first_fits _ _ _ _ c.self.invariant c.in_ok-size.ensures.cases.0 c.from.ensures

pub invariant_of-self : goal.invariant_of-self
invariant_of-self c = first_leaves _ _ _ _ _ c.self.invariant c.in_ok-size.ensures.cases.0 c.from.ensures c.split_at.ensures.back

pub returns-clause-steps : goal.returns-clause-steps
returns-clause-steps c =
    sym c.self.view_is
    ∙ strings_of-first _ _ _ _ _ _ c.self.invariant c.in_ok-size.ensures.cases.0 c.from.ensures c.split_at.ensures.front c.split_at.ensures.back

pub returns-clause-goes : goal.returns-clause-goes
returns-clause-goes c =
    let step =
    sym c.self.view_is
    ∙ strings_of-first _ _ _ _ _ _ c.self.invariant c.in_ok-size.ensures.cases.0 c.from.ensures c.split_at.ensures.front c.split_at.ensures.back in
    record { on = λ _. (tt, tt, omega (arith, ap length step)); keeps = tt; rests = λ _. tt }
