use Rattle.std.proofs.Common.{◌≡◌, false, rules}
use Rattle.sd_operations.specs.Operations.{has_one}
use Rattle.sd_sessions.proofs.WalkAnswers.{same-met}
use Rattle.sd_sessions.proofs.by_names.compare_answers.Goals as goal

pub returns-then-not-has_one-clause-value : goal.returns-then-not-has_one-clause-value
returns-then-not-has_one-clause-value c = λ earlier later seen.
    let none : has_one c.args.looked.now.numbers.now c.args.operation.now.op ≡ false = search rules in
    same-met earlier later c.args.looked.now.around.now c.args.before.now c.args.operation.now seen (c.requires.covered none)
