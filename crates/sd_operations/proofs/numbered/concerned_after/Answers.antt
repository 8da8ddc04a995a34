use Rattle.std.proofs.Common.{◌≡◌, ◌∙◌, subst, sym}
use Rattle.sd_operations.specs.Operations.{AreRising, has_one, of_numbers}
use Rattle.sd_operations.proofs.Rising.{AreRising-filter}
use Rattle.sd_operations.proofs.numbered.concerned_after.Goals as goal

pub run-requires-clause-rising : goal.run-requires-clause-rising
run-requires-clause-rising c =
    let some : c.reserve.new.self.items ≡ of_numbers c.args.numbers.now c.args.operations.now = c.reserve.ensures.items ∙ c.in_ok-some.ensures in
    subst AreRising (sym some) (AreRising-filter (λ o. has_one c.args.numbers.now o.op) c.args.operations.now c.requires)
