use Rattle.std.proofs.Common.{◌≡◌, ◌∙◌, ◌+◌, ◌-◌, sym, arith}
use Rattle.std.specs.Prelude.{IsTrue}
use Rattle.dns_name.specs.Names.{is_label, is_under}
use Rattle.lists.proofs.Places.{stepped}
use Rattle.dns_name.proofs.Endings.{under_value, under_ends, too_short}
use Rattle.dns_name.proofs.name.Name.under.Goals as goal

pub returns-then-ours-theirs-clause-value : goal.returns-then-ours-theirs-clause-value
returns-then-ours-theirs-clause-value c = too_short c.args.self.now c.args.other.now (omega (arith, c.count-ours.ensures, c.count-theirs.ensures))

pub loop-preserved : goal.loop-preserved
loop-preserved c =
    stepped c.args.self.now c.loop.labels c.next_label.new.self (c.loop.counter - c.count-theirs.result) (c.loop.counter + 1 - c.count-theirs.result) c.next_label.result (λ label. IsTrue (is_label label.now))
    c.loop.invariant (omega arith) c.next_label.ensures

-- what is answered
answer : (c : goal.After-is_same) → c.is_same.result ≡ is_under c.args.self.now c.args.other.now
answer c =
    under_value c.args.self.now c.args.other.now c.loop.labels (c.loop.counter - c.count-theirs.result) c.is_same.result
    (omega (arith, c.count-ours.ensures, c.count-theirs.ensures)) c.loop.invariant c.is_same.ensures

pub returns-clause-value : goal.returns-clause-value
returns-clause-value c = answer c

pub returns-clause-ends : goal.returns-clause-ends
returns-clause-ends c =
    let ends = under_ends c.args.self.now c.args.other.now in
    (λ yes. ends.0 (sym (answer c) ∙ yes), λ found. answer c ∙ ends.1 found)
