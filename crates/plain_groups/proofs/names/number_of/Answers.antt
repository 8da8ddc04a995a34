use Rattle.std.proofs.Common.{◌≡◌, ◌∙◌, ◌+◌, Some, drop, ap, sym}
use Rattle.mdns_history.specs.Groups.{renaming, number_of}
use Rattle.plain_history.proofs.Onces.{drop_front}
use Rattle.plain_groups.proofs.Numbers.{number_here}
use Rattle.plain_groups.proofs.names.number_of.Goals as goal

pub returns-in-Some-clause-value : goal.returns-in-Some-clause-value
returns-in-Some-clause-value c =
    let group = c.args.group.now in
    let history = c.args.history.now in
    let entry = c.entry-item.result in
    let given : renaming group.id entry ≡ Some c.in-Some.number = cc in
    sym (number_here group entry (drop (c.loop-entry.entry-index + 1) history) c.in-Some.number given)
    ∙ ap (number_of group) (sym (drop_front history c.loop-entry.entry-index entry c.loop-entry-test.true c.entry-item.is))
    ∙ c.loop-entry.invariant
