use Rattle.std.proofs.Common.{◌≡◌, ◌++◌, drop}
use Rattle.std.specs.List.{flat_map}
use Rattle.mdns_history.specs.Debts.{owed_for}
use Rattle.plain_debts.proofs.query.owed_for_all.Given as goal

abbrev pub invariant-loop-question : goal.invariant-loop-question
invariant-loop-question l = l.all.items ++ flat_map (owed_for l.heard l.entry l.past) (drop l.question-index l.question-items) ≡ flat_map (owed_for l.heard l.entry l.past) l.heard.message.questions
