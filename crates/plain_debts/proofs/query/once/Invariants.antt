use Rattle.std.proofs.Common.{◌≡◌, take}
use Rattle.lists.specs.Lists.{each_once}
use Rattle.mdns_history.specs.Debts.{owed_eq}
use Rattle.plain_debts.proofs.query.once.Given as goal

abbrev pub invariant-loop-place : goal.invariant-loop-place
invariant-loop-place l = l.kept.items ≡ each_once owed_eq (take l.place l.owed)
