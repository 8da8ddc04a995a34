use Rattle.std.proofs.Common.{◌≡◌, ◌≤◌, length, drop}
use Rattle.mdns_history.specs.Debts.{standing_debts}
use Rattle.plain_debts.proofs.standing.standing_debts.Given as goal

abbrev pub invariant-loop-place : goal.invariant-loop-place
invariant-loop-place l = record { debts : l.debts.items ≡ standing_debts (drop l.place l.history); within : l.place ≤ length l.history }

abbrev pub decreases-loop-place : goal.decreases-loop-place
decreases-loop-place l = l.place
