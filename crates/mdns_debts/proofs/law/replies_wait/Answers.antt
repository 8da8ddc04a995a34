-- The clauses are laws of the definitions.
use Rattle.mdns_debts.proofs.Ticked.{is_later_behind_ticks}
use Rattle.mdns_debts.proofs.Waits.{is_waiting, are_of_same}
use Rattle.mdns_debts.proofs.law.replies_wait.Goals as goal

pub returns : goal.returns
returns c = record { waiting = is_waiting; same = are_of_same; later = is_later_behind_ticks }
