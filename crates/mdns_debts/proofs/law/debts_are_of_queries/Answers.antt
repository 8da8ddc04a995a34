-- The clauses are laws of the definitions.
use Rattle.mdns_debts.proofs.Debts.{are_of_queries, are_released_by}
use Rattle.mdns_debts.proofs.Unicasts.{are_replied_to}
use Rattle.mdns_debts.proofs.law.debts_are_of_queries.Goals as goal

pub returns : goal.returns
returns c = record { debts = are_of_queries; replies = are_replied_to; released = are_released_by }
