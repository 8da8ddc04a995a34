use Rattle.mdns_known.proofs.Live.{of_live_records, order_free}
use Rattle.mdns_known.proofs.Union.{are_of_live_records}
use Rattle.mdns_known.proofs.laws.known_answers_of_live_records.Goals as goal

pub returns-clause-live : goal.returns-clause-live
returns-clause-live c = of_live_records

pub returns-clause-order : goal.returns-clause-order
returns-clause-order c = order_free

pub returns-clause-all : goal.returns-clause-all
returns-clause-all c = are_of_live_records
