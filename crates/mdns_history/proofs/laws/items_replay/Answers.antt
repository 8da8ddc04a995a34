-- Both clauses are laws of the definitions.
use Rattle.mdns_history.proofs.LegalReplay.{is_replayed}
use Rattle.mdns_history.proofs.LegalQueue.{is_queued}
use Rattle.mdns_history.proofs.laws.items_replay.Goals as goal

pub returns-clause-replayed : goal.returns-clause-replayed
returns-clause-replayed c = is_replayed

pub returns-clause-queued : goal.returns-clause-queued
returns-clause-queued c = is_queued
