use Rattle.mdns_hub.proofs.Determined.{is_played_once}
use Rattle.mdns_hub.proofs.Legal.{are_legal}
use Rattle.mdns_hub.proofs.law.scripts_are_played_once.Goals as goal

pub returns-clause-once : goal.returns-clause-once
returns-clause-once c = is_played_once

pub returns-clause-legal : goal.returns-clause-legal
returns-clause-legal c = are_legal
