use Rattle.std.proofs.Common.{refl}
use Rattle.mdns_server.proofs.Counting.{faults_none}
use Rattle.mdns_server.proofs.Opened.{opens_not}
use Rattle.mdns_server.proofs.accepting.accept_started.Goals as goal

pub returns-else-started-clause-opens : goal.returns-else-started-clause-opens
returns-else-started-clause-opens g c = opens_not _ _ _ _ refl

pub returns-else-started-clause-place : goal.returns-else-started-clause-place
returns-else-started-clause-place g c = faults_none _
