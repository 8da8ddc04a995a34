use Rattle.std.proofs.Common.{rules}
use Rattle.mdns_server.proofs.Counting.{faults_none}
use Rattle.mdns_server.proofs.closing.return_ear.Goals as goal

pub returns-in-None : goal.returns-in-None
returns-in-None g c = record {
  place = faults_none _;
  link = search rules;
  quiet = search rules;
  ear = search rules;
  status = search rules;
}
