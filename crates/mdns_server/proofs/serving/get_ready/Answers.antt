use Rattle.std.proofs.Common.{rules}
use Rattle.mdns_server.proofs.serving.get_ready.Goals as goal

pub returns-in-Ok-put-clause-put : goal.returns-in-Ok-put-clause-put
returns-in-Ok-put-clause-put g c = (8, search rules)
