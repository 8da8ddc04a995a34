use Rattle.std.proofs.Common.{rules, refl}
use Rattle.mdns_server.proofs.Opened.{opens_failed}
use Rattle.mdns_server.proofs.serving.serve.Goals as goal

pub returns-in-Err-clause-opens : goal.returns-in-Err-clause-opens
returns-in-Err-clause-opens g c = opens_failed _ _ _ _ c.in-Err.status refl (search rules)

pub returns-in-Err-get_ready-clause-opens : goal.returns-in-Err-get_ready-clause-opens
returns-in-Err-get_ready-clause-opens g c = opens_failed _ _ _ _ c.in-Err-get_ready.status (search rules) (search rules)
