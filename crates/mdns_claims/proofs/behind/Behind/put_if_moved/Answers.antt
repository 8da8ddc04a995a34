use Rattle.std.proofs.Common.{◌∙◌}
use Rattle.mdns_claimants.proofs.Naming.{same_among}
use Rattle.mdns_claims.proofs.behind.Behind.put_if_moved.Goals as goal

pub returns-in_ok-put_once-clause-moved : goal.returns-in_ok-put_once-clause-moved
returns-in_ok-put_once-clause-moved c = λ other e moved. same_among other c.args.name.now e c.put_once.new.names.items ∙ c.in_ok-put_once.ensures.put
