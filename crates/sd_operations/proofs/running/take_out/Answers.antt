use Rattle.std.proofs.Common.{not, rules}
use Rattle.std.proofs.lemmas.Fn.{filter_same}
use Rattle.mdns_history.specs.declared.operation.Operation.{Operation}
use Rattle.mdns_history.specs.Sessions.{has_op}
use Rattle.sd_operations.proofs.running.take_out.Goals as goal

pub returns : goal.returns
returns c = filter_same _ (λ (o : Operation). not (has_op c.args.op o)) _ (λ x b f k. search rules) _ _ c.retain.ensures.filtered
