use Rattle.std.proofs.Common.{rules}
use Rattle.std.proofs.lemmas.Fn.{filter_same}
use Rattle.mdns_history.specs.Lifetimes.{is_other}
use Rattle.mdns_history.proofs.held.drop_same.Goals as goal

pub returns-clause-items : goal.returns-clause-items
returns-clause-items c = filter_same _ (is_other c.args.rr.now) _ (λ x b f k. search rules) _ _ c.retain.ensures.filtered
