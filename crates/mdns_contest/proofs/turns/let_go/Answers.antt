use Rattle.std.proofs.Common.{rules, not, ◌==◌}
use Rattle.std.proofs.lemmas.Fn.{filter_same}
use Rattle.mdns_history.specs.Claims.{Holding}
use Rattle.mdns_contest.proofs.turns.let_go.Goals as goal

pub returns : goal.returns
returns c = filter_same _ (λ (holding : Holding). not (holding.id == c.args.id)) _ (λ x b f k. search rules) _ _ c.retain.ensures.filtered
