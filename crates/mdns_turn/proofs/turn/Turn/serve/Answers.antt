use Rattle.std.proofs.Common.{rules}
use Rattle.mdns_turn.proofs.TurnSteps.{serve_keeps}
use Rattle.mdns_turn.proofs.turn.Turn.serve.Goals as goal

pub fetch_add-requires : goal.fetch_add-requires
fetch_add-requires g c = let r = c.requires in (search rules, search rules, serve_keeps _ _ _ _ _ r.inside.0 _ _ c.args.self.now.opening _ _ r.holds r.adds r.inside.1 r.named r.opening r.stands)
