use Rattle.std.proofs.Common.{[], ◌∷◌}
use Rattle.mdns_turn.proofs.turn.Turn.turn_at.Given as goal

abbrev pub ghosts-serve : goal.ghosts-serve
ghosts-serve g a = record { turns = g.W.Work.turn a._work.now.value a._before.now.value a._reply.now a._after.now.value ∷ [] }
