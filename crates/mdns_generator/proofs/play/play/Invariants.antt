use Rattle.std.specs.Vec.Iter.{into_iter_items, into_iter_len}
use Rattle.mdns_generator.proofs.Playing.{Ran}
use Rattle.mdns_generator.proofs.play.play.Given as goal

abbrev pub invariant-commands : goal.invariant-commands
invariant-commands l = Ran l.fn.commands.items (into_iter_items l.rest) l.hub

abbrev pub decreases-commands : goal.decreases-commands
decreases-commands l = into_iter_len l.rest
