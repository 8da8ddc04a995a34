use Rattle.std.specs.Vec.Iter.{into_iter_items}
use Rattle.mdns_generator.proofs.Playing.{ran_next}
use Rattle.mdns_generator.proofs.play.play.Goals as goal

pub commands-preserved : goal.commands-preserved
commands-preserved c =
    ran_next c.args.commands.items (into_iter_items c.commands.rest) (into_iter_items c.next.new.self) c.in-Some.command c.commands.hub c.run.new.hub
    c.in-Some.ensures.items c.commands.invariant c.in_ok-run.ensures
