use Rattle.mdns_generator.specs.Generated.{command_of}
use Rattle.mdns_generator.proofs.Counting.{one_put}
use Rattle.mdns_generator.proofs.commands.put_all.Goals as goal

pub loop-number-preserved : goal.loop-number-preserved
loop-number-preserved c =
    one_put (command_of c.args.kind) c.loop-number.number _ c.loop-number.out.items c.push.new.self.items _ c.in_ok-command.field-0 c.loop-number-test.true c.in_ok-command.ensures c.in_ok-push.ensures.items c.loop-number.invariant
