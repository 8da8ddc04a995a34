use Rattle.std.proofs.Common.{length, arith, ap}
use Rattle.dns_name.proofs.Wire.{name_count, name_short}
use Rattle.dns_name.proofs.name.Name.count.Goals as goal

pub loop-labels-init : goal.loop-labels-init
loop-labels-init c = record {
  counted = omega (arith, ap length c.labels-labels.ensures.value);
  few = omega (arith, name_count c.args.self.now, name_short c.args.self.now c.labels-labels.ensures.name);
}
