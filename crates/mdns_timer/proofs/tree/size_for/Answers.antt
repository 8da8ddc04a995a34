use Rattle.std.proofs.Common.{◌≡◌, zero, suc, refl, arith}
use Rattle.mdns_timer.specs.Tree.{width}
use Rattle.mdns_timer.proofs.tree.size_for.Goals as goal

pub loop-size-init : goal.loop-size-init
loop-size-init c = record { some = omega arith; small = omega arith; width = (zero, refl) }

pub loop-size-preserved : goal.loop-size-preserved
loop-size-preserved c =
    let is : c.loop-size.size ≡ width c.loop-size.invariant.width.0 = c.loop-size.invariant.width.1 in
    record {
      some = omega arith;
      small = omega arith;
      width = (suc c.loop-size.invariant.width.0, omega (arith, is));
    }
