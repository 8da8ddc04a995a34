use Rattle.std.proofs.Common.{◌<◌, Some, length, arith}
use Rattle.mdns_hub.proofs.Slotted.{set_slot}
use Rattle.mdns_hub.proofs.slots.put.Goals as goal

pub returns-clause-done : goal.returns-clause-done
returns-clause-done g c = λ other.
    let within : c.args.place < length c.make_place.new.slots.items = omega (arith, c.in_ok-make_place.ensures.made, c.make_place.new.slots.ok.0) in
    set_slot c.make_place.new.slots.items c.args.slots.now.items c.args.place other (Some c.args.value) within c.in_ok-make_place.ensures.same
