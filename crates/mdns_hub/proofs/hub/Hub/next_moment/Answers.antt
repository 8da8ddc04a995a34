use Rattle.std.proofs.Common.{◌<◌, length, arith}
use Rattle.mdns_hub.proofs.Slotted.{due_within}
use Rattle.mdns_hub.proofs.hub.Hub.next_moment.Goals as goal

pub returns-clause-least : goal.returns-clause-least
returns-clause-least c = λ moment from. c.loop-number.invariant.least moment from

pub returns-clause-first : goal.returns-clause-first
returns-clause-first c = λ moment now first. record {
  packets = c.loop-number.invariant.packets moment first;
  ticks = λ number due e.
      let within : number < length c.args.self.now.daemons.slots.items = due_within c.args.self.now.daemons.slots.items number due e in
      c.loop-number.invariant.ticks moment first number due (omega (arith, within, c.args.self.now.daemons.few, c.args.self.now.daemons.slots.ok.0, c.loop-number-test.false)) e;
}
