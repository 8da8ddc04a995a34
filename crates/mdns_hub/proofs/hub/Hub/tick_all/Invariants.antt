use Rattle.std.proofs.Common.{◌≡◌, ◌+◌, ◌≤◌}
use Rattle.mdns_hub.specs.Slots.{is_kept, AreOver}
use Rattle.mdns_hub.specs.Order.{AreFit}
use Rattle.mdns_hub.specs.Plays.{AreSomeDone}
use Rattle.mdns_hub.specs.Hubs.{Advances}
use Rattle.mdns_hub.specs.Running.{ComesFrom}
use Rattle.mdns_hub.proofs.hub.Hub.tick_all.Given as goal

abbrev pub invariant-loop-number : goal.invariant-loop-number
invariant-loop-number g l = record {
  clock : l.self.clock ≤ l.moment;
  ran : Advances (AreSomeDone l.moment) l.fn.self l.self (g.K.Sink.held l.fn.output) (g.K.Sink.held l.output);
  first : ComesFrom l.moment l.self;
  heard : AreFit (l.moment + 1) (is_kept l.self.daemons.slots.items) l.self.link.under_way.items;
  lower : AreOver l.number l.moment l.self.daemons.slots.items;
  quiet : g.K.Sink.faults l.output ≡ g.K.Sink.faults l.fn.output;
}
