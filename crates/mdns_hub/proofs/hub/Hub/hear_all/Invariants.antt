use Rattle.std.proofs.Common.{◌≡◌, ◌≤◌}
use Rattle.mdns_hub.specs.Order.{early_count}
use Rattle.mdns_hub.specs.Plays.{AreSomeDone}
use Rattle.mdns_hub.specs.Hubs.{Advances}
use Rattle.mdns_hub.specs.Running.{ComesFrom}
use Rattle.mdns_hub.proofs.hub.Hub.hear_all.Given as goal

abbrev pub invariant-packets : goal.invariant-packets
invariant-packets g l = record {
  clock : l.self.clock ≤ l.moment;
  ran : Advances (AreSomeDone l.moment) l.fn.self l.self (g.K.Sink.held l.fn.output) (g.K.Sink.held l.output);
  first : ComesFrom l.moment l.self;
  quiet : g.K.Sink.faults l.output ≡ g.K.Sink.faults l.fn.output;
}

-- Each packet that is heard is one fewer of those that are early; what it leads to is later.
abbrev pub decreases-packets : goal.decreases-packets
decreases-packets g l = early_count l.moment l.self.link.under_way.items
