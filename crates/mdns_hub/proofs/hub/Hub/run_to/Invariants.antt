use Rattle.std.proofs.Common.{◌≡◌, ◌+◌, ◌-◌, ◌≤◌, ℕ, IfSome}
use Rattle.std.specs.Option.{option_map_or}
use Rattle.mdns_hub.specs.Plays.{AreSomeDone}
use Rattle.mdns_hub.specs.Hubs.{Advances}
use Rattle.mdns_hub.specs.Running.{ComesFrom}
use Rattle.mdns_hub.proofs.hub.Hub.run_to.Given as goal

abbrev pub invariant-moments : goal.invariant-moments
invariant-moments g l = record {
  clock : l.self.clock ≤ l.until;
  ran : Advances (AreSomeDone l.until) l.fn.self l.self (g.K.Sink.held l.fn.output) (g.K.Sink.held l.output);
  from : IfSome l.next (λ first. l.self.clock ≤ first);
  first : (moment : ℕ) → l.self.clock ≤ moment → IfSome l.next (λ first. moment ≤ first) → ComesFrom moment l.self;
  quiet : g.K.Sink.faults l.output ≡ g.K.Sink.faults l.fn.output;
}

-- Each moment is later than the one before.
abbrev pub decreases-moments : goal.decreases-moments
decreases-moments g l = option_map_or (λ moment. l.until + 1 - moment) l.next 0
