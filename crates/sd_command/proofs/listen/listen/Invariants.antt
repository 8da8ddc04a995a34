-- what was heard and printed so far
use Rattle.std.proofs.Common.{◌≡◌, ◌≤◌}
use Rattle.sd_command.proofs.Listening.{HasHeard}
use Rattle.sd_command.proofs.listen.listen.Given as goal

abbrev pub invariant-items : goal.invariant-items
invariant-items g l = record {
  heard : HasHeard l.count l.initial.client l.client (g.K.Sink.held l.initial.output) (g.K.Sink.held l.output) l.lines l.counter;
  few : l.lines ≤ l.counter;
  output : g.K.Sink.faults l.output ≡ g.K.Sink.faults l.initial.output;
}
