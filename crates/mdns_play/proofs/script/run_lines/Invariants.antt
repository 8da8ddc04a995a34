use Rattle.std.proofs.Common.{◌≡◌, ◌+◌, ◌≤◌, length}
use Rattle.mdns_play.proofs.Running.{Ran}
use Rattle.mdns_play.proofs.script.run_lines.Given as goal

abbrev pub invariant-lines : goal.invariant-lines
invariant-lines g l = record {
  ran : Ran l.script l.rest l.number l.hub (g.K.Sink.held l.fn.output) (g.K.Sink.held l.output);
  small : l.number + length l.rest ≤ length l.script + 1;
  quiet : g.K.Sink.faults l.output ≡ g.K.Sink.faults l.fn.output;
}

abbrev pub decreases-lines : goal.decreases-lines
decreases-lines g l = length l.rest
