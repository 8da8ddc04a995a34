use Rattle.std.proofs.Common.{◌∙◌, ◌<◌, length, arith}
use Rattle.mdns_hub.proofs.Written.{on_err_from}
use Rattle.mdns_hub.proofs.Slotted.{due_within}
use Rattle.mdns_hub.proofs.Runs.{advances_then, breaks_then}
use Rattle.mdns_hub.proofs.hub.Hub.tick_all.Goals as goal

pub returns-in_err-tick-clause-part : goal.returns-in_err-tick-clause-part
returns-in_err-tick-clause-part g c = on_err_from c.from_residual.result
    (breaks_then c.args.moment c.args.self.now c.loop-number.self (g.K.Sink.held c.args.output.now) (g.K.Sink.held c.loop-number.output) (g.K.Sink.held c.tick.new.output)
    c.loop-number.invariant.ran c.in_err-tick.ensures.part)

pub loop-number-preserved : goal.loop-number-preserved
loop-number-preserved g c = record {
  clock = c.in_ok-tick.ensures.clock;
  ran = advances_then c.args.moment c.args.self.now c.loop-number.self c.tick.new.self (g.K.Sink.held c.args.output.now) (g.K.Sink.held c.loop-number.output) (g.K.Sink.held c.tick.new.output)
      c.loop-number.invariant.ran c.in_ok-tick.ensures.done;
  first = c.in_ok-tick.ensures.first;
  heard = c.in_ok-tick.ensures.heard;
  lower = c.in_ok-tick.ensures.over;
  quiet = c.in_ok-tick.ensures.cause.quiet (λ e. cc) ∙ c.loop-number.invariant.quiet;
}

pub returns-clause-over : goal.returns-clause-over
returns-clause-over g c = record {
  packets = c.loop-number.invariant.heard;
  ticks = λ number due e.
      let within : number < length c.loop-number.self.daemons.slots.items = due_within c.loop-number.self.daemons.slots.items number due e in
      let late : c.args.moment < due = c.loop-number.invariant.lower number due (omega (arith, within, c.loop-number.self.daemons.few, c.loop-number.self.daemons.slots.ok.0, c.loop-number-test.false)) e in
      omega (arith, late);
}
