use Rattle.std.proofs.Common.{◌∙◌, arith, ap}
use Rattle.std.proofs.lemmas.Result.{err_from_is_err_and}
use Rattle.mdns_play.specs.Scripts.{lines_of}
use Rattle.mdns_play.proofs.Taking.{no_lines}
use Rattle.mdns_play.proofs.Running.{ran_next, ran_whole, ran_stops, ran_breaks}
use Rattle.mdns_play.proofs.script.run_lines.Goals as goal

pub lines-preserved : goal.lines-preserved
lines-preserved g c = record {
  ran = ran_next c.args.script.now c.lines.rest.now c.in-Some.line.now c.in-Some.after.now c.lines.number c.lines.hub c.run_numbered.new.hub
      (g.K.Sink.held c.args.output.now) (g.K.Sink.held c.lines.output) (g.K.Sink.held c.run_numbered.new.output) c.lines.invariant.ran c.in-Some.ensures c.in_ok-run_numbered.ensures.ran;
  small = omega (arith, c.in-Some.ensures.shorter);
  quiet = c.in_ok-run_numbered.ensures.quiet (λ e. cc) ∙ c.lines.invariant.quiet;
}

pub returns-clause-done : goal.returns-clause-done
returns-clause-done g c =
    ran_whole c.args.script.now c.lines.rest.now c.lines.number c.lines.hub (g.K.Sink.held c.args.output.now) (g.K.Sink.held c.lines.output)
    c.items_replay.ensures.replayed c.items_replay.ensures.queued c.good_calls_succeed.ensures c.assertions_are_earned.ensures
    c.registrations_have_groups.ensures c.groups_are_few.ensures c.lines.invariant.ran
    (ap lines_of c.in_default.ensures ∙ no_lines)

pub returns-in_err-run_numbered-clause-bad : goal.returns-in_err-run_numbered-clause-bad
returns-in_err-run_numbered-clause-bad g c = let p = err_from_is_err_and c.from_residual.result c.from_residual.ensures.1 in rw (p.1, p.2) (λ stop.
    ran_stops c.args.script.now c.lines.rest.now c.in-Some.line.now c.in-Some.after.now c.lines.number c.lines.hub
    (g.K.Sink.held c.args.output.now) (g.K.Sink.held c.lines.output) (g.K.Sink.held c.run_numbered.new.output) c.lines.invariant.ran c.in-Some.ensures (c.in_err-run_numbered.ensures.bad stop))

pub returns-in_err-run_numbered-clause-broken : goal.returns-in_err-run_numbered-clause-broken
returns-in_err-run_numbered-clause-broken g c = let p = err_from_is_err_and c.from_residual.result c.from_residual.ensures.1 in rw (p.1, p.2) (λ fault.
    ran_breaks c.args.script.now c.lines.rest.now c.in-Some.line.now c.in-Some.after.now c.lines.number c.lines.hub
    (g.K.Sink.held c.args.output.now) (g.K.Sink.held c.lines.output) (g.K.Sink.held c.run_numbered.new.output) c.lines.invariant.ran c.in-Some.ensures (c.in_err-run_numbered.ensures.broken fault))
