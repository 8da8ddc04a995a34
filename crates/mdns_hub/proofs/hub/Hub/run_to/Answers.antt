use Rattle.std.proofs.Common.{◌∙◌, ◌+◌, ◌≤◌, ℕ, Option, IfSome, refl, sym, subst, arith}
use Rattle.mdns_hub.specs.Running.{ComesFrom}
use Rattle.mdns_hub.proofs.Written.{on_err_from}
use Rattle.mdns_hub.proofs.Runs.{advances_then, advances_later, breaks_then, breaks_later, run_advances}
use Rattle.mdns_hub.proofs.hub.Hub.run_to.Goals as goal
use Rattle.mdns_hub.proofs.hub.Hub.run_to.Goals.{in-Some+then-moment-ms, in_default}

pub pass-requires-clause-first : goal.pass-requires-clause-first
pass-requires-clause-first g c =
    let from : c.moments.self.clock ≤ c.in-Some.moment = subst (λ (o : Option ℕ). IfSome o (λ first. c.moments.self.clock ≤ first)) c.in-Some.is c.moments.invariant.from in
    let same : c.in-Some.moment ≤ c.in-Some.moment = omega arith in
    subst (λ (m : ℕ). ComesFrom m c.moments.self) (sym c.new.ensures)
    (c.moments.invariant.first c.in-Some.moment from (subst (λ (o : Option ℕ). IfSome o (λ first. c.in-Some.moment ≤ first)) (sym c.in-Some.is) same))

pub returns-in_err-pass-clause-part : goal.returns-in_err-pass-clause-part
returns-in_err-pass-clause-part g c = on_err_from c.from_residual.result
    (breaks_then c.args.until c.args.self.now c.moments.self (g.K.Sink.held c.args.output.now) (g.K.Sink.held c.moments.output) (g.K.Sink.held c.pass.new.output) c.moments.invariant.ran
    (breaks_later c.new.result c.args.until c.moments.self (g.K.Sink.held c.moments.output) (g.K.Sink.held c.pass.new.output) (omega (arith, c.new.ensures, c.if-moment-ms.false, c.ms.ensures.value)) c.in_err-pass.ensures.part))

pub moments-preserved : goal.moments-preserved
moments-preserved g c = record {
  clock = omega (arith, c.in_ok-pass.ensures.clock, c.new.ensures, c.if-moment-ms.false, c.ms.ensures.value);
  ran = advances_then c.args.until c.args.self.now c.moments.self c.pass.new.self (g.K.Sink.held c.args.output.now) (g.K.Sink.held c.moments.output) (g.K.Sink.held c.pass.new.output) c.moments.invariant.ran
      (advances_later c.new.result c.args.until c.moments.self c.pass.new.self (g.K.Sink.held c.moments.output) (g.K.Sink.held c.pass.new.output) (omega (arith, c.new.ensures, c.if-moment-ms.false, c.ms.ensures.value)) c.in_ok-pass.ensures.done);
  from = c.next_moment-next-in-Some.ensures.from;
  first = c.next_moment-next-in-Some.ensures.first;
  quiet = c.in_ok-pass.ensures.cause.quiet (λ e. cc) ∙ c.moments.invariant.quiet;
}

pub returns-clause-done : goal.returns-clause-done
returns-clause-done g c =
    let over : IfSome c.moments.next (λ first. c.args.until + 1 ≤ first) = elim c.match-next.branch [
      | in-Some+then-moment-ms w ↦
          let late : c.args.until + 1 ≤ w.in-Some.moment = omega (arith, w.if-moment-ms.true, w.ms.ensures.value) in
          subst (λ (o : Option ℕ). IfSome o (λ first. c.args.until + 1 ≤ first)) (sym w.in-Some.is) late
      | in_default w ↦ subst (λ (o : Option ℕ). IfSome o (λ first. c.args.until + 1 ≤ first)) (sym w.in_default.is) tt
    ] in
    let from : ComesFrom (c.args.until + 1) c.moments.self = c.moments.invariant.first (c.args.until + 1) (omega (arith, c.moments.invariant.clock)) over in
    run_advances c.steps_follow_the_history.ensures.due c.args.until c.args.self.now c.moments.self _ (g.K.Sink.held c.args.output.now) (g.K.Sink.held c.moments.output) from c.moments.invariant.clock
    refl refl refl refl c.moments.invariant.ran
