use Rattle.std.proofs.Common.{◌∙◌, refl, sym}
use Rattle.std.proofs.lemmas.Bool.{false≢true}
use Rattle.std.proofs.lemmas.Result.{on_ok_weaker, on_err_weaker}
use Rattle.mdns_hub.proofs.Goodness.{bad_same, plays_good, part_good, part_bad}
use Rattle.mdns_hub.proofs.hub.Hub.run.Goals as goal

pub returns-then-is_bad-clause-bad : goal.returns-then-is_bad-clause-bad
returns-then-is_bad-clause-bad g c = λ played stands. (
  λ _. sym (bad_same c.args.self.now played c.args.command stands) ∙ sym c.is_bad.ensures ∙ c.if-is_bad.true,
  λ _. refl,
)

pub returns-then-is_bad-clause-part : goal.returns-then-is_bad-clause-part
returns-then-is_bad-clause-part g c = part_bad c.args.self.now c.args.command (g.K.Sink.held c.args.output.now)

pub returns-else-is_bad-clause-done : goal.returns-else-is_bad-clause-done
returns-else-is_bad-clause-done g c = on_ok_weaker c.play.result
    (plays_good c.args.self.now c.play.new.self c.args.command (g.K.Sink.held c.args.output.now) (g.K.Sink.held c.play.new.output) (sym c.is_bad.ensures ∙ c.if-is_bad.false)) c.play.ensures.done

pub returns-else-is_bad-clause-bad : goal.returns-else-is_bad-clause-bad
returns-else-is_bad-clause-bad g c = λ played stands. (
  λ failed. absurd (c.play.ensures.good failed),
  λ bad. absurd (false≢true (sym c.if-is_bad.false ∙ c.is_bad.ensures ∙ bad_same c.args.self.now played c.args.command stands ∙ bad)),
)

pub returns-else-is_bad-clause-part : goal.returns-else-is_bad-clause-part
returns-else-is_bad-clause-part g c = on_err_weaker c.play.result
    (part_good c.args.self.now c.args.command (g.K.Sink.held c.args.output.now) (g.K.Sink.held c.play.new.output) (sym c.is_bad.ensures ∙ c.if-is_bad.false)) c.play.ensures.part
