use Rattle.std.proofs.Common.{ap, ◌∙◌, sym}
use Rattle.std.proofs.lemmas.Result.{IfOk-weaker}
use Rattle.mdns_history.specs.InForce.{Duties}
use Rattle.mdns_history.specs.Sending.{tick_sends}
use Rattle.plain_sending.specs.Ticked as sending
use Rattle.plain_legal.proofs.SentBy.{ticks, goodbyes}
use Rattle.plain_legal.proofs.sends.event_sends.Goals as goal

pub returns-then-is_tick : goal.returns-then-is_tick
returns-then-is_tick c =
    IfOk-weaker c.tick_sends.result _ _
    (λ sent e.
    e ∙ ap (λ (d : Duties). sending.of_last (tick_sends d) c.args.history.now) c.all_duties.ensures
    ∙ ticks c.args.history.now c.in-Some.field-0-1.now c.in-Some.entry.now c.entry.result.now c.in-Some.ensures.cases.0 c.entry.ensures (sym c.is_tick.ensures ∙ c.if-is_tick.true))
    c.tick_sends.ensures

pub returns-else-is_tick : goal.returns-else-is_tick
returns-else-is_tick c =
    IfOk-weaker c.sent_goodbyes.result _ _
    (λ sent e.
    e ∙ goodbyes c.args.history.now c.in-Some.field-0-1.now c.in-Some.entry.now c.entry.result.now c.in-Some.ensures.cases.0 c.entry.ensures (sym c.is_tick.ensures ∙ c.if-is_tick.false))
    c.sent_goodbyes.ensures
