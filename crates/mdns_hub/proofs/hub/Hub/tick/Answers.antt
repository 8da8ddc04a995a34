use Rattle.std.proofs.Common.{◌∙◌, sym}
use Rattle.std.proofs.lemmas.Result.{on_ok_weaker, on_err_weaker}
use Rattle.mdns_hub.specs.Slots.{due_at}
use Rattle.mdns_hub.proofs.Runs.{over_due, tick_advances, tick_breaks}
use Rattle.mdns_hub.proofs.hub.Hub.tick.Goals as goal

pub returns-clause-done : goal.returns-clause-done
returns-clause-done g c =
    let over = over_due c.args.moment (due_at c.args.self.now.daemons.slots.items c.args.number) (sym c.is_due.ensures ∙ c.if-not-is_due.false) in
    on_ok_weaker c.happen.result
    (tick_advances c.steps_follow_the_history.ensures.due c.args.number c.args.moment over.0 c.args.self.now c.happen.new.self (g.K.Sink.held c.args.output.now) (g.K.Sink.held c.happen.new.output)
    over.1 over.2 c.requires.later c.requires.first c.requires.heard c.requires.lower)
    c.happen.ensures.done

pub returns-clause-part : goal.returns-clause-part
returns-clause-part g c =
    let over = over_due c.args.moment (due_at c.args.self.now.daemons.slots.items c.args.number) (sym c.is_due.ensures ∙ c.if-not-is_due.false) in
    on_err_weaker c.happen.result
    (tick_breaks c.steps_follow_the_history.ensures.due c.args.number c.args.moment over.0 c.args.self.now (g.K.Sink.held c.args.output.now) (g.K.Sink.held c.happen.new.output)
    over.1 over.2 c.requires.later c.requires.first c.requires.heard c.requires.lower)
    c.happen.ensures.part
