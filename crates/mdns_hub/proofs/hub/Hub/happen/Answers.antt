use Rattle.std.proofs.Common.{◌+◌, refl, arith}
use Rattle.mdns_hub.specs.Slots.{is_kept}
use Rattle.mdns_hub.proofs.Fitness.{fit_kept}
use Rattle.mdns_hub.proofs.Slotted.{kept_step}
use Rattle.mdns_hub.proofs.Written.{on_err_from}
use Rattle.mdns_hub.proofs.Happening.{breaks_at_once, happen_done, happen_broke}
use Rattle.mdns_hub.specs.Running.{HappensAt}
use Rattle.mdns_hub.proofs.hub.Hub.happen.Goals as goal

pub returns-in_err-entry-clause-part : goal.returns-in_err-entry-clause-part
returns-in_err-entry-clause-part g c = on_err_from c.from_residual.result
    (breaks_at_once (HappensAt c.args.number c.args.event c.args.moment) c.args.self.now (g.K.Sink.held c.args.output.now) (g.K.Sink.held c.args.output.now) refl)

pub returns-in_err-follow-clause-part : goal.returns-in_err-follow-clause-part
returns-in_err-follow-clause-part g c = on_err_from c.from_residual-in_err-follow.result
    (happen_broke c.args.number c.args.moment c.take-word.result c.args.event c.in_ok-entry.entry c.args.self.now c.step.new.self.slots.items (g.K.Sink.held c.args.output.now)
    (g.K.Sink.held c.follow.new.output) c.in_ok-entry.ensures.done c.requires.no_boot c.take-word.ensures.word c.in_err-follow.ensures.part)

pub returns-clause-done : goal.returns-clause-done
returns-clause-done g c =
    happen_done c.args.number c.args.moment c.take-word.result c.args.event c.in_ok-entry.entry c.args.self.now _ c.follow.new.self (g.K.Sink.held c.args.output.now) (g.K.Sink.held c.follow.new.output)
    c.in_ok-entry.ensures.done c.requires.no_boot c.take-word.ensures.word c.take-word.ensures.after refl refl c.in_ok-follow.ensures.done

pub returns-clause-fit : goal.returns-clause-fit
returns-clause-fit g c = λ h. c.in_ok-follow.ensures.done.fit (c.args.moment + 1) (omega arith)
    (fit_kept (c.args.moment + 1) (is_kept c.args.self.now.daemons.slots.items) (is_kept c.step.new.self.slots.items)
    (kept_step c.args.number c.args.moment c.take-word.result c.args.event c.args.self.now.daemons.slots.items c.step.new.self.slots.items c.in_ok-entry.entry c.in_ok-entry.ensures.done)
    c.args.self.now.link.under_way.items h)
