use Rattle.std.proofs.Common.{◌≡◌, ◌∙◌, ℕ, List, ◌∷◌, refl, ap, subst, arith}
use Rattle.mdns_hub.specs.declared.delivery.Delivery.{Delivery}
use Rattle.mdns_hub.specs.Kept.{link_of}
use Rattle.mdns_hub.specs.Slots.{is_kept}
use Rattle.mdns_hub.specs.Order.{AreFit}
use Rattle.mdns_hub.proofs.Written.{on_err_from}
use Rattle.mdns_hub.proofs.Fitness.{fit_taken}
use Rattle.mdns_hub.proofs.Runs.{advances_then, advances_same, breaks_then, hear_advances, hear_breaks}
use Rattle.mdns_hub.proofs.hub.Hub.hear_all.Goals as goal

pub invariant_of-self-clause-fit : goal.invariant_of-self-clause-fit
invariant_of-self-clause-fit g c =
    fit_taken c.packets.self.clock c.args.moment (is_kept c.packets.self.daemons.slots.items) c.packets.self.link c.take_by.new.self c.take_by.result c.take_by.ensures.taken c.take_by.ensures.none c.packets.self.fit

pub packets-preserved : goal.packets-preserved
packets-preserved g c =
    let rest : List Delivery = c.take_by.new.self.under_way.items in
    let fit : AreFit c.args.moment (is_kept c.packets.self.daemons.slots.items) (c.in-Some.delivery ∷ rest) =
    subst (AreFit c.args.moment (is_kept c.packets.self.daemons.slots.items)) c.in-Some.ensures.taken.0 c.packets.invariant.first.packets in
    let at : c.in-Some.delivery.moment ≡ c.args.moment = omega (arith, c.in-Some.ensures.taken.1, fit.0.0) in
    let now : c.happen.new.self.clock ≡ c.args.moment = c.in_ok-happen.ensures.clock in
    record {
      clock = omega (arith, now);
      ran = advances_then c.args.moment c.args.self.now c.packets.self c.happen.new.self (g.K.Sink.held c.args.output.now) (g.K.Sink.held c.packets.output) (g.K.Sink.held c.happen.new.output)
          c.packets.invariant.ran
          (hear_advances c.steps_follow_the_history.ensures.due c.args.moment c.in-Some.delivery rest c.packets.self _ c.happen.new.self (g.K.Sink.held c.packets.output)
          (g.K.Sink.held c.happen.new.output) c.in-Some.ensures.taken.0 at c.packets.invariant.first refl refl refl c.in-Some.ensures.others c.in_ok-happen.ensures.done);
      first = record {
        packets = subst (λ (n : ℕ). AreFit n (is_kept c.happen.new.self.daemons.slots.items) c.happen.new.self.link.under_way.items) now c.happen.new.self.fit;
        ticks = λ number due e. omega (arith, now);
      };
      quiet = c.in_ok-happen.ensures.cause.quiet (λ e. cc) ∙ c.packets.invariant.quiet;
    }

pub returns-in_err-happen-clause-part : goal.returns-in_err-happen-clause-part
returns-in_err-happen-clause-part g c =
    let rest : List Delivery = c.take_by.new.self.under_way.items in
    let fit : AreFit c.args.moment (is_kept c.packets.self.daemons.slots.items) (c.in-Some.delivery ∷ rest) =
    subst (AreFit c.args.moment (is_kept c.packets.self.daemons.slots.items)) c.in-Some.ensures.taken.0 c.packets.invariant.first.packets in
    let at : c.in-Some.delivery.moment ≡ c.args.moment = omega (arith, c.in-Some.ensures.taken.1, fit.0.0) in
    on_err_from c.from_residual.result
    (breaks_then c.args.moment c.args.self.now c.packets.self (g.K.Sink.held c.args.output.now) (g.K.Sink.held c.packets.output) (g.K.Sink.held c.happen.new.output) c.packets.invariant.ran
    (hear_breaks c.steps_follow_the_history.ensures.due c.args.moment c.in-Some.delivery rest c.packets.self _ (g.K.Sink.held c.packets.output) (g.K.Sink.held c.happen.new.output)
    c.in-Some.ensures.taken.0 at c.packets.invariant.first refl refl refl c.in-Some.ensures.others c.in_err-happen.ensures.part))

pub returns-clause-done : goal.returns-clause-done
returns-clause-done g c =
    let none = c.take_by.ensures.none c.in_default.is in
    advances_same c.args.moment c.args.self.now c.packets.self _ (g.K.Sink.held c.args.output.now) (g.K.Sink.held c.packets.output) refl refl (ap link_of none.0) refl c.packets.invariant.ran
