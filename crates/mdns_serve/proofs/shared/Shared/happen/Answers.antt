use Rattle.std.proofs.Common.{◌∙◌, sym, subst, ◌∷◌}
use Rattle.mdns_core.specs.State.{State, Stands}
use Rattle.mdns_serve.proofs.Turning as turning
use Rattle.mdns_serve.proofs.shared.Shared.happen.Goals as goal

pub returns-in-Ok-clause-stands : goal.returns-in-Ok-clause-stands
returns-in-Ok-clause-stands c past stands = turning.entered past c.args.self.now c.settle.new.self c.in-Ok.entry stands
    (λ history h. let next = c.in-Ok.ensures.fits history h in (next.0, subst (λ (state : State). Stands state (c.in-Ok.entry ∷ history)) (sym c.settle.ensures.daemon) next.1))
    c.settle.ensures.missed

pub returns-in-Err-clause-stands : goal.returns-in-Err-clause-stands
returns-in-Err-clause-stands c past stands = turning.missed past c.args.self.now c.miss.new.self c.detaching-detaching.result stands
    (c.miss.ensures.daemon ∙ c.in-Err.ensures.err)
    (λ history h. c.miss.ensures.missed history (subst (λ (state : State). Stands state history) (sym c.in-Err.ensures.err) h))
