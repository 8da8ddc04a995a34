use Rattle.std.proofs.Common.{[], ◌∷◌, ◌∙◌, refl, subst}
use Rattle.mdns_history.specs.declared.entry.Entry.{Entry}
use Rattle.mdns_history.specs.Fitting.{boot_entry}
use Rattle.mdns_core.specs.State.{Stands}
use Rattle.mdns_serve.proofs.shared.Shared.boot.Goals as goal

pub returns : goal.returns
returns c =
    let booted : Stands c.in_ok-daemon.daemon (boot_entry c.args.when.moment c.args.when.word c.args.config ∷ []) =
    subst (λ (e : Entry). Stands c.in_ok-daemon.daemon (e ∷ [])) c.in_ok-daemon.ensures.entry c.in_ok-daemon.ensures.stands in
    record { legal = (refl, booted.legal); stands = booted; missed = c.reserve.ensures.items ∙ c.new-missed.ensures.items }
