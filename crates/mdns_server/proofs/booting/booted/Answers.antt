use Rattle.std.proofs.Common.{◌≡◌, ◌∙◌, [], ◌∷◌, None, Some, subst}
use Rattle.std.specs.Prelude.{◌^◌, min}
use Rattle.mdns_history.specs.declared.entry.Entry.{Entry}
use Rattle.mdns_history.specs.Fitting.{boot_entry}
use Rattle.mdns_serve.specs.Shares.{StandsFor}
use Rattle.mdns_serve.specs.declared.happening.Happening.TheVariants.{Entered}
use Rattle.mdns_server.specs.Booting.{Boots, config_with}
use Rattle.mdns_server.proofs.booting.booted.Goals as goal

pub returns-clause-boots : goal.returns-clause-boots
returns-clause-boots c =
    let config = config_with c.args.host c.args.address in
    let moment = min c.args.boot.now (2 ^ 53) in
    let entry : boot_entry c.new-when.result.moment c.new-when.result.word (record { address = c.args.address; host = Some (record { label = c.into_label.result; v6 = None }) }) ≡ boot_entry moment c.args.boot.word config =
    λ i. boot_entry ((c.new-when.ensures.moment ∙ c.at_most_last.ensures) i) (c.new-when.ensures.word i) (record { address = c.args.address; host = Some (record { label = c.into_label.ensures.value i; v6 = None }) }) in
    let stands : Boots config moment c.args.boot.word c.in_ok-shared.shared =
    subst (λ (e : Entry). StandsFor (Entered e ∷ []) c.in_ok-shared.shared) entry c.in_ok-shared.ensures in
    rw (c.in_ok-turn.ensures.turn) stands
