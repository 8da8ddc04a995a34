use Rattle.std.proofs.lemmas.Result.{err_from_is_err_and}
use Rattle.std.proofs.Common.{◌≡◌, ◌∙◌, ◌≤◌, ℕ, true, List, Option, ap, refl, subst, arith}
use Rattle.std.specs.Option.{is_some}
use Rattle.mdns_hub.specs.declared.daemons.Booted.{Booted}
use Rattle.mdns_hub.specs.Slots.{is_kept}
use Rattle.mdns_hub.proofs.Slotted.{done_or_not, behind_boot, behind_same, kept_boot}
use Rattle.mdns_hub.proofs.Fitness.{fit_kept}
use Rattle.mdns_hub.proofs.Written.{on_err_from}
use Rattle.mdns_hub.proofs.Happening.{breaks_at_once, boot_done, boot_broke}
use Rattle.mdns_hub.specs.Plays.{Boots}
use Rattle.mdns_hub.proofs.hub.Hub.boot.Goals as goal

pub returns-in_err-daemon-clause-part : goal.returns-in_err-daemon-clause-part
returns-in_err-daemon-clause-part g c = on_err_from c.from_residual.result
    (breaks_at_once (Boots c.args.number c.args.config) c.args.self.now (g.K.Sink.held c.args.output.now) (g.K.Sink.held c.args.output.now) refl)

pub invariant_of-self-2-clause-behind : goal.invariant_of-self-2-clause-behind
invariant_of-self-2-clause-behind g c =
    let daemon : Booted = record { address = c.args.config.address; daemon = c.in_ok-daemon.daemon; tally = c.new-tally.result } in
    done_or_not c.boot.result c.boot.ensures.done c.boot.ensures.err
    (λ put. behind_boot c.args.number c.args.self.now.clock c.args.self.now.daemons.slots.items c.boot.new.self.slots.items daemon put (omega (arith, c.in_ok-daemon.ensures.last)) c.args.self.now.behind)
    (λ same. behind_same c.args.self.now.clock c.args.self.now.daemons.slots.items c.boot.new.self.slots.items same c.args.self.now.behind)

pub invariant_of-self-2-clause-fit : goal.invariant_of-self-2-clause-fit
invariant_of-self-2-clause-fit g c =
    let daemon : Booted = record { address = c.args.config.address; daemon = c.in_ok-daemon.daemon; tally = c.new-tally.result } in
    let slots : List (Option Booted) = c.args.self.now.daemons.slots.items in
    let more : (other : ℕ) → is_kept slots other ≡ true → is_kept c.boot.new.self.slots.items other ≡ true = done_or_not c.boot.result c.boot.ensures.done c.boot.ensures.err
    (λ put. kept_boot c.args.number slots c.boot.new.self.slots.items daemon put)
    (λ same other h. ap is_some (same other) ∙ h) in
    fit_kept c.args.self.now.clock (is_kept slots) (is_kept c.boot.new.self.slots.items) more c.args.self.now.link.under_way.items c.args.self.now.fit

pub returns-in_err-boot-clause-part : goal.returns-in_err-boot-clause-part
returns-in_err-boot-clause-part g c = on_err_from c.from_residual-in_err-boot.result
    (breaks_at_once (Boots c.args.number c.args.config) c.args.self.now (g.K.Sink.held c.args.output.now) (g.K.Sink.held c.args.output.now) refl)

pub returns-in_err-put_entry-clause-part : goal.returns-in_err-put_entry-clause-part
returns-in_err-put_entry-clause-part g c = on_err_from c.from_residual-in_err-put_entry.result
    (boot_broke c.args.number c.take-word.result c.args.config c.in_ok-daemon.entry c.args.self.now (g.K.Sink.held c.args.output.now) (g.K.Sink.held c.put_entry.new.output) (subst (λ (n : ℕ). n ≤ 9007199254740992) c.ms-now.ensures.value c.ms-now.ensures.bound) c.requires.free
    c.take-word.ensures.word c.in_ok-daemon.ensures.entry c.in_err-put_entry.ensures.part)

pub returns-in_err-put_entry-clause-cause : goal.returns-in_err-put_entry-clause-cause
returns-in_err-put_entry-clause-cause g c =
    let p = err_from_is_err_and c.from_residual-in_err-put_entry.result c.from_residual-in_err-put_entry.ensures.1 in
    rw (p.1, p.2) c.in_err-put_entry.ensures.cause

pub returns-clause-done : goal.returns-clause-done
returns-clause-done g c =
    boot_done c.args.number c.take-word.result c.args.config c.in_ok-daemon.entry c.args.self.now _ (record { address = c.args.config.address; daemon = c.in_ok-daemon.daemon; tally = c.new-tally.result })
    (g.K.Sink.held c.args.output.now) (g.K.Sink.held c.put_entry.new.output) (subst (λ (n : ℕ). n ≤ 9007199254740992) c.ms-now.ensures.value c.ms-now.ensures.bound) c.requires.free c.take-word.ensures.word c.in_ok-boot.ensures.done refl c.new-tally.ensures c.in_ok-daemon.ensures.entry
    c.in_ok-daemon.ensures.stands refl c.take-word.ensures.after refl c.in_ok-put_entry.ensures.text
