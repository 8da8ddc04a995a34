use Rattle.std.proofs.Common.{◌≡◌, ◌∙◌, ap, subst, sym}
use Rattle.mdns_happened.specs.Told.{Told, told_by}
use Rattle.sd_sessions.specs.Answered.{answered}
use Rattle.sd_sessions.specs.declared.change.SessionChange.{SessionChange}
use Rattle.sd_sessions.specs.Changes.{passes}
use Rattle.sd_sessions.specs.Settling.{brought_told, change_told}
use Rattle.sd_sessions.specs.Kept.{session_of, queued, IsWellFormedOwn}
use Rattle.sd_sessions.specs.Concerned.{IsOwnCovered}
use Rattle.sd_sessions.proofs.Formed.{formed-own}
use Rattle.sd_sessions.proofs.by_names.change_by_names.Goals as goal

pub bring_by_names-requires-clause-call : goal.bring_by_names-requires-clause-call
bring_by_names-requires-clause-call c = subst IsWellFormedOwn (sym c.in_ok-call.ensures) (formed-own (told_by c.args.happened.now).call c.args.session.now.number c.requires.call)

pub bring_by_names-requires-clause-called : goal.bring_by_names-requires-clause-called
bring_by_names-requires-clause-called c = subst (IsOwnCovered c.args.looked.now.numbers.now) (sym c.in_ok-call.ensures) c.requires.called

pub returns : goal.returns
returns c = λ earlier later seen.
    let told : Told = told_by c.args.happened.now in
    let brought : c.in_ok-brought.brought ≡ brought_told told (answered earlier) (answered later) (session_of c.args.session.now) = c.in_ok-brought.ensures earlier later seen c.in_ok-call.ensures in
    let items : c.as_slice.result.now ≡ brought_told told (answered earlier) (answered later) (session_of c.args.session.now) = c.as_slice.ensures ∙ brought in
    let cuts : c.passes-cuts.result ≡ passes (queued c.args.session.now.outbox.items) (brought_told told (answered earlier) (answered later) (session_of c.args.session.now)) =
    c.passes-cuts.ensures ∙ ap (passes (queued c.args.session.now.outbox.items)) items in
    let made : SessionChange = record { session = c.args.session.now.number; call = c.in_ok-call.call; brought = c.in_ok-brought.brought; cuts = c.passes-cuts.result } in
    let same : made ≡ change_told told (answered earlier) (answered later) (session_of c.args.session.now) =
    (λ i. record { session = c.args.session.now.number; call = c.in_ok-call.ensures i; brought = brought i; cuts = cuts i }) in
    same
