use Rattle.std.proofs.Common.{◌≡◌, ◌∙◌, ℕ, true, List, IfOk, refl, ap, subst}
use Rattle.dns_record.specs.declared.record.Rr.{Rr}
use Rattle.mdns_history.specs.declared.held.Held.{Held}
use Rattle.mdns_history.specs.Announcing.{same_records}
use Rattle.mdns_happened.specs.Told.{Told, told_by}
use Rattle.mdns_happened.specs.Walks.{own_of}
use Rattle.std.specs.List.{list_all}
use Rattle.mdns_records.specs.After.{held_after, AreTouched, is_of_event}
use Rattle.mdns_question.specs.declared.tracked.Tracked.{Tracked}
use Rattle.mdns_asking.specs.Walked as for_asking
use Rattle.mdns_probe.specs.Kept.{Kept}
use Rattle.mdns_claims.specs.State.{Contents}
use Rattle.mdns_claims.specs.Later.{groups_behind}
use Rattle.mdns_claims.specs.Owned.{own_in}
use Rattle.sd_sessions.specs.Sessions.{Session}
use Rattle.sd_sessions.specs.Walked as for_sessions
use Rattle.mdns_core.specs.Enough.{AreEnough, claims_told}
use Rattle.mdns_core.proofs.records.HeardPackets.{ok_with}
use Rattle.mdns_core.proofs.records.Walked.{among-none, kept-unmoved, then-kept, enough-owned}
use Rattle.mdns_core.proofs.records.Looked.{few-none, few-walked}
use Rattle.mdns_core.proofs.plan.walk.Goals as goal

pub returns-clause-enough : goal.returns-clause-enough
returns-clause-enough g c =
    let told : Told = told_by c.args.reading.now.happened in
    let now : ℕ = c.args.when.moment in
    let word : ℕ = c.args.when.word in
    let held : List Held = c.args.kept.now.parts.now.records.held in
    let questions : List Tracked = c.args.kept.now.parts.now.asking.questions in
    let sessions : List Session = c.args.kept.now.parts.now.sessions.sessions in
    let contents : Contents = c.args.kept.now.parts.now.claims.contents in
    let touched : List (List (List ℕ)) = c.put_moved_names.new.names.items in
    let named : List (List (List ℕ)) = c.put_names-2.new.names.items in
    let all : AreTouched now c.as_slice-heard.result.now held c.in_ok-touched.touched.items =
    subst (λ (m : ℕ). AreTouched m c.as_slice-heard.result.now held c.in_ok-touched.touched.items) c.at.ensures c.in_ok-touched.ensures.all in
    subst (λ (rrs : List Rr). IfOk c.with_own.result (λ walks. AreEnough told now held (held_after now word rrs held) (own_in contents.kept) (own_in (claims_told contents told now word).kept) questions sessions walks.items))
    c.as_slice-heard.ensures
    (ok_with c.with_own.result
    (λ owned owned_is.
    enough-owned held (held_after now word c.as_slice-heard.result.now held) contents told now word (groups_behind c.behind-behind.result) touched named c.in_ok-walks.walks.items owned.items
    (c.behind-behind.ensures.told word c.requires.planned) owned_is c.in_ok-walks.ensures.names
    (λ name none. all word name (among-none c.in_ok-touched.touched.items touched c.in_ok-put_moved_names.ensures.kept name none))
    (λ name none. subst (λ (ks : List Kept). same_records (own_of name (own_in ks)) (own_of name (own_in (groups_behind c.behind-behind.result))) ≡ true) c.behind-behind.ensures.before
    (kept-unmoved _ _ (c.in_ok-put_moved_names.ensures.moved name) none))
    c.put_names.new.names.items c.in_ok-put_names-2.ensures.kept questions sessions c.in_ok-walks.ensures.walks
    (subst (λ (names : List (List (List ℕ))). for_asking.AreNamed told now questions names named) c.deref-2.ensures.value c.in_ok-put_names-2.ensures.named)
    (subst (λ (names : List (List (List ℕ))). for_sessions.AreNamed names c.put_names.new.names.items sessions) c.deref.ensures.value c.in_ok-put_names.ensures.asked)
    c.in_ok-put_names.ensures.call)
    c.with_own.ensures)

pub returns-in_err-touched-clause-visits : goal.returns-in_err-touched-clause-visits
returns-in_err-touched-clause-visits g c = few-none _ c.args.kept.now.parts.now.records.held c.args.steps.now c.args.steps.now refl

pub returns-in_err-put_moved_names-clause-visits : goal.returns-in_err-put_moved_names-clause-visits
returns-in_err-put_moved_names-clause-visits g c = few-none _ c.args.kept.now.parts.now.records.held c.args.steps.now c.args.steps.now refl

pub returns-in_err-put_names-clause-visits : goal.returns-in_err-put_names-clause-visits
returns-in_err-put_names-clause-visits g c = few-none _ c.args.kept.now.parts.now.records.held c.args.steps.now c.args.steps.now refl

pub returns-in_err-put_names-2-clause-visits : goal.returns-in_err-put_names-2-clause-visits
returns-in_err-put_names-2-clause-visits g c = few-none _ c.args.kept.now.parts.now.records.held c.args.steps.now c.args.steps.now refl

pub returns-in_err-walks-clause-visits : goal.returns-in_err-walks-clause-visits
returns-in_err-walks-clause-visits g c =
    let told : Told = told_by c.args.reading.now.happened in
    let contents : Contents = c.args.kept.now.parts.now.claims.contents in
    few-walked told c.args.when.moment c.args.reading.now.heard c.as_slice-heard.result.now c.args.kept.now.parts.now.records.held
    (own_in contents.kept) (own_in c.behind-behind.result.groups.now) (own_in (claims_told contents told c.args.when.moment c.args.when.word).kept) (own_in (groups_behind c.behind-behind.result))
    c.args.kept.now.parts.now.asking.questions c.in_ok-touched.touched.items c.put_moved_names.new.names.items c.deref.result.now c.deref-2.result.now c.new-names.result.items
    c.put_names.new.names.items c.put_names-2.new.names.items c.args.steps.now c.walk.new.steps
    c.as_slice-heard.ensures (ap own_in c.behind-behind.ensures.before)
    (ap own_in (c.behind-behind.ensures.told c.args.when.word c.requires.planned ∙ then-kept contents told c.args.when.moment c.args.when.word))
    c.deref.ensures.value c.deref-2.ensures.value c.new-names.ensures.items
    (subst (λ (m : ℕ). list_all (is_of_event m c.as_slice-heard.result.now c.args.kept.now.parts.now.records.held) c.in_ok-touched.touched.items ≡ true) c.at.ensures c.in_ok-touched.ensures.only)
    c.in_ok-put_moved_names.ensures.only c.in_ok-put_names.ensures.only c.in_ok-put_names.ensures.once
    c.in_ok-put_names-2.ensures.only c.in_ok-put_names-2.ensures.once c.walk.ensures.most

pub returns-clause-visits : goal.returns-clause-visits
returns-clause-visits g c =
    let told : Told = told_by c.args.reading.now.happened in
    let contents : Contents = c.args.kept.now.parts.now.claims.contents in
    few-walked told c.args.when.moment c.args.reading.now.heard c.as_slice-heard.result.now c.args.kept.now.parts.now.records.held
    (own_in contents.kept) (own_in c.behind-behind.result.groups.now) (own_in (claims_told contents told c.args.when.moment c.args.when.word).kept) (own_in (groups_behind c.behind-behind.result))
    c.args.kept.now.parts.now.asking.questions c.in_ok-touched.touched.items c.put_moved_names.new.names.items c.deref.result.now c.deref-2.result.now c.new-names.result.items
    c.put_names.new.names.items c.put_names-2.new.names.items c.args.steps.now c.walk.new.steps
    c.as_slice-heard.ensures (ap own_in c.behind-behind.ensures.before)
    (ap own_in (c.behind-behind.ensures.told c.args.when.word c.requires.planned ∙ then-kept contents told c.args.when.moment c.args.when.word))
    c.deref.ensures.value c.deref-2.ensures.value c.new-names.ensures.items
    (subst (λ (m : ℕ). list_all (is_of_event m c.as_slice-heard.result.now c.args.kept.now.parts.now.records.held) c.in_ok-touched.touched.items ≡ true) c.at.ensures c.in_ok-touched.ensures.only)
    c.in_ok-put_moved_names.ensures.only c.in_ok-put_names.ensures.only c.in_ok-put_names.ensures.once
    c.in_ok-put_names-2.ensures.only c.in_ok-put_names-2.ensures.once c.walk.ensures.most
