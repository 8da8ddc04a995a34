use Rattle.std.proofs.Common.{◌≡◌, ◌∙◌, ◌++◌, ℕ, true, List, map, ap, subst, sym}
use Rattle.mdns_history.specs.declared.entry.Sent.{Sent}
use Rattle.mdns_history.specs.declared.held.Held.{Held}
use Rattle.mdns_happened.specs.declared.around.Registered.{Registered}
use Rattle.mdns_happened.specs.Registrations.{is_told, AreRegistered}
use Rattle.mdns_happened.specs.Told.{Told, told_by}
use Rattle.mdns_records.specs.After.{held_after}
use Rattle.mdns_records.proofs.Holding.{after-live, after-heard}
use Rattle.mdns_probe.specs.Kept.{Kept}
use Rattle.mdns_claims.specs.State.{Contents}
use Rattle.mdns_reply.specs.Lasts.{Last}
use Rattle.mdns_debts.specs.Queries.{Query}
use Rattle.mdns_responding.specs.Told.{responses_told, announced_told}
use Rattle.mdns_question.specs.Standing.{mark_of}
use Rattle.sd_sessions.specs.Settling.{cuts_of}
use Rattle.mdns_claims.specs.Behind.{occasion_of}
use Rattle.sd_answer.specs.Laws.{have_data}
use Rattle.mdns_claims.proofs.Typed.{own_data}
use Rattle.mdns_claims.specs.Later.{groups_behind}
use Rattle.mdns_claims.specs.Owned.{is_ours, own_in, registered_answers}
use Rattle.sd_sessions.specs.Sessions.{Session}
use Rattle.mdns_core.specs.Viewed.{viewed}
use Rattle.mdns_core.specs.Enough.{claims_told}
use Rattle.mdns_core.proofs.records.Walked.{heard-walked, beside-told, then-kept}
use Rattle.mdns_core.proofs.records.Begun.{begun-told}
use Rattle.mdns_core.proofs.plan.led_to.Goals as goal

pub make_traffic-requires-clause-heard : goal.make_traffic-requires-clause-heard
make_traffic-requires-clause-heard c =
    let held : List Held = c.args.kept.now.parts.now.records.held in
    heard-walked c.args.when.moment held (held_after c.args.when.moment c.args.when.word c.args.reading.now.heard held) c.args.walks.now c.requires.walked.records
    (after-heard c.args.when.moment c.args.when.word c.args.reading.now.heard held c.requires.past)

pub returns : goal.returns
returns c =
    let told : Told = told_by c.args.reading.now.happened in
    let now : ℕ = c.args.when.moment in
    let word : ℕ = c.args.when.word in
    let held : List Held = c.args.kept.now.parts.now.records.held in
    let later : List Held = held_after now word c.args.reading.now.heard held in
    let sessions : List Session = c.args.kept.now.parts.now.sessions.sessions in
    let contents : Contents = c.args.kept.now.parts.now.claims.contents in
    let then : Contents = claims_told contents told now word in
    let lines : List Registered = c.in_ok-registered.registered.items in
    let told_of_lines : c.deref.result.now ≡ lines = c.deref.ensures.value in
    let before_is : c.behind-behind.result.groups.now ≡ contents.kept = c.behind-behind.ensures.before in
    let behind_is : groups_behind c.behind-behind.result ≡ then.kept = c.behind-behind.ensures.told word c.requires.planned ∙ then-kept contents told now word in
    let registered : AreRegistered (λ session op. registered_answers session op contents.kept) (λ session op. registered_answers session op then.kept) c.deref.result.now =
    subst (AreRegistered (λ session op. registered_answers session op contents.kept) (λ session op. registered_answers session op then.kept)) (sym told_of_lines)
    (subst (λ (ks : List Kept). AreRegistered (λ session op. registered_answers session op contents.kept) (λ session op. registered_answers session op ks) lines) behind_is
    (subst (λ (ks : List Kept). AreRegistered (λ session op. registered_answers session op ks) (λ session op. registered_answers session op (groups_behind c.behind-behind.result)) lines) before_is
    c.in_ok-registered.ensures.are)) in
    let lasts : List Last = c.args.kept.now.parts.now.lasts.lasts in
    let owing : List Query = c.args.kept.now.parts.now.owing.queries in
    let responses : responses_told (told_by c.behind-behind.result.means.happened.now) c.behind-behind.result.means.moment lasts owing c.behind-behind.result.groups.now (groups_behind c.behind-behind.result)
    ≡ responses_told told now lasts owing contents.kept then.kept =
    λ i. responses_told (c.behind-behind.ensures.happened i) (c.behind-behind.ensures.moment i) lasts owing (before_is i) (behind_is i) in
    let marks_of : (told_by c.behind-behind.result.means.happened.now).refusal ++ c.args.claims.now.marks ++ map mark_of c.in_ok-traffic.traffic.asking.asked.items
    ++ announced_told (told_by c.behind-behind.result.means.happened.now) c.behind-behind.result.means.moment c.behind-behind.result.groups.now ++ cuts_of c.in_ok-sessions.sessions.changes.items
    ≡ told.refusal ++ c.args.claims.now.marks ++ map mark_of c.in_ok-traffic.traffic.asking.asked.items ++ announced_told told now contents.kept ++ cuts_of c.in_ok-sessions.sessions.changes.items =
    λ i. (c.behind-behind.ensures.happened i).refusal ++ c.args.claims.now.marks ++ map mark_of c.in_ok-traffic.traffic.asking.asked.items
    ++ announced_told (c.behind-behind.ensures.happened i) (c.behind-behind.ensures.moment i) (before_is i) ++ cuts_of c.in_ok-sessions.sessions.changes.items in
    record {
      queried = c.in_ok-traffic.ensures.is.queried;
      asking = c.in_ok-traffic.ensures.is.asking held later c.requires.timed c.requires.walked.records (after-live now word c.args.reading.now.heard held) c.requires.walked.asking;
      gaps = c.in_ok-traffic.ensures.gaps;
      sessions = c.in_ok-sessions.ensures (viewed contents held) (viewed then later) c.requires.walked.records c.requires.walked.sessions c.requires.walked.call
          (beside-told told contents then held later _ sessions c.requires.typed c.requires.owned
          (subst (λ (ks : List Kept). have_data (own_in ks) ≡ true) behind_is (own_data (groups_behind c.behind-behind.result) (c.behind-behind.ensures.data c.requires.fits)))
          c.requires.walked.own
          c.requires.walked.own_kept
          registered
          (λ session op unheard.
          ap (registered_answers session op) (sym behind_is)
          ∙ c.in_ok-registered.ensures.rest session op (ap (λ (ls : List Registered). is_told ls session op) (sym told_of_lines) ∙ unheard)
          ∙ ap (registered_answers session op) before_is)
          (λ call e registers. ap (λ (ls : List Registered). is_told ls call.session call.op) told_of_lines ∙ begun-told contents (occasion_of contents told now word) c.args.claims.now c.behind-behind.result.deed.now lines c.requires.planned c.behind-behind.ensures.deed c.in_ok-registered.ensures.begun call e registers));
      marks = c.in_ok-marks.ensures ∙ marks_of;
      sent = c.in_ok-traffic.ensures.is.sent ∙ ap (λ (rs : List Sent). c.in_ok-traffic.ensures.is.queried ++ rs) responses;
      multicasts = c.in_ok-traffic.ensures.is.multicasts;
      come = c.in_ok-traffic.ensures.come;
      keeps = λ kept rr here.
          subst (λ (ks : List Kept). is_ours ks rr ≡ true) behind_is
          (c.keeps_own-keeps_own.ensures.kept kept rr (subst (λ (ks : List Kept). is_ours ks rr ≡ true) (sym before_is) here));
      given = c.in_ok-given.ensures;
    }
