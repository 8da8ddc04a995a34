use Rattle.std.proofs.Common.{◌≡◌, OnOk, List, [], ◌∷◌, ◌++◌, Bool, true, cond, ap, sym, ◌∙◌, subst}
use Rattle.dns_record.specs.declared.record.Rr.{Rr}
use Rattle.dns_message.specs.declared.message.Message.{Message}
use Rattle.dns_message.specs.Packing.{query_with, bare_query}
use Rattle.dns_message.specs.Drafting.{with_answer}
use Rattle.mdns_pack.proofs.Chains.{let_through}
use Rattle.mdns_pack.proofs.Listings.{grown_fits, grown_is, kept_out}
use Rattle.mdns_pack.proofs.query.put_known.Goals as goal

pub returns-then-branch-clause-messages : goal.returns-then-branch-clause-messages
returns-then-branch-clause-messages c =
    let fitting = sym (grown_fits c.args.draft.now c.args.listed.now.items c.record.result.now c.args.listing.now c.requires c.record.ensures) ∙ sym c.in_ok-answer.ensures.fits ∙ c.if-branch.true in
    ap (λ (b : Bool). cond b c.args.messages.now (c.args.messages.now ++ query_with c.args.draft.now.questions c.args.listed.now.items true ∷ [])) (sym fitting)

pub returns-then-branch-clause-message : goal.returns-then-branch-clause-message
returns-then-branch-clause-message c =
    let fitting = sym (grown_fits c.args.draft.now c.args.listed.now.items c.record.result.now c.args.listing.now c.requires c.record.ensures) ∙ sym c.in_ok-answer.ensures.fits ∙ c.if-branch.true in
    grown_is c.args.draft.now c.answer.new.self c.args.listed.now.items c.push.new.self.items c.record.result.now c.args.listing.now
    (let_through _ c.in_ok-answer.field-0 (with_answer c.args.draft.now c.record.result.now) c.args.draft.now c.answer.new.self c.in_ok-answer.ensures.fits c.if-branch.true c.in_ok-answer.ensures.grown)
    (c.in_ok-push.ensures.items ∙ ap (λ (x : Rr). c.args.listed.now.items ++ x ∷ []) c.again.ensures)
    ∙ ap (λ (b : Bool). cond b (with_answer (bare_query c.args.draft.now.questions c.args.listed.now.items) c.args.listing.now) (bare_query [] (c.args.listing.now ∷ []))) (sym fitting)

pub returns-clause-messages : goal.returns-clause-messages
returns-clause-messages c =
    let over = sym (grown_fits c.args.draft.now c.args.listed.now.items c.record.result.now c.args.listing.now c.requires c.record.ensures) ∙ sym c.in_ok-answer.ensures.fits ∙ c.if-branch.false in
    let kept = kept_out _ c.in_ok-answer.field-0 (with_answer c.args.draft.now c.record.result.now) c.args.draft.now c.answer.new.self c.in_ok-answer.ensures.fits c.if-branch.false c.in_ok-answer.ensures.grown in
    subst (λ (l : List Message). OnOk c.begin_next.result (c.begin_next.new.messages ≡ l))
    (ap (λ (m : Message). c.args.messages.now ++ query_with m.questions c.args.listed.now.items true ∷ []) kept
    ∙ ap (λ (b : Bool). cond b c.args.messages.now (c.args.messages.now ++ query_with c.args.draft.now.questions c.args.listed.now.items true ∷ [])) (sym over))
    c.begin_next.ensures.messages

pub returns-clause-message : goal.returns-clause-message
returns-clause-message c =
    let over = sym (grown_fits c.args.draft.now c.args.listed.now.items c.record.result.now c.args.listing.now c.requires c.record.ensures) ∙ sym c.in_ok-answer.ensures.fits ∙ c.if-branch.false in
    subst (λ (m : Message). OnOk c.begin_next.result (bare_query c.begin_next.new.draft.questions c.begin_next.new.listed.items ≡ m))
    (ap (λ (b : Bool). cond b (with_answer (bare_query c.args.draft.now.questions c.args.listed.now.items) c.args.listing.now) (bare_query [] (c.args.listing.now ∷ []))) (sym over))
    c.begin_next.ensures.message
