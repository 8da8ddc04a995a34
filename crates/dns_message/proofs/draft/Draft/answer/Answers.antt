use Rattle.std.proofs.Common.{◌<◌, ◌∙◌, true≢false, ap, sym, subst, length}
use Rattle.dns_message.specs.declared.message.Message.{Message}
use Rattle.dns_message.specs.Writing.{written, written_record}
use Rattle.dns_message.specs.Packing.{is_within_length}
use Rattle.dns_message.specs.Drafting.{with_answer, IsDrafted}
use Rattle.dns_message.proofs.Drafts.{next_answer, answer_grown, long_is, answered, over_is, fits_is, drafted_put, yes_is, no_is}
use Rattle.dns_message.proofs.draft.Draft.answer.Goals as goal

pub returns-then-self-clause-fits : goal.returns-then-self-clause-fits
returns-then-self-clause-fits c =
    over_is c.args.self.now (with_answer c.args.self.now c.args.rr.now) _ c.args.most (answer_grown c.args.self.now c.args.rr.now c.requires.authority c.requires.additional)
    (subst (λ (m : Message). 8972 < length (written m)) c.self.view_is (c.self.invariant.1 c.if-self.true)) c.requires.limit

pub returns-then-self-clause-grown : goal.returns-then-self-clause-grown
returns-then-self-clause-grown c =
    no_is (is_within_length c.args.most (with_answer c.args.self.now c.args.rr.now)) _ _
    (over_is c.args.self.now (with_answer c.args.self.now c.args.rr.now) _ c.args.most (answer_grown c.args.self.now c.args.rr.now c.requires.authority c.requires.additional)
    (subst (λ (m : Message). 8972 < length (written m)) c.self.view_is (c.self.invariant.1 c.if-self.true)) c.requires.limit)

pub returns-then-is_too_long-clause-fits : goal.returns-then-is_too_long-clause-fits
returns-then-is_too_long-clause-fits c =
    long_is c.args.self.now c.args.rr.now c.args.most c.requires.authority c.requires.additional c.requires.limit (c.is_too_long.ensures c.if-is_too_long.true)

pub returns-then-is_too_long-clause-grown : goal.returns-then-is_too_long-clause-grown
returns-then-is_too_long-clause-grown c =
    no_is (is_within_length c.args.most (with_answer c.args.self.now c.args.rr.now)) _ _
    (long_is c.args.self.now c.args.rr.now c.args.most c.requires.authority c.requires.additional c.requires.limit (c.is_too_long.ensures c.if-is_too_long.true))

pub returns-then-not-branch-clause-fits : goal.returns-then-not-branch-clause-fits
returns-then-not-branch-clause-fits c =
    let m = c.self.inside.message in
    let w = c.self.inside.so_far in
    let drafted : IsDrafted m w.0 w.1 = c.self.invariant.0 c.if-self-2.false in
    sym c.if-not-branch.true ∙ c.in_ok-record.ensures.fits ∙ fits_is m (with_answer m c.args.rr.now) w.0 c.args.most (written_record w.1 w.0 c.args.rr.now) (next_answer m c.args.rr.now w.0 w.1 drafted (ap (λ (m : Message). m.authority) c.self.view_is ∙ c.requires.authority) (ap (λ (m : Message). m.additional) c.self.view_is ∙ c.requires.additional))
    ∙ ap (λ (x : Message). is_within_length c.args.most (with_answer x c.args.rr.now)) c.self.view_is

pub returns-then-not-branch-clause-grown : goal.returns-then-not-branch-clause-grown
returns-then-not-branch-clause-grown c =
    let m = c.self.inside.message in
    let w = c.self.inside.so_far in
    let drafted : IsDrafted m w.0 w.1 = c.self.invariant.0 c.if-self-2.false in
    c.self.view_is ∙ no_is (is_within_length c.args.most (with_answer c.args.self.now c.args.rr.now)) (with_answer c.args.self.now c.args.rr.now) c.args.self.now
    (sym c.if-not-branch.true ∙ c.in_ok-record.ensures.fits ∙ fits_is m (with_answer m c.args.rr.now) w.0 c.args.most (written_record w.1 w.0 c.args.rr.now) (next_answer m c.args.rr.now w.0 w.1 drafted (ap (λ (m : Message). m.authority) c.self.view_is ∙ c.requires.authority) (ap (λ (m : Message). m.additional) c.self.view_is ∙ c.requires.additional))
    ∙ ap (λ (x : Message). is_within_length c.args.most (with_answer x c.args.rr.now)) c.self.view_is)

pub invariant_of-self-2 : goal.invariant_of-self-2
invariant_of-self-2 c =
    let m = c.self.inside.message in
    let w = c.self.inside.so_far in
    let drafted : IsDrafted m w.0 w.1 = c.self.invariant.0 c.if-self-2.false in (
      λ _. drafted_put m (with_answer m c.args.rr.now) _ w c.record.new.self (written_record w.1 w.0 c.args.rr.now) c.args.most (next_answer m c.args.rr.now w.0 w.1 drafted (ap (λ (m : Message). m.authority) c.self.view_is ∙ c.requires.authority) (ap (λ (m : Message). m.additional) c.self.view_is ∙ c.requires.additional)) c.requires.limit
          (sym c.if-not-branch.false ∙ c.in_ok-record.ensures.fits) c.in_ok-record.ensures.grown (answered m c.push_copy.new.records c.args.rr.now c.in_ok-push_copy.ensures.ok),
      λ e. absurd (true≢false (sym e ∙ c.if-self.false)),
    )

pub returns-clause-fits : goal.returns-clause-fits
returns-clause-fits c =
    let m = c.self.inside.message in
    let w = c.self.inside.so_far in
    let drafted : IsDrafted m w.0 w.1 = c.self.invariant.0 c.if-self-2.false in
    sym c.if-not-branch.false ∙ c.in_ok-record.ensures.fits ∙ fits_is m (with_answer m c.args.rr.now) w.0 c.args.most (written_record w.1 w.0 c.args.rr.now) (next_answer m c.args.rr.now w.0 w.1 drafted (ap (λ (m : Message). m.authority) c.self.view_is ∙ c.requires.authority) (ap (λ (m : Message). m.additional) c.self.view_is ∙ c.requires.additional))
    ∙ ap (λ (x : Message). is_within_length c.args.most (with_answer x c.args.rr.now)) c.self.view_is

pub returns-clause-grown : goal.returns-clause-grown
returns-clause-grown c =
    let m = c.self.inside.message in
    let w = c.self.inside.so_far in
    let drafted : IsDrafted m w.0 w.1 = c.self.invariant.0 c.if-self-2.false in
    answered m c.push_copy.new.records c.args.rr.now c.in_ok-push_copy.ensures.ok ∙ ap (λ (x : Message). with_answer x c.args.rr.now) c.self.view_is
    ∙ yes_is (is_within_length c.args.most (with_answer c.args.self.now c.args.rr.now)) (with_answer c.args.self.now c.args.rr.now) c.args.self.now
    (sym c.if-not-branch.false ∙ c.in_ok-record.ensures.fits ∙ fits_is m (with_answer m c.args.rr.now) w.0 c.args.most (written_record w.1 w.0 c.args.rr.now) (next_answer m c.args.rr.now w.0 w.1 drafted (ap (λ (m : Message). m.authority) c.self.view_is ∙ c.requires.authority) (ap (λ (m : Message). m.additional) c.self.view_is ∙ c.requires.additional))
    ∙ ap (λ (x : Message). is_within_length c.args.most (with_answer x c.args.rr.now)) c.self.view_is)
