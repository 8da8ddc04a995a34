use Rattle.std.proofs.Common.{◌<◌, ◌∙◌, true≢false, ap, sym, subst, length}
use Rattle.dns_message.specs.declared.message.Message.{Message}
use Rattle.dns_message.specs.Writing.{written, written_question}
use Rattle.dns_message.specs.Packing.{is_within_length}
use Rattle.dns_message.specs.Drafting.{with_question, records_of, IsDrafted}
use Rattle.dns_message.proofs.Drafts.{next_question, asked_grown, asked, over_is, fits_is, drafted_put, yes_is, no_is}
use Rattle.dns_message.proofs.draft.Draft.question.Goals as goal

pub returns-then-self-clause-fits : goal.returns-then-self-clause-fits
returns-then-self-clause-fits c =
    over_is c.args.self.now (with_question c.args.self.now c.args.question.now) _ c.args.most (asked_grown c.args.self.now c.args.question.now c.requires.first)
    (subst (λ (m : Message). 8972 < length (written m)) c.self.view_is (c.self.invariant.1 c.if-self.true)) c.requires.limit

pub returns-then-self-clause-grown : goal.returns-then-self-clause-grown
returns-then-self-clause-grown c =
    no_is (is_within_length c.args.most (with_question c.args.self.now c.args.question.now)) _ _
    (over_is c.args.self.now (with_question c.args.self.now c.args.question.now) _ c.args.most (asked_grown c.args.self.now c.args.question.now c.requires.first)
    (subst (λ (m : Message). 8972 < length (written m)) c.self.view_is (c.self.invariant.1 c.if-self.true)) c.requires.limit)

pub returns-then-not-branch-clause-fits : goal.returns-then-not-branch-clause-fits
returns-then-not-branch-clause-fits c =
    let m = c.self.inside.message in
    let w = c.self.inside.so_far in
    let drafted : IsDrafted m w.0 w.1 = c.self.invariant.0 c.if-self-2.false in
    sym c.if-not-branch.true ∙ c.in_ok-question.ensures.fits ∙ fits_is m (with_question m c.args.question.now) w.0 c.args.most (written_question w.1 w.0 c.args.question.now) (next_question m c.args.question.now w.0 w.1 drafted (ap records_of c.self.view_is ∙ c.requires.first))
    ∙ ap (λ (x : Message). is_within_length c.args.most (with_question x c.args.question.now)) c.self.view_is

pub returns-then-not-branch-clause-grown : goal.returns-then-not-branch-clause-grown
returns-then-not-branch-clause-grown c =
    let m = c.self.inside.message in
    let w = c.self.inside.so_far in
    let drafted : IsDrafted m w.0 w.1 = c.self.invariant.0 c.if-self-2.false in
    c.self.view_is ∙ no_is (is_within_length c.args.most (with_question c.args.self.now c.args.question.now)) (with_question c.args.self.now c.args.question.now) c.args.self.now
    (sym c.if-not-branch.true ∙ c.in_ok-question.ensures.fits ∙ fits_is m (with_question m c.args.question.now) w.0 c.args.most (written_question w.1 w.0 c.args.question.now) (next_question m c.args.question.now w.0 w.1 drafted (ap records_of c.self.view_is ∙ c.requires.first))
    ∙ ap (λ (x : Message). is_within_length c.args.most (with_question x c.args.question.now)) c.self.view_is)

pub invariant_of-self-2 : goal.invariant_of-self-2
invariant_of-self-2 c =
    let m = c.self.inside.message in
    let w = c.self.inside.so_far in
    let drafted : IsDrafted m w.0 w.1 = c.self.invariant.0 c.if-self-2.false in (
      λ _. drafted_put m (with_question m c.args.question.now) _ w c.question.new.self (written_question w.1 w.0 c.args.question.now) c.args.most (next_question m c.args.question.now w.0 w.1 drafted (ap records_of c.self.view_is ∙ c.requires.first)) c.requires.limit
          (sym c.if-not-branch.false ∙ c.in_ok-question.ensures.fits) c.in_ok-question.ensures.grown (asked m c.push.new.self c.args.question.now c.copied.result c.copied.ensures c.in_ok-push.ensures.ok),
      λ e. absurd (true≢false (sym e ∙ c.if-self.false)),
    )

pub returns-clause-fits : goal.returns-clause-fits
returns-clause-fits c =
    let m = c.self.inside.message in
    let w = c.self.inside.so_far in
    let drafted : IsDrafted m w.0 w.1 = c.self.invariant.0 c.if-self-2.false in
    sym c.if-not-branch.false ∙ c.in_ok-question.ensures.fits ∙ fits_is m (with_question m c.args.question.now) w.0 c.args.most (written_question w.1 w.0 c.args.question.now) (next_question m c.args.question.now w.0 w.1 drafted (ap records_of c.self.view_is ∙ c.requires.first))
    ∙ ap (λ (x : Message). is_within_length c.args.most (with_question x c.args.question.now)) c.self.view_is

pub returns-clause-grown : goal.returns-clause-grown
returns-clause-grown c =
    let m = c.self.inside.message in
    let w = c.self.inside.so_far in
    let drafted : IsDrafted m w.0 w.1 = c.self.invariant.0 c.if-self-2.false in
    asked m c.push.new.self c.args.question.now c.copied.result c.copied.ensures c.in_ok-push.ensures.ok ∙ ap (λ (x : Message). with_question x c.args.question.now) c.self.view_is
    ∙ yes_is (is_within_length c.args.most (with_question c.args.self.now c.args.question.now)) (with_question c.args.self.now c.args.question.now) c.args.self.now
    (sym c.if-not-branch.false ∙ c.in_ok-question.ensures.fits ∙ fits_is m (with_question m c.args.question.now) w.0 c.args.most (written_question w.1 w.0 c.args.question.now) (next_question m c.args.question.now w.0 w.1 drafted (ap records_of c.self.view_is ∙ c.requires.first))
    ∙ ap (λ (x : Message). is_within_length c.args.most (with_question x c.args.question.now)) c.self.view_is)
