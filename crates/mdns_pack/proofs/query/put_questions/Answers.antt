use Rattle.std.proofs.Common.{◌≡◌, ◌+◌, Bool, true, false, List, [], map, take, length, ap, sym, ◌∙◌, arith}
use Rattle.std.proofs.lemmas.List.{length-map}
use Rattle.dns_record.specs.declared.record.Key.{Key}
use Rattle.dns_record.specs.declared.record.Question.{Question}
use Rattle.dns_message.specs.declared.message.Message.{Message}
use Rattle.dns_message.specs.Drafting.{with_question}
use Rattle.dns_message.specs.Packing.{fits, bare_query, question_for}
use Rattle.mdns_pack.proofs.Chains.{parts_cut, parts_grown, asked_more, let_through}
use Rattle.mdns_pack.proofs.query.put_questions.Goals as goal

pub returns-then-not-branch-clause-parts : goal.returns-then-not-branch-clause-parts
returns-then-not-branch-clause-parts c =
    let F : List Key → Bool = λ batch. fits (bare_query (map question_for batch) []) in
    let q : Question = c.index-questions-len.result in
    let more = asked_more c.args.keys.now c.args.questions.now c.loop-len.len q c.requires.same c.loop-len-test.true c.index-questions-len.is in
    let size : length c.args.questions.now ≡ length c.args.keys.now = ap length c.requires.same ∙ length-map c.args.keys.now question_for in
    let e : F (take (c.loop-len.len + 1) c.args.keys.now) ≡ false =
    ap (λ (qs : List Question). fits (bare_query qs [])) more ∙ sym (ap (λ (d : Message). fits (with_question d q)) c.loop-len.invariant.batch)
    ∙ sym c.in_ok-question.ensures.fits ∙ c.if-not-branch.true in
    c.loop-len.invariant.parts ∙ parts_cut F c.args.keys.now c.loop-len.len (omega (arith, size, c.loop-len-test.true)) e

pub loop-len-preserved : goal.loop-len-preserved
loop-len-preserved c =
    let F : List Key → Bool = λ batch. fits (bare_query (map question_for batch) []) in
    let q : Question = c.index-questions-len.result in
    let more = asked_more c.args.keys.now c.args.questions.now c.loop-len.len q c.requires.same c.loop-len-test.true c.index-questions-len.is in
    let size : length c.args.questions.now ≡ length c.args.keys.now = ap length c.requires.same ∙ length-map c.args.keys.now question_for in
    let e : F (take (c.loop-len.len + 1) c.args.keys.now) ≡ true =
    ap (λ (qs : List Question). fits (bare_query qs [])) more ∙ sym (ap (λ (d : Message). fits (with_question d q)) c.loop-len.invariant.batch)
    ∙ sym c.in_ok-question.ensures.fits ∙ c.if-not-branch.false in
    record {
      batch =
          let_through _ c.in_ok-question.field-0 (with_question c.loop-len.draft q) c.loop-len.draft c.question.new.self c.in_ok-question.ensures.fits c.if-not-branch.false c.in_ok-question.ensures.grown
          ∙ ap (λ (d : Message). with_question d q) c.loop-len.invariant.batch ∙ sym (ap (λ (qs : List Question). bare_query qs []) more);
      parts = c.loop-len.invariant.parts ∙ parts_grown F c.args.keys.now c.loop-len.len (omega (arith, size, c.loop-len-test.true)) e;
    }
