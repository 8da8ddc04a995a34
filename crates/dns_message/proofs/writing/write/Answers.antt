use Rattle.std.proofs.Common.{[], arith, ◌∙◌}
use Rattle.std.proofs.lemmas.Result.{err_from_is_err_and}
use Rattle.dns_message.specs.Writing.{written_question, written_record}
use Rattle.dns_message.proofs.Whole.{questions_of, answers_at, answers_of, authority_at, authority_of, additional_at, length-whole, count_short, stage, stage_long, begun, put_together, not_memory}
use Rattle.dns_message.proofs.writing.write.Goals as goal

pub returns-then-limit-lt12-clause-long : goal.returns-then-limit-lt12-clause-long
returns-then-limit-lt12-clause-long c = λ h. omega (arith, length-whole c.args.message.now, c.if-limit-lt12.true)

pub returns-in_err-put_header-clause-long : goal.returns-in_err-put_header-clause-long
returns-in_err-put_header-clause-long c = λ h.
    let p = err_from_is_err_and c.from_residual.result c.from_residual.ensures.1 in
    omega (arith, c.in_err-put_header.ensures (not_memory _ _ _ p.1 p.2 h), count_short c.args.message.now, c.requires)

pub put_questions-requires-clause-within : goal.put_questions-requires-clause-within
put_questions-requires-clause-within c =
    let m = c.args.message.now in
    let begin = begun m _ _ c.new-out.ensures.items c.in_ok-put_header.ensures in
    omega (arith, begin.size, c.if-limit-lt12.false)

pub returns-in_err-put_questions-clause-long : goal.returns-in_err-put_questions-clause-long
returns-in_err-put_questions-clause-long c = λ h.
    let m = c.args.message.now in
    let p = err_from_is_err_and c.from_residual-in_err-put_questions.result c.from_residual-in_err-put_questions.ensures.1 in
    let long = c.in_err-put_questions.ensures (not_memory _ _ _ p.1 p.2 h) in
    let begin = begun m _ _ c.new-out.ensures.items c.in_ok-put_header.ensures in
    omega (arith, length-whole m, stage_long written_question _ [] _ 12 _ _ m.questions begin.size c.new-names.ensures c.as_slice.ensures long)

pub returns-in_err-put_records-clause-long : goal.returns-in_err-put_records-clause-long
returns-in_err-put_records-clause-long c = λ h.
    let m = c.args.message.now in
    let p = err_from_is_err_and c.from_residual-in_err-put_records.result c.from_residual-in_err-put_records.ensures.1 in
    let long = c.in_err-put_records.ensures (not_memory _ _ _ p.1 p.2 h) in
    let begin = begun m _ _ c.new-out.ensures.items c.in_ok-put_header.ensures in
    let questions = stage written_question _ [] _ _ _ 12 _ m.questions begin.size c.new-names.ensures c.as_slice.ensures c.in_ok-put_questions.ensures.0 c.in_ok-put_questions.ensures.1 in
    omega (arith, length-whole m, stage_long written_record _ (questions_of m).names _ (answers_at m) _ _ m.answers questions.size questions.names_are c.as_slice-2.ensures long)

pub returns-in_err-put_records-2-clause-long : goal.returns-in_err-put_records-2-clause-long
returns-in_err-put_records-2-clause-long c = λ h.
    let m = c.args.message.now in
    let p = err_from_is_err_and c.from_residual-in_err-put_records-2.result c.from_residual-in_err-put_records-2.ensures.1 in
    let long = c.in_err-put_records-2.ensures (not_memory _ _ _ p.1 p.2 h) in
    let begin = begun m _ _ c.new-out.ensures.items c.in_ok-put_header.ensures in
    let questions = stage written_question _ [] _ _ _ 12 _ m.questions begin.size c.new-names.ensures c.as_slice.ensures c.in_ok-put_questions.ensures.0 c.in_ok-put_questions.ensures.1 in
    let answers = stage written_record _ (questions_of m).names _ _ _ (answers_at m) _ m.answers questions.size questions.names_are c.as_slice-2.ensures c.in_ok-put_records.ensures.0 c.in_ok-put_records.ensures.1 in
    omega (arith, length-whole m, stage_long written_record _ (answers_of m).names _ (authority_at m) _ _ m.authority answers.size answers.names_are c.as_slice-3.ensures long)

pub returns-in_err-put_records-3-clause-long : goal.returns-in_err-put_records-3-clause-long
returns-in_err-put_records-3-clause-long c = λ h.
    let m = c.args.message.now in
    let p = err_from_is_err_and c.from_residual-in_err-put_records-3.result c.from_residual-in_err-put_records-3.ensures.1 in
    let long = c.in_err-put_records-3.ensures (not_memory _ _ _ p.1 p.2 h) in
    let begin = begun m _ _ c.new-out.ensures.items c.in_ok-put_header.ensures in
    let questions = stage written_question _ [] _ _ _ 12 _ m.questions begin.size c.new-names.ensures c.as_slice.ensures c.in_ok-put_questions.ensures.0 c.in_ok-put_questions.ensures.1 in
    let answers = stage written_record _ (questions_of m).names _ _ _ (answers_at m) _ m.answers questions.size questions.names_are c.as_slice-2.ensures c.in_ok-put_records.ensures.0 c.in_ok-put_records.ensures.1 in
    let authority = stage written_record _ (answers_of m).names _ _ _ (authority_at m) _ m.authority answers.size answers.names_are c.as_slice-3.ensures c.in_ok-put_records-2.ensures.0 c.in_ok-put_records-2.ensures.1 in
    omega (arith, length-whole m, stage_long written_record _ (authority_of m).names _ (additional_at m) _ _ m.additional authority.size authority.names_are c.as_slice-4.ensures long)

pub returns-clause-written : goal.returns-clause-written
returns-clause-written c =
    let m = c.args.message.now in
    let begin = begun m _ _ c.new-out.ensures.items c.in_ok-put_header.ensures in
    let questions = stage written_question _ [] _ _ _ 12 _ m.questions begin.size c.new-names.ensures c.as_slice.ensures c.in_ok-put_questions.ensures.0 c.in_ok-put_questions.ensures.1 in
    let answers = stage written_record _ (questions_of m).names _ _ _ (answers_at m) _ m.answers questions.size questions.names_are c.as_slice-2.ensures c.in_ok-put_records.ensures.0 c.in_ok-put_records.ensures.1 in
    let authority = stage written_record _ (answers_of m).names _ _ _ (authority_at m) _ m.authority answers.size answers.names_are c.as_slice-3.ensures c.in_ok-put_records-2.ensures.0 c.in_ok-put_records-2.ensures.1 in
    let additional = stage written_record _ (authority_of m).names _ _ _ (additional_at m) _ m.additional authority.size authority.names_are c.as_slice-4.ensures c.in_ok-put_records-3.ensures.0 c.in_ok-put_records-3.ensures.1 in
    c.in_ok-shared.ensures ∙ put_together m _ _ _ _ _ _ _ _ _ begin questions answers authority additional
