use Rattle.std.proofs.Common.{sym, ◌∙◌}
use Rattle.mdns_transcript.proofs.Drafted.{question_answered}
use Rattle.mdns_transcript.proofs.draft.Draft.add_question.Goals as goal

pub returns-in-Some : goal.returns-in-Some
returns-in-Some c =
    question_answered c.args.self.now c.in-Some.sent c.args.question c.add_question.new.message c.add_question.result c.requires (sym c.is_sending.ensures ∙ c.if-not-is_sending.false) c.in-Some.is c.add_question.ensures.fits c.add_question.ensures.put
