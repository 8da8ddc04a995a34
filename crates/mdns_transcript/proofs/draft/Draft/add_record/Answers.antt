use Rattle.std.proofs.Common.{sym, ◌∙◌}
use Rattle.mdns_transcript.proofs.Drafted.{record_answered}
use Rattle.mdns_transcript.proofs.draft.Draft.add_record.Goals as goal

pub returns-in-Some : goal.returns-in-Some
returns-in-Some c =
    record_answered c.args.self.now c.in-Some.sent c.args.section c.args.rr c.add_record.new.message c.add_record.result c.requires (sym c.is_sending.ensures ∙ c.if-not-is_sending.false) c.in-Some.is c.add_record.ensures.fits c.add_record.ensures.put
