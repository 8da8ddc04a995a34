use Rattle.std.proofs.Common.{ap, ◌∙◌, Option}
use Rattle.mdns_transcript.specs.declared.draft.Draft.{Draft}
use Rattle.mdns_transcript.specs.Stages.{next}
use Rattle.mdns_transcript.specs.Drafts.{stage_of}
use Rattle.mdns_transcript.proofs.Drafted.{no_entry_yet, no_head}
use Rattle.mdns_transcript.proofs.reading.Reading.put.Goals as goal

pub returns-in-None : goal.returns-in-None
returns-in-None c = ap (λ (draft : Option Draft). next c.args.line (stage_of draft)) c.in-None.is ∙ no_entry_yet c.args.line (no_head c.args.line c.in_default.not-Head)
