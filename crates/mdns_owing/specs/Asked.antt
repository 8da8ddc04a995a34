-- Questions as keys, and what was collected for them.
use Rattle.std.specs.Prelude.{◌+◌, ◌*◌, List, [], if◌then◌else◌}
use Rattle.std.specs.Option.{unwrap_or}
use Rattle.dns_record.specs.declared.record.Question.{Question}
use Rattle.dns_record.specs.declared.record.Rr.{Rr}
use Rattle.mdns_asked.specs.Asked.{Contents, records_of}
use Rattle.by_name.specs.At.{At, at, owner_of}

-- a question by its folded name, its type, and whether it asks for a unicast answer
abbrev pub asked_as : Question → At
asked_as question = at (owner_of question.name) (2 * question.kind + (if question.unicast then 1 else 0))

-- the records that were collected for a question
abbrev pub own_found : Question → Contents → List Rr
own_found question asked = unwrap_or (records_of question asked) []
