-- With which entries questions begin, and which entries came since.
use Rattle.std.specs.Prelude.{Bool, false, List, [], ◌∷◌, Option, None, if◌then◌else◌}
use Rattle.dns_record.specs.declared.record.Key.{Key}
use Rattle.mdns_history.specs.declared.entry.Entry.{Entry}
use Rattle.mdns_history.specs.Questions.{Active, begins_asking, begun_with}

-- whether a question gets its first operation with the last entry
abbrev pub begins_last : Key → List Entry → Bool
begins_last question [] = false
begins_last question (entry ∷ past) = begins_asking question entry past

-- a question as the call of the last entry spells it, where it begins with that entry
abbrev pub begun_last : Key → List Entry → Option Active
begun_last question [] = None
begun_last question (entry ∷ past) = begun_with question entry past

-- the entries behind the last place that passes a test on its entry and the history before it, the last first; all where none does
abbrev pub entries_since : (Entry → List Entry → Bool) → List Entry → List Entry
entries_since test [] = []
entries_since test (entry ∷ past) = let rest = entries_since test past in if test entry past then [] else entry ∷ rest
