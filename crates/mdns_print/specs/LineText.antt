-- Lines as text, each with its line feed, as entries are printed.
use Rattle.std.specs.Prelude.{ℕ, List, ◌++◌, decimal, codes}
use Rattle.dns_record.specs.RecordText.{space, record_text}
use Rattle.sd_call.specs.CallText.{item_text}
use Rattle.mdns_history.specs.declared.entry.Outcome.{Outcome}
use Rattle.mdns_history.specs.declared.entry.Outcome.TheVariants as outcome
use Rattle.mdns_history.specs.EntryText.{line, event_text, mark_line, dest_text, way_text, word_if, question_line, given_line, outcome_lines, outcome_line}
use Rattle.mdns_print.specs.declared.line.Section.{Section}
use Rattle.mdns_print.specs.declared.line.Section.TheVariants.{Answers, Authority, Additional}
use Rattle.mdns_print.specs.declared.line.Ending.{Ending}
use Rattle.mdns_print.specs.declared.line.Ending.TheVariants.{Opened, Full, Ended, Closed, Cut, Code, Empty}
use Rattle.mdns_print.specs.declared.line.Line.{Line}
use Rattle.mdns_print.specs.declared.line.Line.TheVariants as lines

-- the outcome that a line tells
abbrev pub outcome_of : Ending → Outcome
outcome_of (Opened session) = outcome.Opened session
outcome_of Full = outcome.Full
outcome_of Ended = outcome.Ended
outcome_of Closed = outcome.Closed
outcome_of Cut = outcome.Cut
outcome_of (Code code) = outcome.Code code
outcome_of Empty = outcome.Empty

-- the letter of a section
abbrev pub letter : Section → List ℕ
letter Answers = codes "a"
letter Authority = codes "n"
letter Additional = codes "x"

-- a line with its line feed
abbrev pub line_text : Line → List ℕ
line_text (lines.Head daemon moment word event) =
    line (codes "@" ++ decimal moment ++ codes " d" ++ decimal daemon ++ codes " w" ++ decimal word ++ space ++ event_text event)
line_text (lines.Mark mark) = mark_line mark
line_text (lines.Sent to response id truncated) = line (codes " > " ++ dest_text to ++ way_text response ++ decimal id ++ word_if truncated (codes " tc"))
line_text (lines.Question question) = question_line question
line_text (lines.Record section rr) = line (codes "  " ++ letter section ++ space ++ record_text rr)
line_text (lines.Given given) = given_line given
line_text (lines.Ending ending) = outcome_lines (outcome_of ending)
line_text (lines.Count count) = outcome_line (codes "items " ++ decimal count)
line_text (lines.Item item) = line (codes "  " ++ item_text item)
