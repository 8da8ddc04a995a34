-- The lines of rows, in the order in which they are printed.
use Rattle.std.specs.Prelude.{ℕ, List, [], ◌∷◌, ◌++◌, map, length}
use Rattle.std.specs.List.{flat_map}
use Rattle.dns_message.specs.declared.message.Message.{Message}
use Rattle.mdns_history.specs.declared.entry.Sent.{Sent}
use Rattle.mdns_history.specs.declared.entry.Outcome.{Outcome}
use Rattle.mdns_history.specs.declared.entry.Outcome.TheVariants as outcome
use Rattle.mdns_history.specs.declared.entry.Entry.{Entry}
use Rattle.mdns_print.specs.declared.line.Section.TheVariants.{Answers, Authority, Additional}
use Rattle.mdns_print.specs.declared.line.Ending.TheVariants as ending
use Rattle.mdns_print.specs.declared.line.Line.{Line}
use Rattle.mdns_print.specs.declared.line.Line.TheVariants as lines
use Rattle.mdns_transcript.specs.declared.row.Row.{Row}

-- the lines of a message behind its first one
abbrev pub message_lines : Message → List Line
message_lines m =
    map (λ question. lines.Question question) m.questions ++ map (λ rr. lines.Record Answers rr) m.answers ++ map (λ rr. lines.Record Authority rr) m.authority
    ++ map (λ rr. lines.Record Additional rr) m.additional

-- the lines of a message that was sent
abbrev pub sent_lines : Sent → List Line
sent_lines sent = lines.Sent sent.to sent.message.response sent.message.id sent.message.truncated ∷ message_lines sent.message

-- the lines of an outcome
abbrev pub outcome_lines : Outcome → List Line
outcome_lines outcome.Done = []
outcome_lines (outcome.Opened session) = lines.Ending (ending.Opened session) ∷ []
outcome_lines outcome.Full = lines.Ending ending.Full ∷ []
outcome_lines outcome.Ended = lines.Ending ending.Ended ∷ []
outcome_lines outcome.Closed = lines.Ending ending.Closed ∷ []
outcome_lines outcome.Cut = lines.Ending ending.Cut ∷ []
outcome_lines (outcome.Code code) = lines.Ending (ending.Code code) ∷ []
outcome_lines (outcome.Items items) = lines.Count (length items) ∷ map (λ item. lines.Item item) items
outcome_lines outcome.Empty = lines.Ending ending.Empty ∷ []

-- the lines of an entry of a daemon
abbrev pub entry_lines : ℕ → Entry → List Line
entry_lines daemon entry =
    (lines.Head daemon entry.moment entry.word entry.event ∷ []) ++ map (λ mark. lines.Mark mark) entry.marks ++ flat_map sent_lines entry.sent
    ++ map (λ given. lines.Given given) entry.given ++ outcome_lines entry.outcome

-- the lines of a row
abbrev pub row_lines : Row → List Line
row_lines row = entry_lines row.daemon row.entry

-- the lines of rows
abbrev pub rows_lines : List Row → List Line
rows_lines rows = flat_map row_lines rows
