-- Which lines can be printed and read again, by the ranges of their numbers, names, texts and addresses.
use Rattle.std.specs.Prelude.{◌≡◌, ℕ, Bool, true, ◌&&◌, List, Some}
use Rattle.std.specs.Str.{is_utf8}
use Rattle.dns_message.specs.Writing.{is_below, are_bytes, is_spellable_question, is_spellable_record}
use Rattle.sd_call.specs.declared.request.Request.{Request}
use Rattle.sd_call.specs.declared.request.Request.TheVariants as request
use Rattle.mdns_history.specs.declared.event.Event.{Event}
use Rattle.mdns_history.specs.declared.event.Event.TheVariants as event
use Rattle.mdns_history.specs.EntryText.{line}
use Rattle.mdns_history.specs.Typed.{is_typed_dest, is_typed_event, is_typed_mark, is_typed_given, is_typed_outcome, is_typed_item}
use Rattle.mdns_script.specs.Writable.{is_daemon}
use Rattle.mdns_print.specs.declared.line.Line.{Line}
use Rattle.mdns_print.specs.declared.line.Line.TheVariants as lines
use Rattle.mdns_print.specs.LineText.{outcome_of, line_text}
use Rattle.mdns_lines.specs.ReadLines.{line_read}

-- whether the labels and the service types of a request are text
abbrev pub has_text : Request → Bool
has_text (request.Browse regtype) = is_utf8 regtype
has_text (request.Resolve label regtype) = is_utf8 label && is_utf8 regtype
has_text (request.Register label regtype port norename txt) = is_utf8 label && is_utf8 regtype
has_text _ = true

-- whether those of an event are
abbrev pub event_has_text : Event → Bool
event_has_text (event.Call session op request) = has_text request
event_has_text _ = true

-- a line, whose daemon is one of sixteen
abbrev pub is_printable_line : Line → Bool
is_printable_line (lines.Head daemon moment word event) =
    is_daemon daemon && is_below 64 moment && is_below 32 word && is_typed_event event && event_has_text event
is_printable_line (lines.Mark mark) = is_typed_mark mark
is_printable_line (lines.Sent to response id truncated) = is_typed_dest to && is_below 16 id
is_printable_line (lines.Question question) = is_spellable_question question
is_printable_line (lines.Record section rr) = is_spellable_record rr
is_printable_line (lines.Given given) = is_typed_given given
is_printable_line (lines.Ending ending) = is_typed_outcome (outcome_of ending)
is_printable_line (lines.Count count) = is_below 64 count
is_printable_line (lines.Item item) = is_typed_item item

-- A text that is printed of such a line is read as it.
abbrev pub AreReadBack : Type 0
AreReadBack = (printed : Line) (text : List ℕ) → is_printable_line printed ≡ true → line_text printed ≡ line text → line_read text ≡ Some printed

-- What is read of a text is printed as it.
abbrev pub ArePrinted : Type 0
ArePrinted = (text : List ℕ) (read : Line) → line_read text ≡ Some read → line_text read ≡ line text

-- What is read of bytes can be printed.
abbrev pub ArePrintable : Type 0
ArePrintable = (text : List ℕ) (read : Line) → are_bytes text ≡ true → line_read text ≡ Some read → is_printable_line read ≡ true
