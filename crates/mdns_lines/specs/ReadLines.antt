-- Lines read from text: exactly the texts of lines.
use Rattle.std.specs.Prelude.{ℕ, ◌^◌, Bool, true, false, List, Option, Some, None, codes, if◌then◌else◌}
use Rattle.std.specs.Option.{option_map}
use Rattle.std.specs.Str.{bytes_eq}
use Rattle.number_text.specs.Cut.{cut_of}
use Rattle.number_text.specs.Digits.{◌>>=◌, decimal_below}
use Rattle.mdns_base.specs.declared.host.Dest.{Dest}
use Rattle.mdns_base.specs.declared.host.Dest.TheVariants.{All, One}
use Rattle.dns_record.specs.declared.record.Question.{Question}
use Rattle.dns_record.specs.ReadRecord.{kind_read}
use Rattle.mdns_history.specs.EntryText.{line}
use Rattle.mdns_script.specs.Tokens.{when}
use Rattle.mdns_print.specs.declared.line.Section.{Section}
use Rattle.mdns_print.specs.declared.line.Section.TheVariants.{Answers, Authority, Additional}
use Rattle.mdns_print.specs.declared.line.Line.{Line}
use Rattle.mdns_print.specs.declared.line.Line.TheVariants as lines
use Rattle.mdns_print.specs.LineText.{line_text}
use Rattle.mdns_lines.specs.Words.{after, or_else, if_word, name_in, host_in}
use Rattle.mdns_lines.specs.ReadEvents.{head_in}
use Rattle.mdns_lines.specs.ReadItems.{rr_in, mark_in, item_in, given_in, outcome_in}

-- `ID` or `ID tc`
abbrev pub id_in : List ℕ → Option (ℕ × Bool)
id_in text = at_cut text (cut_of 32 text)
  where
    at_cut : List ℕ → Option (List ℕ × List ℕ) → Option (ℕ × Bool)
    at_cut text None = option_map (λ id. (id, false)) (decimal_below (2 ^ 16) text)
    at_cut text (Some words) = do
      id ← decimal_below (2 ^ 16) words.0
      if_word (codes "tc") words.1 (id, true)

-- whether a message is a reply or a query
abbrev pub way_in : List ℕ → Option Bool
way_in word = if bytes_eq word (codes "reply") then Some true else if_word (codes "query") word false

-- behind where a message goes: `reply` or `query`, its ID, and `tc` where known answers follow
unfoldable pub way_words : Dest → List ℕ → Option Line
way_words to text = do
  way ← cut_of 32 text
  response ← way_in way.0
  id ← id_in way.1
  Some (lines.Sent to response id.0 id.1)

-- a message to one host, of which the address was read
unfoldable pub to_host : List ℕ → List ℕ → Option Line
to_host ip rest = do
  port ← cut_of 32 rest
  host ← host_in ip port.0
  way_words (One host) port.1

-- the first line of a sent message
abbrev pub sent_in : List ℕ → Option Line
sent_in text = do
  to ← cut_of 32 text
  if bytes_eq to.0 (codes "all") then way_words All to.1 else to_host to.0 to.1

-- `KIND` or `KIND qu`
abbrev pub kind_in : List ℕ → Option (ℕ × Bool)
kind_in text = at_cut text (cut_of 32 text)
  where
    at_cut : List ℕ → Option (List ℕ × List ℕ) → Option (ℕ × Bool)
    at_cut text None = option_map (λ kind. (kind, false)) (kind_read text)
    at_cut text (Some words) = do
      kind ← kind_read words.0
      if_word (codes "qu") words.1 (kind, true)

-- the question that a text spells
unfoldable pub question_in : List ℕ → Option Question
question_in text = do
  name ← cut_of 32 text
  n ← name_in name.0
  kind ← kind_in name.1
  Some (record { name = n; kind = kind.0; unicast = kind.1 })

-- the record that a text spells, of a section
abbrev pub record_in : Section → List ℕ → Option Line
record_in section text = option_map (λ rr. lines.Record section rr) (rr_in text)

-- a line that begins with two spaces
abbrev pub inner_line : List ℕ → Option Line
inner_line text =
    or_else (after (codes "? ") text) (λ rest. option_map (λ question. lines.Question question) (question_in rest))
    (or_else (after (codes "a ") text) (record_in Answers)
    (or_else (after (codes "n ") text) (record_in Authority)
    (or_else (after (codes "x ") text) (record_in Additional)
    (option_map (λ item. lines.Item item) (item_in text)))))

-- a line, by the signs with which it begins
abbrev pub line_in : List ℕ → Option Line
line_in text =
    or_else (after (codes "@") text) head_in
    (or_else (after (codes " ! ") text) (λ rest. option_map (λ mark. lines.Mark mark) (mark_in rest))
    (or_else (after (codes " > ") text) sent_in
    (or_else (after (codes " < ") text) (λ rest. option_map (λ given. lines.Given given) (given_in rest))
    (or_else (after (codes " = ") text) outcome_in
    (or_else (after (codes "  ") text) inner_line None)))))

-- the line whose text this is without its line feed
abbrev pub line_read : List ℕ → Option Line
line_read text = do
  read ← line_in text
  when (bytes_eq (line_text read) (line text)) read
