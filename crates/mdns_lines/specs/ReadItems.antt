-- Marks, items and outcomes read from text.
use Rattle.std.specs.Prelude.{ℕ, ◌^◌, List, ◌++◌, Option, Some, None, codes, if◌then◌else◌}
use Rattle.std.specs.Option.{option_map}
use Rattle.std.specs.Str.{bytes_eq}
use Rattle.number_text.specs.Cut.{cut_of}
use Rattle.number_text.specs.Digits.{◌>>=◌, decimal_of, decimal_below, hex_of}
use Rattle.dns_record.specs.declared.record.Rr.{Rr}
use Rattle.dns_record.specs.ReadRecord.{kind_read, record_read}
use Rattle.sd_call.specs.declared.request.Verb.{Verb}
use Rattle.sd_call.specs.declared.request.Verb.TheVariants as verb
use Rattle.sd_call.specs.declared.answer.Answer.{Answer}
use Rattle.sd_call.specs.declared.answer.Answer.TheVariants.{Datum, Found, Resolved, Named, Conflict}
use Rattle.sd_call.specs.declared.item.Item.{Item}
use Rattle.sd_call.specs.declared.item.Item.TheVariants.{Reply, Add, Remove}
use Rattle.mdns_history.specs.declared.mark.Cause.{Cause}
use Rattle.mdns_history.specs.declared.mark.Cause.TheVariants as cause
use Rattle.mdns_history.specs.declared.mark.Mark.{Mark}
use Rattle.mdns_history.specs.declared.mark.Mark.TheVariants as mark
use Rattle.mdns_history.specs.declared.entry.Given.{Given}
use Rattle.mdns_script.specs.Tokens.{text_of}
use Rattle.mdns_print.specs.declared.line.Ending.{Ending}
use Rattle.mdns_print.specs.declared.line.Ending.TheVariants as ending
use Rattle.mdns_print.specs.declared.line.Line.{Line}
use Rattle.mdns_print.specs.declared.line.Line.TheVariants as lines
use Rattle.mdns_lines.specs.Words.{name_in, signed_in, if_word}

-- why a question counts as asked
abbrev pub cause_in : List ℕ → Option Cause
cause_in word =
    if bytes_eq word (codes "series") then Some cause.Series
    else if bytes_eq word (codes "refresh") then Some cause.Refresh
    else if_word (codes "heard") word cause.Heard

-- after `asked `: `NAME KIND CAUSE`
unfoldable pub asked_in : List ℕ → Option Mark
asked_in text = do
  name ← cut_of 32 text
  kind ← cut_of 32 name.1
  n ← name_in name.0
  k ← kind_read kind.0
  cause ← cause_in kind.1
  Some (mark.Asked (record { name = n; kind = k }) cause)

-- after `renamed `: `GROUP NUMBER`
unfoldable pub renamed_in : List ℕ → Option Mark
renamed_in text = do
  group ← cut_of 32 text
  g ← decimal_of group.0
  n ← decimal_below (2 ^ 32) group.1
  Some (mark.Renamed g n)

-- a mark that has the number of a group or of a session
abbrev pub mark_of_group : List ℕ → ℕ → Option Mark
mark_of_group word n =
    if bytes_eq word (codes "announced") then Some (mark.Announced n)
    else if bytes_eq word (codes "contested") then Some (mark.Contested n)
    else if bytes_eq word (codes "tielost") then Some (mark.TieLost n)
    else if bytes_eq word (codes "failed") then Some (mark.Failed n)
    else if_word (codes "cut") word (mark.Cut n)

-- a mark by its first word, and what follows that
abbrev pub mark_of_words : List ℕ → List ℕ → Option Mark
mark_of_words word rest =
    if bytes_eq word (codes "asked") then asked_in rest
    else if bytes_eq word (codes "renamed") then renamed_in rest
    else if bytes_eq word (codes "bad") then option_map (λ n. mark.Bad n) (decimal_below (2 ^ 8) rest)
    else decimal_of rest >>= mark_of_group word

-- the mark that a text spells
abbrev pub mark_in : List ℕ → Option Mark
mark_in text = at_cut text (cut_of 32 text)
  where
    at_cut : List ℕ → Option (List ℕ × List ℕ) → Option Mark
    at_cut text None = if_word (codes "full") text mark.Full
    at_cut text (Some words) = mark_of_words words.0 words.1

-- the record that bytes spell
abbrev pub rr_in : List ℕ → Option Rr
rr_in bytes = text_of bytes >>= record_read

-- the data of a record whose type and data a text spells
abbrev pub datum_in : List ℕ → Option Answer
datum_in text = option_map (λ rr. Datum rr.rdata) (rr_in (codes ". 0 - " ++ text))

-- after `resolved `: priority, weight, port and target, and the text of the TXT data
unfoldable pub resolved_words : List ℕ → Option (ℕ × ℕ × ℕ × List (List ℕ) × List ℕ)
resolved_words text = do
  priority ← cut_of 32 text
  weight ← cut_of 32 priority.1
  port ← cut_of 32 weight.1
  target ← cut_of 32 port.1
  p ← decimal_below (2 ^ 16) priority.0
  w ← decimal_below (2 ^ 16) weight.0
  o ← decimal_below (2 ^ 16) port.0
  name ← name_in target.0
  Some (p, w, o, name, target.1)

-- after `resolved `: priority, weight, port, target and TXT data
unfoldable pub resolved_in : List ℕ → Option Answer
resolved_in text = do
  words ← resolved_words text
  txt ← hex_of words.4
  Some (Resolved words.0 words.1 words.2 words.3 txt)

-- an answer by its first word, and what follows that
abbrev pub answer_of_words : List ℕ → List ℕ → List ℕ → Option Answer
answer_of_words text word rest =
    if bytes_eq word (codes "found") then option_map (λ name. Found name) (name_in rest)
    else if bytes_eq word (codes "resolved") then resolved_in rest
    else if bytes_eq word (codes "named") then option_map (λ name. Named name) (name_in rest)
    else datum_in text

-- the answer that a text spells
abbrev pub answer_in : List ℕ → Option Answer
answer_in text = at_cut text (cut_of 32 text)
  where
    at_cut : List ℕ → Option (List ℕ × List ℕ) → Option Answer
    at_cut text None = if_word (codes "conflict") text Conflict
    at_cut text (Some words) = answer_of_words text words.0 words.1

-- what a reply answers
abbrev pub verb_in : List ℕ → Option Verb
verb_in word =
    if bytes_eq word (codes "start") then Some verb.Start
    else if bytes_eq word (codes "update") then Some verb.Update
    else if_word (codes "stop") word verb.Stop

-- after `reply `: `OP VERB CODE`
unfoldable pub reply_in : List ℕ → Option Item
reply_in text = do
  op ← cut_of 32 text
  verb ← cut_of 32 op.1
  o ← decimal_below (2 ^ 32) op.0
  v ← verb_in verb.0
  code ← signed_in verb.1
  Some (Reply o v code)

-- `OP ANSWER`
abbrev pub change_in : List ℕ → Option (ℕ × Answer)
change_in text = do
  op ← cut_of 32 text
  o ← decimal_below (2 ^ 32) op.0
  answer ← answer_in op.1
  Some (o, answer)

-- an item by its first word, and what follows that
abbrev pub item_of_words : List ℕ → List ℕ → Option Item
item_of_words word rest =
    if bytes_eq word (codes "reply") then reply_in rest
    else if bytes_eq word (codes "add") then option_map (λ change. Add change.0 change.1) (change_in rest)
    else if bytes_eq word (codes "rem") then option_map (λ change. Remove change.0 change.1) (change_in rest)
    else None

-- the item that a text spells
abbrev pub item_in : List ℕ → Option Item
item_in text = cut_of 32 text >>= λ words. item_of_words words.0 words.1

-- the session and the item that a text spells
abbrev pub given_in : List ℕ → Option Given
given_in text = do
  words ← cut_of 32 text
  session ← decimal_of words.0
  item ← item_in words.1
  Some (record { session = session; item = item })

-- an outcome of one word
abbrev pub plain_ending : List ℕ → Option Ending
plain_ending text =
    if bytes_eq text (codes "full") then Some ending.Full
    else if bytes_eq text (codes "ended") then Some ending.Ended
    else if bytes_eq text (codes "closed") then Some ending.Closed
    else if bytes_eq text (codes "cut") then Some ending.Cut
    else if_word (codes "empty") text ending.Empty

-- an outcome by its first word, and what follows that
abbrev pub outcome_of_words : List ℕ → List ℕ → Option Line
outcome_of_words word rest =
    if bytes_eq word (codes "opened") then option_map (λ session. lines.Ending (ending.Opened session)) (decimal_of rest)
    else if bytes_eq word (codes "code") then option_map (λ code. lines.Ending (ending.Code code)) (signed_in rest)
    else if bytes_eq word (codes "items") then option_map (λ count. lines.Count count) (decimal_of rest)
    else None

-- the outcome that a text spells
abbrev pub outcome_in : List ℕ → Option Line
outcome_in text = at_cut text (cut_of 32 text)
  where
    at_cut : List ℕ → Option (List ℕ × List ℕ) → Option Line
    at_cut text None = option_map (λ ending. lines.Ending ending) (plain_ending text)
    at_cut text (Some words) = outcome_of_words words.0 words.1
