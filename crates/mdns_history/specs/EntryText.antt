-- Entries as text, each line with a line feed: the head, the marks, the sent messages, the items given, and the outcome.
use Rattle.std.specs.Prelude.{ℕ, Bool, true, false, List, [], ◌∷◌, ◌++◌, length, decimal, codes, Option, Some, None}
use Rattle.std.specs.List.{flat_map}
use Rattle.std.specs.Fmt.{signed_decimal}
use Rattle.number_text.specs.Digits.{hex_text, ipv4_text, ipv6_text}
use Rattle.mdns_base.specs.declared.host.Host.{Host}
use Rattle.mdns_base.specs.declared.host.Dest.{Dest}
use Rattle.mdns_base.specs.declared.host.Dest.TheVariants.{All, One}
use Rattle.dns_name.specs.NameText.{name_text}
use Rattle.dns_record.specs.RecordText.{space, kind_text, record_text}
use Rattle.dns_record.specs.declared.record.Rr.{Rr}
use Rattle.dns_record.specs.declared.record.Question.{Question}
use Rattle.dns_message.specs.declared.message.Message.{Message}
use Rattle.sd_call.specs.CallText.{request_text, item_text, label_token}
use Rattle.sd_call.specs.declared.item.Item.{Item}
use Rattle.mdns_history.specs.declared.config.HostConfig.{HostConfig}
use Rattle.mdns_history.specs.declared.event.Event.{Event}
use Rattle.mdns_history.specs.declared.event.Event.TheVariants as event
use Rattle.mdns_history.specs.declared.mark.Cause.{Cause}
use Rattle.mdns_history.specs.declared.mark.Cause.TheVariants as cause
use Rattle.mdns_history.specs.declared.mark.Mark.{Mark}
use Rattle.mdns_history.specs.declared.mark.Mark.TheVariants as mark
use Rattle.mdns_history.specs.declared.entry.Sent.{Sent}
use Rattle.mdns_history.specs.declared.entry.Given.{Given}
use Rattle.mdns_history.specs.declared.entry.Outcome.{Outcome}
use Rattle.mdns_history.specs.declared.entry.Outcome.TheVariants as outcome
use Rattle.mdns_history.specs.declared.entry.Entry.{Entry}

-- a text and the line feed behind it
abbrev pub line : List ℕ → List ℕ
line text = text ++ 10 ∷ []

-- an IPv6 address behind a space, if there is one
abbrev pub v6_text : Option ℕ → List ℕ
v6_text None = []
v6_text (Some v6) = space ++ ipv6_text v6

-- a host behind a space, if there is one
abbrev pub host_text : Option HostConfig → List ℕ
host_text None = []
host_text (Some host) = space ++ label_token host.label ++ v6_text host.v6

-- an address and a port
abbrev pub from_text : Host → List ℕ
from_text host = ipv4_text host.ip ++ space ++ decimal host.port

-- an event
abbrev pub event_text : Event → List ℕ
event_text (event.Boot config) = codes "boot " ++ ipv4_text config.address ++ host_text config.host
event_text event.Attach = codes "open"
event_text (event.Detach session) = codes "close " ++ decimal session
event_text (event.Call session op request) = codes "call " ++ decimal session ++ space ++ decimal op ++ space ++ request_text request
event_text (event.Hear from bytes) = codes "hear " ++ from_text from ++ space ++ hex_text bytes
event_text event.Tick = codes "tick"
event_text (event.Take session max) = codes "take " ++ decimal session ++ space ++ decimal max

-- why a question counts as asked
abbrev pub cause_text : Cause → List ℕ
cause_text cause.Series = codes "series"
cause_text cause.Refresh = codes "refresh"
cause_text cause.Heard = codes "heard"

-- a mark
abbrev pub mark_text : Mark → List ℕ
mark_text (mark.Bad number) = codes "bad " ++ decimal number
mark_text mark.Full = codes "full"
mark_text (mark.Renamed group number) = codes "renamed " ++ decimal group ++ space ++ decimal number
mark_text (mark.Contested group) = codes "contested " ++ decimal group
mark_text (mark.TieLost group) = codes "tielost " ++ decimal group
mark_text (mark.Failed group) = codes "failed " ++ decimal group
mark_text (mark.Asked question cause) = codes "asked " ++ name_text question.name ++ space ++ kind_text question.kind ++ space ++ cause_text cause
mark_text (mark.Announced group) = codes "announced " ++ decimal group
mark_text (mark.Cut session) = codes "cut " ++ decimal session

-- the line of a mark
abbrev pub mark_line : Mark → List ℕ
mark_line m = line (codes " ! " ++ mark_text m)

-- where a message goes
abbrev pub dest_text : Dest → List ℕ
dest_text All = codes "all"
dest_text (One host) = from_text host

-- whether a message is a reply or a query
abbrev pub way_text : Bool → List ℕ
way_text true = codes " reply "
way_text false = codes " query "

-- a word where a flag is set
abbrev pub word_if : Bool → List ℕ → List ℕ
word_if true word = word
word_if false word = []

-- the line of a question
abbrev pub question_line : Question → List ℕ
question_line q = line (codes "  ? " ++ name_text q.name ++ space ++ kind_text q.kind ++ word_if q.unicast (codes " qu"))

-- the records of a section, each behind the section's letter
abbrev pub section_lines : List ℕ → List Rr → List ℕ
section_lines letter rrs = flat_map (λ rr. line (codes "  " ++ letter ++ space ++ record_text rr)) rrs

-- the lines of a message behind its head
abbrev pub message_lines : Message → List ℕ
message_lines m =
    flat_map question_line m.questions ++ section_lines (codes "a") m.answers ++ section_lines (codes "n") m.authority ++ section_lines (codes "x") m.additional

-- the lines of a sent message
abbrev pub sent_lines : Sent → List ℕ
sent_lines sent =
    line (codes " > " ++ dest_text sent.to ++ way_text sent.message.response ++ decimal sent.message.id ++ word_if sent.message.truncated (codes " tc"))
    ++ message_lines sent.message

-- the line of a given item
abbrev pub given_line : Given → List ℕ
given_line g = line (codes " < " ++ decimal g.session ++ space ++ item_text g.item)

-- the lines of taken items
abbrev pub item_lines : List Item → List ℕ
item_lines items = flat_map (λ item. line (codes "  " ++ item_text item)) items

-- the outcome behind its sign; Done has no line
abbrev pub outcome_line : List ℕ → List ℕ
outcome_line text = line (codes " = " ++ text)

-- the lines of an outcome
abbrev pub outcome_lines : Outcome → List ℕ
outcome_lines outcome.Done = []
outcome_lines (outcome.Opened session) = outcome_line (codes "opened " ++ decimal session)
outcome_lines outcome.Full = outcome_line (codes "full")
outcome_lines outcome.Ended = outcome_line (codes "ended")
outcome_lines outcome.Closed = outcome_line (codes "closed")
outcome_lines outcome.Cut = outcome_line (codes "cut")
outcome_lines (outcome.Code code) = outcome_line (codes "code " ++ signed_decimal code)
outcome_lines (outcome.Items items) = outcome_line (codes "items " ++ decimal (length items)) ++ item_lines items
outcome_lines outcome.Empty = outcome_line (codes "empty")

-- the first line of an entry
abbrev pub head_line : ℕ → Entry → List ℕ
head_line daemon entry =
    line (codes "@" ++ decimal entry.moment ++ codes " d" ++ decimal daemon ++ codes " w" ++ decimal entry.word ++ space ++ event_text entry.event)

-- an entry of a daemon
abbrev pub entry_text : ℕ → Entry → List ℕ
entry_text daemon entry =
    head_line daemon entry ++ flat_map mark_line entry.marks ++ flat_map sent_lines entry.sent ++ flat_map given_line entry.given ++ outcome_lines entry.outcome

-- a history of a daemon, from its first entry on
abbrev pub history_text : ℕ → List Entry → List ℕ
history_text daemon [] = []
history_text daemon (entry ∷ past) = history_text daemon past ++ entry_text daemon entry
