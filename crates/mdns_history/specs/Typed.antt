-- What the types of the code allow, said of numbers and lists that could be any, and which entries their texts tell apart.
use Rattle.std.specs.Prelude.{◌≡◌, ℕ, ℤ, pos, negsuc, ◌==◌, nat_le, Bool, true, not, ◌&&◌, List, length, Option, Some, None, if◌then◌else◌}
use Rattle.std.specs.List.{list_all, flat_map}
use Rattle.mdns_base.specs.declared.host.Host.{Host}
use Rattle.mdns_base.specs.declared.host.Dest.{Dest}
use Rattle.mdns_base.specs.declared.host.Dest.TheVariants.{All, One}
use Rattle.dns_name.specs.Names.{is_label}
use Rattle.dns_message.specs.declared.message.Message.{Message}
use Rattle.dns_message.specs.Writing.{is_below, are_bytes, is_spellable_name, is_spellable_data, is_spellable}
use Rattle.sd_call.specs.declared.request.Request.{Request}
use Rattle.sd_call.specs.declared.request.Request.TheVariants as request
use Rattle.sd_call.specs.declared.answer.Answer.{Answer}
use Rattle.sd_call.specs.declared.answer.Answer.TheVariants.{Datum, Found, Resolved, Named, Conflict}
use Rattle.sd_call.specs.declared.item.Item.{Item}
use Rattle.sd_call.specs.declared.item.Item.TheVariants.{Reply, Add, Remove}
use Rattle.mdns_history.specs.declared.config.HostConfig.{HostConfig}
use Rattle.mdns_history.specs.declared.event.Event.{Event}
use Rattle.mdns_history.specs.declared.event.Event.TheVariants as event
use Rattle.mdns_history.specs.declared.mark.Mark.{Mark}
use Rattle.mdns_history.specs.declared.mark.Mark.TheVariants as mark
use Rattle.mdns_history.specs.declared.entry.Sent.{Sent}
use Rattle.mdns_history.specs.declared.entry.Given.{Given}
use Rattle.mdns_history.specs.declared.entry.Outcome.{Outcome}
use Rattle.mdns_history.specs.declared.entry.Outcome.TheVariants as outcome
use Rattle.mdns_history.specs.declared.entry.Entry.{Entry}
use Rattle.mdns_history.specs.EntryText.{entry_text}

-- a signed number of 32 bits
abbrev pub is_signed : ℤ → Bool
is_signed (pos n) = is_below 31 n
is_signed (negsuc n) = is_below 31 n

-- text of a client: at most 1024 bytes
abbrev pub is_text : List ℕ → Bool
is_text text = are_bytes text && nat_le (length text) 1024

-- an address and a port
abbrev pub is_typed_host : Host → Bool
is_typed_host host = is_below 32 host.ip && is_below 16 host.port

-- where a message goes
abbrev pub is_typed_dest : Dest → Bool
is_typed_dest All = true
is_typed_dest (One host) = is_typed_host host

-- an IPv6 address, if there is one
abbrev pub is_typed_v6 : Option ℕ → Bool
is_typed_v6 None = true
is_typed_v6 (Some v6) = is_below 128 v6

-- the host of a configuration, if it has one
abbrev pub is_typed_label : Option HostConfig → Bool
is_typed_label None = true
is_typed_label (Some host) = is_label host.label && are_bytes host.label && is_typed_v6 host.v6

-- a request
abbrev pub is_typed_request : Request → Bool
is_typed_request (request.Query kind name) = is_below 16 kind && is_spellable_name name
is_typed_request (request.Browse regtype) = is_text regtype
is_typed_request (request.Resolve label regtype) = is_text label && is_text regtype
is_typed_request (request.Address families name) = is_below 8 families && is_spellable_name name
is_typed_request (request.Register label regtype port norename txt) = is_text label && is_text regtype && is_below 16 port && are_bytes txt
is_typed_request (request.Update txt) = are_bytes txt
is_typed_request request.Stop = true

-- an answer
abbrev pub is_typed_answer : Answer → Bool
is_typed_answer (Datum rdata) = is_spellable_data rdata
is_typed_answer (Found instance) = is_spellable_name instance
is_typed_answer (Resolved priority weight port target txt) = is_below 16 priority && is_below 16 weight && is_below 16 port && is_spellable_name target && are_bytes txt
is_typed_answer (Named full) = is_spellable_name full
is_typed_answer Conflict = true

-- an item
abbrev pub is_typed_item : Item → Bool
is_typed_item (Reply op verb code) = is_below 32 op && is_signed code
is_typed_item (Add op answer) = is_below 32 op && is_typed_answer answer
is_typed_item (Remove op answer) = is_below 32 op && is_typed_answer answer

-- an event
abbrev pub is_typed_event : Event → Bool
is_typed_event (event.Boot config) = is_below 32 config.address && is_typed_label config.host
is_typed_event event.Attach = true
is_typed_event (event.Detach session) = is_below 64 session
is_typed_event (event.Call session op request) = is_below 64 session && is_below 32 op && is_typed_request request
is_typed_event (event.Hear from bytes) = is_typed_host from && are_bytes bytes
is_typed_event event.Tick = true
is_typed_event (event.Take session max) = is_below 64 session && is_below 32 max

-- a mark
abbrev pub is_typed_mark : Mark → Bool
is_typed_mark (mark.Bad number) = is_below 8 number
is_typed_mark mark.Full = true
is_typed_mark (mark.Renamed group number) = is_below 64 group && is_below 32 number
is_typed_mark (mark.Contested group) = is_below 64 group
is_typed_mark (mark.TieLost group) = is_below 64 group
is_typed_mark (mark.Failed group) = is_below 64 group
is_typed_mark (mark.Asked question cause) = is_below 16 question.kind && is_spellable_name question.name
is_typed_mark (mark.Announced group) = is_below 64 group
is_typed_mark (mark.Cut session) = is_below 64 session

-- a message that is sent
abbrev pub is_typed_sent : Sent → Bool
is_typed_sent sent = is_typed_dest sent.to && is_spellable sent.message

-- an item with its session
abbrev pub is_typed_given : Given → Bool
is_typed_given given = is_below 64 given.session && is_typed_item given.item

-- an outcome
abbrev pub is_typed_outcome : Outcome → Bool
is_typed_outcome (outcome.Opened session) = is_below 64 session
is_typed_outcome (outcome.Code code) = is_signed code
is_typed_outcome (outcome.Items items) = list_all is_typed_item items && is_below 64 (length items)
is_typed_outcome _ = true

-- an entry
unfoldable pub is_typed_entry : Entry → Bool
is_typed_entry entry =
    is_below 64 entry.moment && is_below 32 entry.word && is_typed_event entry.event && list_all is_typed_mark entry.marks
    && list_all is_typed_sent entry.sent && list_all is_typed_given entry.given && is_typed_outcome entry.outcome

-- The header of a message that a daemon writes: opcode and response code are 0, and the authority bit is that of a response. (RFC 6762 18)
abbrev pub has_written_header : Message → Bool
has_written_header m = (m.opcode == 0) && (m.rcode == 0) && (if m.response then m.authoritative else not m.authoritative)

-- an entry of these types whose sent messages have such headers
abbrev pub is_printable : Entry → Bool
is_printable entry = is_typed_entry entry && list_all (λ sent. has_written_header sent.message) entry.sent

-- an entry and the number of its daemon
pub record Printed : Type 0 where
  pub daemon : ℕ
  pub entry : Entry

-- whether both are as the types of the code allow
abbrev pub is_printed : Printed → Bool
is_printed printed = is_below 32 printed.daemon && is_printable printed.entry

-- the text of entries, one behind the other
abbrev pub printed_text : List Printed → List ℕ
printed_text entries = flat_map (λ printed. entry_text printed.daemon printed.entry) entries

-- Entries that have one text are the same entries, of the same daemons.
abbrev pub IsOneToOne : Type 0
IsOneToOne = (left right : List Printed) → list_all is_printed left ≡ true → list_all is_printed right ≡ true → printed_text left ≡ printed_text right → left ≡ right
