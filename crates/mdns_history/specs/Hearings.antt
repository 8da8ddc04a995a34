-- What was heard: messages that aren't ignored, and the records in them that may be cached. (RFC 6762 6, 7.1 and 18)
use Rattle.std.specs.Prelude.{ℕ, ◌==◌, Bool, true, false, not, ◌&&◌, ◌||◌, List, [], ◌++◌, map, reverse, Option, Some, None, Result, Ok, Err, if◌then◌else◌}
use Rattle.std.specs.List.{flat_map}
use Rattle.mdns_base.specs.Hosts.{mdns_port}
use Rattle.mdns_base.specs.declared.host.Host.{Host}
use Rattle.dns_record.specs.declared.record.Rr.{Rr}
use Rattle.dns_message.specs.declared.message.Message.{Message}
use Rattle.dns_message.specs.declared.message.MessageError.{MessageError}
use Rattle.dns_message.specs.Reading.{spelled}
use Rattle.mdns_history.specs.declared.event.Event.{Event}
use Rattle.mdns_history.specs.declared.event.Event.TheVariants as event
use Rattle.mdns_history.specs.declared.mark.Mark.{Mark}
use Rattle.mdns_history.specs.declared.mark.Mark.TheVariants as mark
use Rattle.mdns_history.specs.declared.entry.Entry.{Entry}
use Rattle.mdns_history.specs.History.{has_mark}

-- a message and who sent it
pub record Heard : Type 0 where
  pub from : Host
  pub message : Message

-- A message with an opcode or a response code is ignored, and so is a response from another port than 5353.
abbrev pub is_ignored : Host → Message → Bool
is_ignored from message = not (message.opcode == 0) || not (message.rcode == 0) || (message.response && not (from.port == mdns_port))

-- what a host said, unless it is no message or is ignored
abbrev pub counted : Host → Result Message MessageError → Option Heard
counted from (Ok message) = if is_ignored from message then None else Some (record { from = from; message = message })
counted from (Err e) = None

-- the message that an event brings
abbrev pub brought : Event → Option Heard
brought (event.Hear from bytes) = counted from (spelled bytes)
brought _ = None

-- A packet that was refused, or for which there was no room, counts as not heard.
abbrev pub is_refusal : Mark → Bool
is_refusal (mark.Bad number) = true
is_refusal mark.Full = true
is_refusal _ = false

-- the message that an entry heard
unfoldable pub heard_in : Entry → Option Heard
heard_in entry = if has_mark is_refusal entry then None else brought entry.event

-- the records of a response that count: the answer section, then the additional one
abbrev pub counted_records : Option Heard → List Rr
counted_records None = []
counted_records (Some heard) = if heard.message.response then heard.message.answers ++ heard.message.additional else []

-- the query that an entry heard
abbrev pub query_of : Option Heard → Option Heard
query_of None = None
query_of (Some heard) = if heard.message.response then None else Some heard

-- a record that was heard, with the moment and the word of its entry
pub record Hearing : Type 0 where
  pub rr : Rr
  pub moment : ℕ
  pub word : ℕ

-- a record that an entry heard
abbrev pub hearing_of : Entry → Rr → Hearing
hearing_of entry rr = record { rr = rr; moment = entry.moment; word = entry.word }

-- the hearings of an entry, the last first
abbrev pub hearings_in : Entry → List Hearing
hearings_in entry = reverse (map (hearing_of entry) (counted_records (heard_in entry)))

-- all hearings, the last first
unfoldable pub hearings : List Entry → List Hearing
hearings history = flat_map hearings_in history
