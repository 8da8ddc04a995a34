-- What an entry touches: the names whose records it may change or must tell, and how many questions, names and records that are.
use Rattle.std.specs.Prelude.{ℕ, ◌+◌, Bool, not, ◌&&◌, List, [], ◌∷◌, ◌++◌, map, filter, length, Option, Some, None}
use Rattle.std.specs.List.{list_any, filter_map}
use Rattle.lists.specs.Lists.{each_once}
use Rattle.dns_name.specs.Names.{folded_eq}
use Rattle.dns_record.specs.declared.record.Rr.{Rr}
use Rattle.dns_record.specs.Records.{same}
use Rattle.dns_message.specs.declared.message.Message.{Message}
use Rattle.mdns_history.specs.declared.held.Held.{Held}
use Rattle.mdns_history.specs.declared.mark.Mark.{Mark}
use Rattle.mdns_history.specs.declared.mark.Mark.TheVariants as mark
use Rattle.mdns_history.specs.declared.entry.Entry.{Entry}
use Rattle.mdns_history.specs.History.{now}
use Rattle.mdns_history.specs.Hearings.{Heard, heard_in}
use Rattle.mdns_history.specs.Lifetimes.{is_live_at, live_records}
use Rattle.mdns_history.specs.Questions.{keys_of}
use Rattle.mdns_history.specs.Sessions.{Accepted, accepted_in}
use Rattle.mdns_history.specs.Sureness.{own_records, is_own}

-- all records of a message
abbrev pub message_records : Message → List Rr
message_records message = message.answers ++ message.authority ++ message.additional

-- how many questions and records a message has
abbrev pub message_size : Option Heard → ℕ
message_size None = 0
message_size (Some heard) = length heard.message.questions + length (message_records heard.message)

-- the names of its questions and records
abbrev pub message_names : Option Heard → List (List (List ℕ))
message_names None = []
message_names (Some heard) = map (λ question. question.name) heard.message.questions ++ map (λ rr. rr.owner) (message_records heard.message)

-- the names of the questions of the operation that a call starts
abbrev pub started_names : Option Accepted → List (List (List ℕ))
started_names None = []
started_names (Some call) = map (λ key. key.name) (keys_of call.request)

-- the name of a question that is asked
abbrev pub asked_name : Mark → Option (List (List ℕ))
asked_name (mark.Asked question cause) = Some question.name
asked_name _ = None

-- the records that were live before an entry and have ended by then
abbrev pub ended_records : Entry → List Entry → List Held
ended_records entry past = filter (λ held. not (is_live_at entry.moment held)) (live_records past (now past))

-- the records that an entry makes own, and those that cease to be own with it
abbrev pub moved_records : Entry → List Entry → List Rr
moved_records entry past = filter (λ rr. not (is_own rr past)) (own_records (entry ∷ past)) ++ filter (λ rr. not (is_own rr (entry ∷ past))) (own_records past)

-- The names that an entry touches: those of the questions and records of the message that is heard, of the questions of the operation that a call
-- starts, of the questions that are asked, and the owners of records that ended, and of those that became or ceased to be own.
abbrev pub all_touched : Entry → List Entry → List (List (List ℕ))
all_touched entry past =
    message_names (heard_in entry) ++ started_names (accepted_in entry) ++ filter_map asked_name entry.marks
    ++ map (λ (held : Held). held.rr.owner) (ended_records entry past) ++ map (λ (rr : Rr). rr.owner) (moved_records entry past)

-- the same, each once, case aside
unfoldable pub touched_names : Entry → List Entry → List (List (List ℕ))
touched_names entry past = each_once folded_eq (all_touched entry past)

-- a held record has a touched name
abbrev pub is_touched : Entry → List Entry → Held → Bool
is_touched entry past held = list_any (folded_eq held.rr.owner) (touched_names entry past)

-- a held record is the same as one of several
abbrev pub is_held_in : List Held → Held → Bool
is_held_in held one = list_any (λ (other : Held). same one.rr other.rr) held

-- the records with a touched name that are live before an entry, or with it
unfoldable pub touched_records : Entry → List Entry → List Held
touched_records entry past =
    let before = live_records past (now past) in
    filter (is_touched entry past) before ++ filter (λ one. is_touched entry past one && not (is_held_in before one)) (live_records (entry ∷ past) entry.moment)

-- How much an entry touches: the questions and records of the message that is heard, the touched names, and the records with such a name that are live
-- before it or with it.
unfoldable pub touched : Entry → List Entry → ℕ
touched entry past = message_size (heard_in entry) + length (touched_names entry past) + length (touched_records entry past)
