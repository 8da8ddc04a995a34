-- What an entry gives isn't seen by what is said of the history with it.
use Rattle.mdns_history.proofs.AllOpen.{all_open}
use Rattle.std.proofs.Common.{◌≡◌, ℕ, List, [], ◌∷◌, refl}
use Rattle.mdns_history.specs.declared.entry.Given.{Given}
use Rattle.mdns_history.specs.declared.entry.Entry.{Entry}
use Rattle.mdns_history.specs.declared.mark.Mark.{Mark}
use Rattle.mdns_history.specs.declared.entry.Sent.{Sent}
use Rattle.mdns_history.specs.declared.entry.Outcome.{Outcome}
use Rattle.mdns_history.specs.declared.event.Event.{Event}
use Rattle.mdns_history.specs.declared.event.Event.TheVariants as event
use Rattle.mdns_history.specs.Outcomes.{late_outcome}
use Rattle.mdns_history.specs.Sessions.{Operation, operations_of}
use Rattle.mdns_history.specs.Hearings.{hearings}
use Rattle.mdns_history.specs.Groups.{groups}
use Rattle.mdns_history.specs.Sureness.{own_records}
use Rattle.mdns_history.specs.Answers.{answers}
use Rattle.mdns_history.specs.Items.{change_items}
use Rattle.mdns_history.specs.Replays.{answer_sets}

-- an entry that gives something else
abbrev pub giving : Entry → List Given → Entry
giving entry given = record entry { given = given }

operations_of-giving : (session : ℕ) (entry : Entry) (given : List Given) (past : List Entry) → operations_of session (giving entry given ∷ past) ≡ operations_of session (entry ∷ past)
unfolding operations_of
operations_of-giving session entry given past = refl

hearings-giving : (entry : Entry) (given : List Given) (past : List Entry) → hearings (giving entry given ∷ past) ≡ hearings (entry ∷ past)
unfolding all_open
hearings-giving entry given past = refl

groups-giving : (entry : Entry) (given : List Given) (past : List Entry) → groups (giving entry given ∷ past) ≡ groups (entry ∷ past)
unfolding all_open
groups-giving entry given past = refl

own_records-giving : (entry : Entry) (given : List Given) (past : List Entry) → own_records (giving entry given ∷ past) ≡ own_records (entry ∷ past)
unfolding all_open
own_records-giving entry given past = refl

answers-giving : (operation : Operation) (entry : Entry) (given : List Given) (past : List Entry) → answers operation (giving entry given ∷ past) ≡ answers operation (entry ∷ past)
unfolding all_open
answers-giving operation entry given past = refl

-- so what it gives may be found before it is put in
change_items-giving : (session : ℕ) (entry : Entry) (given : List Given) (past : List Entry) → change_items session (giving entry given) past ≡ change_items session entry past
unfolding all_open
change_items-giving session entry given past = refl

-- an entry from its parts
abbrev pub entry_with : ℕ → ℕ → List Mark → List Sent → List Given → Event → Outcome → Entry
entry_with moment word marks sent given event outcome = record { moment = moment; word = word; event = event; marks = marks; sent = sent; given = given; outcome = outcome }

-- The outcome of a take, which is known last, isn't seen either.
answers-late : (operation : Operation) (moment word : ℕ) (marks : List Mark) (sent : List Sent) (given : List Given) (event : Event) (early : Outcome) (history past : List Entry) →
    answers operation (entry_with moment word marks sent given event (late_outcome event early history) ∷ past)
    ≡ answers operation (entry_with moment word marks sent given event early ∷ past)
unfolding all_open
answers-late operation moment word marks sent given (event.Boot config) early history past = refl
answers-late operation moment word marks sent given event.Attach early history past = refl
answers-late operation moment word marks sent given (event.Detach session) early history past = refl
answers-late operation moment word marks sent given (event.Call session op request) early history past = refl
answers-late operation moment word marks sent given (event.Hear from bytes) early history past = refl
answers-late operation moment word marks sent given event.Tick early history past = refl
answers-late operation moment word marks sent given (event.Take session max) early history past = refl

-- so the sets and the operations are those of the entry before its items and a take's outcome are put in
pub answer_sets-late : (session : ℕ) (moment word : ℕ) (marks : List Mark) (sent : List Sent) (given : List Given) (event : Event) (early : Outcome) (history past : List Entry) →
    answer_sets session (entry_with moment word marks sent given event (late_outcome event early history) ∷ past) ≡ answer_sets session (entry_with moment word marks sent [] event early ∷ past)
unfolding all_open
answer_sets-late session moment word marks sent given (event.Boot config) early history past = refl
answer_sets-late session moment word marks sent given event.Attach early history past = refl
answer_sets-late session moment word marks sent given (event.Detach other) early history past = refl
answer_sets-late session moment word marks sent given (event.Call other op request) early history past = refl
answer_sets-late session moment word marks sent given (event.Hear from bytes) early history past = refl
answer_sets-late session moment word marks sent given event.Tick early history past = refl
answer_sets-late session moment word marks sent given (event.Take other max) early history past = refl

pub operations_of-late : (session : ℕ) (moment word : ℕ) (marks : List Mark) (sent : List Sent) (given : List Given) (event : Event) (early : Outcome) (history past : List Entry) →
    operations_of session (entry_with moment word marks sent given event (late_outcome event early history) ∷ past) ≡ operations_of session (entry_with moment word marks sent [] event early ∷ past)
unfolding all_open
operations_of-late session moment word marks sent given (event.Boot config) early history past = refl
operations_of-late session moment word marks sent given event.Attach early history past = refl
operations_of-late session moment word marks sent given (event.Detach other) early history past = refl
operations_of-late session moment word marks sent given (event.Call other op request) early history past = refl
operations_of-late session moment word marks sent given (event.Hear from bytes) early history past = refl
operations_of-late session moment word marks sent given event.Tick early history past = refl
operations_of-late session moment word marks sent given (event.Take other max) early history past = refl
