-- Held records in another order bring a session the same.
use Rattle.std.proofs.Common.{◌≡◌, true, cond, List, ◌++◌, map}
use Rattle.std.specs.List.Sorted.{IsPermutation}
use Rattle.std.proofs.lemmas.List.Sorted.{IsPermutation-map, IsPermutation-append_left}
use Rattle.sd_call.specs.Requests.{is_register}
use Rattle.sd_answer.specs.Known.{rrs_of}
use Rattle.sd_answer.specs.Laws.{have_data}
use Rattle.sd_answer.proofs.Members.{order_free}
use Rattle.mdns_history.specs.declared.event.Event.{Event}
use Rattle.mdns_history.specs.declared.entry.Outcome.{Outcome}
use Rattle.mdns_history.specs.declared.held.Held.{Held}
use Rattle.sd_sessions.specs.Answered.{Answering, View, known, answered}
use Rattle.sd_sessions.specs.Sessions.{Session}
use Rattle.sd_sessions.specs.Settling.{change_for}

-- the same view with its held records in another order
abbrev pub with_held : View → List Held → View
with_held view held = record view { held = held }

-- The answers don't depend on the order of the held records.
pub same-answers : (view : View) (held : List Held) → have_data (known view) ≡ true → IsPermutation view.held held → ◌≡◌ {A = Answering} (answered view) (answered (with_held view held))
same-answers view held is_data moved = λ i o. cond (is_register o.request) (view.registered o.session o.op) (order_free o.request (known view) (rrs_of held ++ view.own) is_data all_moved i)
  where
    all_moved : IsPermutation (rrs_of view.held ++ view.own) (rrs_of held ++ view.own)
    all_moved = IsPermutation-append_left view.own (rrs_of view.held) (rrs_of held) (IsPermutation-map (λ (one : Held). one.rr) view.held held moved)

-- The changes of sessions don't depend on the order of the held records before and after.
pub changes-permuted : (ev : Event) (outcome : Outcome) (before after : View) (one other : List Held) → have_data (known before) ≡ true → have_data (known after) ≡ true →
    IsPermutation before.held one → IsPermutation after.held other → (sessions : List Session) →
    map (change_for ev outcome (answered before) (answered after)) sessions ≡ map (change_for ev outcome (answered (with_held before one)) (answered (with_held after other))) sessions
changes-permuted ev outcome before after one other data_before data_after moved_before moved_after sessions =
    λ i. map (change_for ev outcome (same-answers before one data_before moved_before i) (same-answers after other data_after moved_after i)) sessions
