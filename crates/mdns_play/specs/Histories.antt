-- What holds of a history at each of its moments: of the items of its sessions, of its calls, of what it asserts, and of its groups.
use Rattle.std.specs.Prelude.{◌≡◌, ℕ, ◌+◌, ◌*◌, ◌≤◌, true, false, List, [], ◌∷◌, ◌++◌, length, Some}
use Rattle.sd_call.specs.Replay.{replay}
use Rattle.sd_call.specs.declared.request.Request.{Request}
use Rattle.mdns_history.specs.declared.event.Event.TheVariants as event
use Rattle.mdns_history.specs.declared.entry.Entry.{Entry}
use Rattle.mdns_history.specs.Sessions.{is_attached, is_cut}
use Rattle.mdns_history.specs.Items.{session_items, taken_items, queue}
use Rattle.mdns_history.specs.Replays.{answer_sets}
use Rattle.mdns_history.specs.Calls.{is_good_call, good_outcome}
use Rattle.mdns_history.specs.Groups.{groups}
use Rattle.mdns_history.specs.Outcomes.{most_sessions, most_operations}
use Rattle.mdns_asserts.specs.Earned.{IsEarned}
use Rattle.mdns_groups.specs.Registered.{AreRegistered}

-- A session's items, replayed, give exactly the answers of its operations, and they are those that it took and then those that are queued.
pub record IsServed (session : ℕ) (history : List Entry) : Type 0 where
  pub replayed : replay (session_items session history) ≡ Some (answer_sets session history)
  pub queued : session_items session history ≡ taken_items session history ++ queue session history

-- So it is, at every moment, of each session that is attached and not cut.
abbrev pub AreServedThroughout : List Entry → Type 0
AreServedThroughout [] = Unit {0}
AreServedThroughout (entry ∷ past) =
    ((session : ℕ) → is_attached session (entry ∷ past) ≡ true → is_cut session (entry ∷ past) ≡ false → IsServed session (entry ∷ past)) × AreServedThroughout past

-- Every call that is as it should be succeeds, but exactly where its session was cut, a limit is reached, or the name is held.
abbrev pub CallsSucceedThroughout : List Entry → Type 0
CallsSucceedThroughout [] = Unit {0}
CallsSucceedThroughout (entry ∷ past) =
    ((session op : ℕ) (request : Request) → entry.event ≡ event.Call session op request → is_good_call session op request past ≡ true → entry.outcome ≡ good_outcome session request past)
    × CallsSucceedThroughout past

-- What each entry asserts is earned: by three spaced, unanswered probes of the name, since it was last contested.
abbrev pub AreEarnedThroughout : List Entry → Type 0
AreEarnedThroughout [] = Unit {0}
AreEarnedThroughout (entry ∷ past) = IsEarned entry past × AreEarnedThroughout past

-- A live registration has one live group until that fails, every other live group is the host's, and there are no more than operations may be, and the host's.
abbrev pub HaveGroupsThroughout : List Entry → Type 0
HaveGroupsThroughout [] = Unit {0}
HaveGroupsThroughout (entry ∷ past) =
    AreRegistered (entry ∷ past) × (length (groups (entry ∷ past)) ≤ most_sessions * most_operations + 1) × HaveGroupsThroughout past
