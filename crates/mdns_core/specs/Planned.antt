-- What a plan says of an event.
use Rattle.std.specs.Prelude.{◌≡◌, ℕ, ◌≤◌, true, List, ◌++◌, map, length, IsTrue}
use Rattle.std.specs.Option.{option_to_list}
use Rattle.dns_record.specs.declared.record.Rr.{Rr}
use Rattle.sd_answer.specs.Known.{rrs_of}
use Rattle.sd_answer.specs.Laws.{have_data}
use Rattle.mdns_history.specs.declared.event.Event.{Event}
use Rattle.mdns_history.specs.declared.held.Held.{Held}
use Rattle.mdns_history.specs.Hearings.{Hearing, brought, counted_records}
use Rattle.mdns_history.specs.Lifetimes.{room_for_records}
use Rattle.mdns_happened.specs.Told.{Told, told_of, told_by}
use Rattle.mdns_cache.specs.Lifetimes.{Holds}
use Rattle.mdns_records.specs.After.{held_after}
use Rattle.mdns_question.specs.Standing.{mark_of}
use Rattle.mdns_asking.specs.Kept.{HaveGaps}
use Rattle.mdns_asking.specs.Planned as asking
use Rattle.sd_sessions.specs.Planned as sessions
use Rattle.sd_sessions.specs.Answered.{answered}
use Rattle.sd_sessions.specs.Settling.{cuts_of, gifts_of}
use Rattle.mdns_core.specs.declared.plan.Plan.{Plan}
use Rattle.mdns_core.specs.declared.plan.Led.{Led}
use Rattle.mdns_core.specs.declared.plan.Traffic.{Traffic}
use Rattle.mdns_claims.specs.declared.plan.Plan.{Plan as ClaimsPlan}
use Rattle.mdns_question.specs.declared.tracked.Tracked.{Tracked}
use Rattle.mdns_question.specs.Refreshing.{AreTimed}
use Rattle.mdns_cache.specs.Lifetimes.{AllLive}
use Rattle.mdns_happened.specs.declared.walk.Walk.{Walk}
use Rattle.mdns_happened.specs.Walks.{AreWalks}
use Rattle.mdns_asking.specs.Walked as for_asking
use Rattle.sd_sessions.specs.Sessions.{Session}
use Rattle.mdns_core.specs.State.{State}
use Rattle.mdns_history.specs.declared.entry.Entry.{Entry}
use Rattle.mdns_history.specs.declared.entry.Sent.{Sent}
use Rattle.mdns_history.specs.Debts.{multicasts_in}
use Rattle.mdns_owing.specs.Owing.{query_told}
use Rattle.mdns_responding.specs.Told.{responses_told, announced_told}
use Rattle.mdns_core.specs.Viewed.{viewed, kept_outcome}
use Rattle.mdns_claims.specs.Owned.{own_in, is_ours}
use Rattle.mdns_claims.specs.Behind.{occasion_of, probes_told}
use Rattle.mdns_claims.specs.Planned as claiming
use Rattle.mdns_core.specs.Next.{IsHeard}
use Rattle.mdns_core.specs.Enough.{AreEnough, claims_told}

-- what is told of an event by its plan
abbrev pub told_in : Plan → Told
told_in plan = told_by plan.happened

-- What an event asks and sends: `queried` are the messages that go before responses, whatever is held before and after, so far as these are the walks.
pub record IsTraffic (told : Told) (now : ℕ) (sessions : List Session) (questions : List Tracked) (walks : List Walk) (probes responses : List Sent) (traffic : Traffic) : Type 0 where
  pub queried : List Sent
  pub asking : (held later : List Held) → AreTimed held questions → AreWalks held later walks → AllLive now later → for_asking.AreEnough told now questions held later walks
      → asking.IsPlan told now sessions questions later walks probes queried traffic.asking
  pub sent : traffic.sent ≡ queried ++ responses
  pub multicasts : (entry : Entry) → entry.sent ≡ traffic.sent → multicasts_in entry ≡ traffic.multicasts

-- What an event leads to behind what is kept, where `later` is what is held after it, and these are its walks and what is planned for claims.
pub record IsLed (state : State) (later : List Held) (now word : ℕ) (told : Told) (claimed : ClaimsPlan) (walks : List Walk) (led : Led) : Type 0 where
  pub queried : List Sent
  pub asking : asking.IsPlan told now state.sessions state.questions later walks (probes_told told.ticks state.claims.kept now) queried led.traffic.asking
  pub gaps : HaveGaps state.questions
  pub sessions : sessions.IsPlan told (answered (viewed state.claims state.held)) (answered (viewed (claims_told state.claims told now word) later)) state.sessions led.sessions
  pub marks : led.marks ≡ told.refusal ++ claimed.marks ++ map mark_of led.traffic.asking.asked.items ++ announced_told told now state.claims.kept ++ cuts_of led.sessions.changes.items
  pub sent : led.traffic.sent ≡ queried ++ responses_told told now state.multicasts state.queries state.claims.kept (claims_told state.claims told now word).kept
  pub multicasts : (entry : Entry) → entry.sent ≡ led.traffic.sent → multicasts_in entry ≡ led.traffic.multicasts
  pub come : option_to_list led.traffic.come ≡ query_told state.claims.kept state.multicasts told now word
  pub keeps : IsTrue led.keeps_own → (rr : Rr) → is_ours state.claims.kept rr ≡ true → is_ours (claims_told state.claims told now word).kept rr ≡ true
  pub given : led.given ≡ gifts_of led.sessions.changes.items

-- A plan is of an event behind what is kept, where `later` is what is held after it; `queried` are the messages that go before responses.
pub record IsPlanFor (state : State) (later : List Held) (now word : ℕ) (event : Event) (plan : Plan) : Type 0 where
  pub told : told_in plan ≡ told_of event (kept_outcome state.claims state.opened state.sessions event) (told_in plan).refusal
  pub heard : (past : List Hearing) (before : ℕ) → before ≤ now → Holds state.held past before → IsHeard now word event past later (told_in plan).refusal
  pub within : length later ≤ room_for_records
  pub typed : have_data (rrs_of later) ≡ true
  pub «data» : have_data (counted_records (brought event)) ≡ true
  pub claims : claiming.IsPlan state.claims (occasion_of state.claims (told_in plan) now word) plan.claims
  pub fits : claiming.IsFor state.claims.registered state.claims.kept plan.claims.deed
  pub owned : have_data (own_in state.claims.kept) ≡ true
  pub walks : AreEnough (told_in plan) now state.held later (own_in state.claims.kept) (own_in (claims_told state.claims (told_in plan) now word).kept) state.questions state.sessions plan.walks.items
  pub queried : List Sent
  pub asking : asking.IsPlan (told_in plan) now state.sessions state.questions later plan.walks.items (probes_told (told_in plan).ticks state.claims.kept now) queried plan.asking
  pub gaps : HaveGaps state.questions
  pub sessions : sessions.IsPlan (told_in plan) (answered (viewed state.claims state.held)) (answered (viewed (claims_told state.claims (told_in plan) now word) later)) state.sessions plan.sessions
  pub marks : plan.marks ≡ (told_in plan).refusal ++ plan.claims.marks ++ map mark_of plan.asking.asked.items ++ announced_told (told_in plan) now state.claims.kept ++ cuts_of plan.sessions.changes.items
  pub sent : plan.sent ≡ queried ++ responses_told (told_in plan) now state.multicasts state.queries state.claims.kept (claims_told state.claims (told_in plan) now word).kept
  pub multicasts : (entry : Entry) → entry.sent ≡ plan.sent → multicasts_in entry ≡ plan.multicasts
  pub come : option_to_list plan.come ≡ query_told state.claims.kept state.multicasts (told_in plan) now word
  pub keeps : IsTrue plan.keeps_own → (rr : Rr) → is_ours state.claims.kept rr ≡ true → is_ours (claims_told state.claims (told_in plan) now word).kept rr ≡ true
  pub given : plan.given ≡ gifts_of plan.sessions.changes.items

-- A plan is of an event behind what is kept: held after it is what the records that it hands on make of what was held.
abbrev pub IsPlan : State → ℕ → ℕ → Event → Plan → Type 0
IsPlan state now word event plan = IsPlanFor state (held_after now word plan.heard state.held) now word event plan
