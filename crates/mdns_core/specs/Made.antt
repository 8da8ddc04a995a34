-- The room that a plan needs, and what is made of a plan that is carried out.
use Rattle.std.specs.Prelude.{◌≡◌, ℕ, ◌≤◌, true, List, ◌∷◌, length, if◌then◌else◌}
use Rattle.std.specs.List.Sorted.{IsPermutation}
use Rattle.std.specs.Option.{unwrap_or, option_to_list}
use Rattle.mdns_history.specs.declared.held.Held.{Held}
use Rattle.mdns_history.specs.declared.entry.Entry.{Entry}
use Rattle.mdns_history.specs.History.{now}
use Rattle.mdns_history.specs.Debts.{multicasts_in}
use Rattle.mdns_question.specs.declared.tracked.Tracked.{Tracked}
use Rattle.mdns_asking.specs.Asked.{all_begun, all_ended, all_asked}
use Rattle.mdns_asking.specs.Timed.{all_timed}
use Rattle.sd_sessions.specs.Planned.{IsReady}
use Rattle.sd_sessions.specs.Settling.{shifted_told, outcome_told, sessions_told}
use Rattle.sd_answer.specs.Laws.{have_data}
use Rattle.mdns_claims.specs.Planned.{room_of}
use Rattle.mdns_claims.specs.Owned.{own_in}
use Rattle.mdns_reply.specs.Lasts as lasts
use Rattle.mdns_debts.specs.Queries.{Query}
use Rattle.mdns_owing.specs.Owing.{news_told, followed_by, kept_ours}
use Rattle.mdns_core.specs.State.{State}
use Rattle.mdns_core.specs.Enough.{claims_told}
use Rattle.mdns_core.specs.declared.plan.Plan.{Plan}
use Rattle.mdns_core.specs.declared.parts.Parts.{Parts}
use Rattle.mdns_core.specs.declared.parts.Done.{Done}
use Rattle.mdns_core.specs.Planned.{told_in}

-- There is room in each part for what a plan brings.
pub record HasRoom (plan : Plan) (parts : Parts) : Type 0 where
  pub records : length plan.heard ≤ parts.records.spare
  pub claims : room_of plan.claims.deed ≤ parts.claims.spare
  pub asking : length plan.asking.begun.items ≤ parts.asking.spare
  pub sessions : IsReady (told_in plan) plan.sessions parts.sessions
  pub lasts : length plan.multicasts ≤ parts.lasts.spare
  pub owing : length (option_to_list plan.come) ≤ parts.owing.spare

-- what is kept of questions when those of a plan that begin, end and are asked were told
abbrev pub asked_of_plan : ℕ → ℕ → Plan → List Tracked → List Tracked
asked_of_plan moment word plan tracked = all_asked moment plan.asking.asked.items (all_ended plan.asking.ended.items (all_begun moment word plan.asking.begun.items tracked))

-- the queries once the event of a plan was noted, with the query that comes and what is multicast
abbrev pub noted_of_plan : ℕ → ℕ → Plan → List Query → List Query
noted_of_plan moment word plan queries = followed_by (news_told (told_in plan) moment word plan.multicasts) (option_to_list plan.come) queries

-- What was made of a plan behind what was kept: what the entry has of it, and what is then kept, but for the order of the records; `later` is what is held after it.
pub record IsMade (state : State) (later : List Held) (moment word : ℕ) (plan : Plan) (done : Done) (left : State) : Type 0 where
  pub marks : done.marks ≡ plan.marks
  pub sent : done.sent ≡ plan.sent
  pub given : done.given ≡ plan.given
  pub went : done.outcome ≡ outcome_told (told_in plan).taking (told_in plan).outcome (shifted_told (told_in plan) state.sessions plan.sessions.changes.items)
  pub counted : left.opened ≡ unwrap_or (told_in plan).opened state.opened
  pub remain : left.sessions ≡ sessions_told (told_in plan).taking (shifted_told (told_in plan) state.sessions plan.sessions.changes.items)
  pub moved : IsPermutation left.held later
  pub follow : left.questions ≡ all_timed later (asked_of_plan moment word plan state.questions)
  pub claimed : left.claims ≡ claims_told state.claims (told_in plan) moment word
  pub owned : have_data (own_in left.claims.kept) ≡ true
  pub owing : left.queries ≡ (if plan.keeps_own then noted_of_plan moment word plan state.queries else kept_ours left.claims.kept (noted_of_plan moment word plan state.queries))
  pub lasting : (entry : Entry) (past : List Entry) → entry.moment ≡ moment → now past ≤ moment → multicasts_in entry ≡ plan.multicasts → lasts.Stands state.multicasts past → lasts.Stands left.multicasts (entry ∷ past)
