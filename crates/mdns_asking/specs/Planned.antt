-- What a plan of asking says.
use Rattle.std.specs.Prelude.{◌≡◌, ◌++◌, ℕ, List, map}
use Rattle.mdns_history.specs.declared.entry.Sent.{Sent}
use Rattle.mdns_history.specs.declared.held.Held.{Held}
use Rattle.mdns_happened.specs.declared.walk.Walk.{Walk}
use Rattle.mdns_happened.specs.Told.{Told}
use Rattle.mdns_question.specs.declared.tracked.Tracked.{Tracked}
use Rattle.sd_sessions.specs.Sessions.{Session}
use Rattle.mdns_asking.specs.declared.plan.Plan.{Plan}
use Rattle.mdns_asking.specs.Asked.{asked_told, sent_told, begun_keys, ended_told}
use Rattle.mdns_asking.specs.Walked.{AreWalked}

-- A plan is of what happened to these questions of these sessions, where these records are held after it: what is asked, which questions get and
-- lose a user, and what is sent behind what else is: these messages before, and those after. The names of the questions that are asked were walked.
pub record IsPlan (told : Told) (moment : ℕ) (sessions : List Session) (questions : List Tracked) (later : List Held) (walks : List Walk) (before after : List Sent) (plan : Plan) : Type 0 where
  pub asked : plan.asked.items ≡ asked_told told.ticks told.heard questions later moment
  pub sent : after ≡ before ++ sent_told told.ticks later moment plan.asked.items
  pub begun : plan.begun.items ≡ begun_keys told.call
  pub ended : plan.ended.items ≡ ended_told told.call told.detached sessions
  pub walked : AreWalked walks (map (λ asking. asking.0) plan.asked.items)
