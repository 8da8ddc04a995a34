-- What a daemon keeps, and the histories that it stands for.
use Rattle.std.specs.Prelude.{◌≡◌, ℕ, ◌++◌, max, true, List, map, Option}
use Rattle.std.specs.List.{flat_map}
use Rattle.std.specs.List.Sorted.{IsPermutation}
use Rattle.std.specs.Option.{option_map}
use Rattle.lists.specs.Lists.{least}
use Rattle.mdns_history.specs.declared.held.Held.{Held}
use Rattle.mdns_history.specs.declared.entry.Entry.{Entry}
use Rattle.mdns_history.specs.History.{now}
use Rattle.mdns_core.specs.InForce.{in_force}
use Rattle.sd_sessions.specs.Sessions.{Session, sessions_in}
use Rattle.mdns_history.specs.Lifetimes.{live_records}
use Rattle.mdns_history.specs.Sessions.{opened_count}
use Rattle.mdns_history.specs.Fitting.{IsLegal}
use Rattle.mdns_question.specs.declared.tracked.Tracked.{Tracked}
use Rattle.mdns_question.specs.Next.{next_of}
use Rattle.mdns_question.specs.Standing as asking
use Rattle.mdns_asking.specs.State.{asker_of}
use Rattle.sd_answer.specs.Laws.{have_data}
use Rattle.mdns_claims.specs.State as claims
use Rattle.mdns_claims.specs.Behind.{next_in}
use Rattle.mdns_reply.specs.Lasts.{Last}
use Rattle.mdns_reply.specs.Lasts as lasts
use Rattle.mdns_debts.specs.Queries.{Query}
use Rattle.mdns_debts.specs.Following.{queries_in, moment_of}
use Rattle.mdns_owing.specs.Owing.{last_in}

-- what contracts see of a daemon
pub record State : Type 0 where
  pub last : ℕ
  pub opened : ℕ
  pub sessions : List Session
  pub held : List Held
  pub questions : List Tracked
  pub claims : claims.Contents
  pub multicasts : List Last
  pub queries : List Query

-- the moments from which on some of what queries are owed may be sent
abbrev pub reply_moments : List Last → List Query → List ℕ
reply_moments lasts queries = flat_map (λ query. map (moment_of (last_in lasts) query) query.owed) queries

-- the first moment, from the last one on, at which a held record ends, or a question, a group or a reply is due
abbrev pub due_of : State → Option ℕ
due_of state =
    option_map (max state.last)
    (least (map (λ one. one.end) state.held ++ map (next_of state.held) state.questions ++ (flat_map (next_in state.claims.announces) state.claims.kept ++ reply_moments state.multicasts state.queries)))

-- A daemon stands for a history: the history is legal, what the daemon keeps is what the history says, and the data of the records that it holds are
-- as their types allow.
pub record Stands (state : State) (history : List Entry) : Type 0 where
  pub legal : IsLegal in_force history
  pub last : state.last ≡ now history
  pub opened : state.opened ≡ opened_count history
  pub sessions : state.sessions ≡ sessions_in history
  pub asking : asking.Stands (asker_of state.questions state.held) history
  pub claims : claims.Stands state.claims history
  pub announces : state.claims.announces ≡ in_force.announcing
  pub multicasts : lasts.Stands state.multicasts history
  pub queries : state.queries ≡ queries_in history
  pub records : IsPermutation state.held (live_records history (now history))
  pub typed : have_data (map (λ (held : Held). held.rr) state.held) ≡ true
