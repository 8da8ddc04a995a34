-- Which names' records an event looks at, told of what is kept, and how many that are.
use Rattle.std.specs.Prelude.{◌≡◌, ℕ, ◌+◌, ◌≤◌, Bool, true, ◌||◌, ◌⊎◌, List}
use Rattle.std.specs.List.{IsDistinct}
use Rattle.dns_name.specs.Names.{folded_eq}
use Rattle.dns_record.specs.declared.record.Rr.{Rr}
use Rattle.mdns_history.specs.declared.event.Event.{Event}
use Rattle.mdns_history.specs.declared.held.Held.{Held}
use Rattle.mdns_history.specs.Hearings.{Hearing, counted_records}
use Rattle.mdns_cache.specs.Ended.{is_among}
use Rattle.mdns_cache.specs.Lifetimes.{Holds}
use Rattle.mdns_happened.specs.Told.{Told, told_of}
use Rattle.mdns_records.specs.After.{is_of_event}
use Rattle.mdns_records.specs.Visits.{visits_of_all}
use Rattle.mdns_question.specs.declared.tracked.Tracked.{Tracked}
use Rattle.mdns_claims.specs.Moved.{is_moved}
use Rattle.mdns_claims.specs.Owned.{own_in}
use Rattle.sd_sessions.specs.Put.{is_called}
use Rattle.mdns_asking.specs.Walked.{is_maybe_asked}
use Rattle.mdns_core.specs.Enough.{claims_told}
use Rattle.mdns_core.specs.Next.{is_full, refusal_of}
use Rattle.mdns_core.specs.State.{State}
use Rattle.mdns_core.specs.Viewed.{kept_outcome}

-- a name is touched: the owner of a record that has ended or is heard, or of one that becomes own or ceases to be
abbrev pub is_near : ℕ → List Rr → List Held → List Rr → List Rr → List (List ℕ) → Bool
is_near now heard held own own_then name = is_of_event now heard held name || is_moved name own own_then

-- a name is touched, or that of a question that may be asked, or that a call asks for
abbrev pub is_looked_at : Told → ℕ → List Rr → List Held → List Rr → List Rr → List Tracked → List (List ℕ) → Bool
is_looked_at told now heard held own own_then questions name =
    is_near now heard held own own_then name || (is_maybe_asked told now questions name || is_called told.call name)

-- The visits between two counts are no more than a walk of different names takes, each of which passes a test.
pub record AreFew (test : List (List ℕ) → Bool) (held : List Held) (before after : ℕ) : Type 0 where
  pub names : List (List (List ℕ))
  pub once : IsDistinct folded_eq names
  pub only : (name : List (List ℕ)) → is_among names name ≡ true → test name ≡ true
  pub most : after ≤ before + visits_of_all held names

-- The visits between two counts are for an event behind what is kept, that goes as is told.
pub record AreFor (state : State) (now word : ℕ) (event : Event) (before after : ℕ) : Type 0 where
  pub told : Told
  pub is_told : told ≡ told_of event (kept_outcome state.claims state.opened state.sessions event) told.refusal
  pub refused : (past : List Hearing) (since : ℕ) → since ≤ now → Holds state.held past since → told.refusal ≡ refusal_of (is_full now word event past) event
  pub few : AreFew (is_looked_at told now (counted_records told.heard) state.held (own_in state.claims.kept) (own_in (claims_told state.claims told now word).kept) state.questions) state.held before after

-- No record was looked at, or only those that an event looks at.
abbrev pub AreBounded : State → ℕ → ℕ → Event → ℕ → ℕ → Type 0
AreBounded state now word event before after = (after ≡ before) ⊎ AreFor state now word event before after
