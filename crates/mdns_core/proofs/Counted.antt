-- How many records an event looks at, where its names were walked.
use Rattle.std.proofs.Common.{◌≡◌, ℕ, ◌≤◌, List, subst, inr}
use Rattle.dns_record.specs.declared.record.Rr.{Rr}
use Rattle.mdns_history.specs.declared.event.Event.{Event}
use Rattle.mdns_history.specs.Hearings.{Hearing, counted_records}
use Rattle.mdns_cache.specs.Lifetimes.{Holds}
use Rattle.mdns_happened.specs.Told.{Told, told_of}
use Rattle.mdns_claims.specs.Owned.{own_in}
use Rattle.mdns_core.specs.Enough.{claims_told}
use Rattle.mdns_core.specs.Looked.{is_looked_at, AreFew, AreBounded}
use Rattle.mdns_core.specs.Next.{is_full, refusal_of}
use Rattle.mdns_core.specs.State.{State}
use Rattle.mdns_core.specs.Viewed.{kept_outcome}

pub bounded-walk : (state : State) (now word : ℕ) (event : Event) (told : Told) (heard : List Rr) (before after : ℕ) →
    told ≡ told_of event (kept_outcome state.claims state.opened state.sessions event) told.refusal →
    ((past : List Hearing) (since : ℕ) → since ≤ now → Holds state.held past since → told.refusal ≡ refusal_of (is_full now word event past) event) →
    heard ≡ counted_records told.heard →
    AreFew (is_looked_at told now heard state.held (own_in state.claims.kept) (own_in (claims_told state.claims told now word).kept) state.questions) state.held before after →
    AreBounded state now word event before after
bounded-walk state now word event told heard before after is refused heard_is few =
    inr (record {
      told = told;
      is_told = is;
      refused = refused;
      few = subst (λ (rrs : List Rr). AreFew (is_looked_at told now rrs state.held (own_in state.claims.kept) (own_in (claims_told state.claims told now word).kept) state.questions) state.held before after) heard_is few;
    })
