-- What answers of operations are read off, and what is known of registrations where a call comes.
use Rattle.std.specs.Prelude.{ℕ, nat_le, ◌&&◌, List}
use Rattle.sd_call.specs.Requests.{well_formed}
use Rattle.std.specs.Option.{is_some}
use Rattle.mdns_history.specs.declared.event.Event.{Event}
use Rattle.mdns_history.specs.declared.entry.Outcome.{Outcome}
use Rattle.mdns_history.specs.declared.held.Held.{Held}
use Rattle.mdns_history.specs.Outcomes.{most_over_life}
use Rattle.mdns_probe.specs.Answering.{registered_by, is_held_name}
use Rattle.mdns_claims.specs.State.{Contents}
use Rattle.mdns_claims.specs.Owned.{own_in, registered_answers}
use Rattle.sd_sessions.specs.Answered.{View}
use Rattle.sd_sessions.specs.Codes as codes
use Rattle.sd_sessions.specs.Sessions.{Session}

-- what answers are read off: the records that are held, those that are own, and the groups of registrations
abbrev pub viewed : Contents → List Held → View
viewed claims held =
    record {
      held = held;
      own = own_in claims.kept;
      registered = λ session op. registered_answers session op claims.kept;
    }

-- what is known of registrations for each call
abbrev pub registering : Contents → codes.Knowing
registering claims session op request =
    record {
      hosted = is_some claims.config.host;
      spent = nat_le most_over_life claims.registered;
      live = is_some (registered_by session op claims.kept);
      taken = well_formed request && is_held_name request claims.kept;
    }

-- how an event goes, but a take, which is known last
abbrev pub kept_outcome : Contents → ℕ → List Session → Event → Outcome
kept_outcome claims opened sessions event = codes.kept_outcome (registering claims) opened sessions event
