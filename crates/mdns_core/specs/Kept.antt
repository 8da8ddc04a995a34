-- What a daemon keeps, as contracts see it.
use Rattle.std.specs.Prelude.{ℕ}
use Rattle.mdns_core.specs.declared.parts.Parts.{Parts}
use Rattle.mdns_core.specs.State.{State}

-- what is kept in parts, behind a last moment
abbrev pub state_of : ℕ → Parts → State
state_of last parts =
    record {
      last = last;
      opened = parts.sessions.opened;
      sessions = parts.sessions.sessions;
      held = parts.records.held;
      questions = parts.asking.questions;
      claims = parts.claims.contents;
      multicasts = parts.lasts.lasts;
      queries = parts.owing.queries;
    }
