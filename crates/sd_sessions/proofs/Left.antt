-- What holds of the operations of each session, in the sessions that an event leaves.
use Rattle.std.proofs.Common.{ℕ, Bool, true, false, cond, List, [], ◌∷◌, ◌++◌, map, drop, Option, Some, None}
use Rattle.std.specs.Prelude.{filter, ◌==◌}
use Rattle.std.specs.List.{AllByRecursion}
use Rattle.mdns_history.specs.declared.operation.Operation.{Operation}
use Rattle.mdns_happened.specs.Told.{Told, Taking}
use Rattle.sd_sessions.specs.Answered.{Answering}
use Rattle.sd_sessions.specs.Sessions.{Session}
use Rattle.sd_sessions.specs.Settling.{left_to, change_told, all_settled, remaining_but, opened_session, with_opened, shifted_told, taken_from, sessions_told}

module _ (P : ℕ → List Operation → Type 0) where
  abbrev Have : List Session → Type 0
  Have sessions = AllByRecursion (λ (session : Session). P session.number session.operations) sessions

  kept : (test : Session → Bool) (sessions : List Session) → Have sessions → Have (filter test sessions)
  kept test [] all = tt
  kept test (session ∷ sessions) all = at (test session) (kept test sessions all.1)
    where
      at : (b : Bool) → Have (filter test sessions) → Have (cond b (session ∷ filter test sessions) (filter test sessions))
      at true rest = (all.0, rest)
      at false rest = rest

  opened : ((n : ℕ) → P n []) → (o : Option ℕ) (sessions : List Session) → Have sessions → Have (with_opened o sessions)
  opened none None sessions all = all
  opened none (Some n) sessions all = behind sessions all
    where
      behind : (ss : List Session) → Have ss → Have (ss ++ opened_session n ∷ [])
      behind [] h = (none n, tt)
      behind (s ∷ ss) h = (h.0, behind ss h.1)

  taken : (number max : ℕ) (sessions : List Session) → Have sessions → Have (taken_from number max sessions)
  taken number max [] all = tt
  taken number max (session ∷ sessions) all = at (session.number == number) (taken number max sessions all.1)
    where
      at : (b : Bool) → Have (taken_from number max sessions) → Have (cond b (record session { queue = drop max session.queue } ∷ sessions) (session ∷ taken_from number max sessions))
      at true rest = (all.0, all.1)
      at false rest = (all.0, rest)

  handed : (taking : Option Taking) (sessions : List Session) → Have sessions → Have (sessions_told taking sessions)
  handed None sessions all = all
  handed (Some taking) sessions all = taken taking.session taking.max sessions all

  module _ (told : Told) (earlier later : Answering) where
    -- it holds of the operations that the event's call leaves to a session
    abbrev pub HoldsCalled : Session → Type 0
    HoldsCalled session = P session.number (left_to told.call session.number session.operations)

    settled : (sessions : List Session) → AllByRecursion HoldsCalled sessions → Have (all_settled sessions (map (change_told told earlier later) sessions))
    settled [] all = tt
    settled (session ∷ sessions) all = (all.0, settled sessions all.1)

    pub have-left : ((n : ℕ) → P n []) → (sessions : List Session) → AllByRecursion HoldsCalled sessions →
        Have (sessions_told told.taking (shifted_told told sessions (map (change_told told earlier later) sessions)))
    have-left none sessions all =
        handed told.taking (shifted_told told sessions (map (change_told told earlier later) sessions))
        (opened none told.opened (remaining_but told.detached (all_settled sessions (map (change_told told earlier later) sessions)))
        (kept _ (all_settled sessions (map (change_told told earlier later) sessions)) (settled sessions all)))
