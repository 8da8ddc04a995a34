-- The session of a number among those that are kept, at its place.
use Rattle.std.proofs.Common.{◌≡◌, ℕ, zero, suc, ◌<◌, ◌≤◌, Bool, true, false, cond, List, [], ◌∷◌, drop, length, get_or, set, Some, None, nat_eq, nat_lt, refl, ap, ◌∙◌, sym, arith}
use Rattle.std.specs.List.{find, position, position_or_len}
use Rattle.std.proofs.lemmas.Bool.{ltb-false, cond-true, cond-false}
use Rattle.std.proofs.lemmas.List.Sums.{fails_before_first}
use Rattle.std.proofs.lemmas.List.Quantifiers.{position-Some}
use Rattle.sd_sessions.specs.declared.session.SessionState.{SessionState}
use Rattle.sd_sessions.specs.Sessions.{Session}
use Rattle.sd_sessions.specs.Codes.{has_number}
use Rattle.sd_sessions.specs.Settling.{taken_from}
use Rattle.sd_sessions.specs.Kept.{queued, session_of, sessions_of}

-- whether a session has a number
abbrev pub is_of : ℕ → SessionState → Bool
is_of number state = nat_eq state.number number

-- a session without the first items of its queue
abbrev pub without_first : ℕ → SessionState → Session
without_first max state = record (session_of state) { queue = drop max (queued state.outbox.items) }

found : (number max : ℕ) (states : List SessionState) (i : ℕ) (now d : SessionState) → i < length states → is_of number (get_or states i d) ≡ true →
    ((k : ℕ) → k < i → is_of number (get_or states k d) ≡ false) → session_of now ≡ without_first max (get_or states i d) →
    (find (has_number number) (sessions_of states) ≡ Some (session_of (get_or states i d))) × (sessions_of (set states i now) ≡ taken_from number max (sessions_of states))
found number max [] i now d h hit miss e = absurd (omega arith)
found number max (state ∷ states) zero now d h hit miss e =
    (cond-true (is_of number state) _ _ hit, ap (λ y. y ∷ sessions_of states) e ∙ sym (cond-true (is_of number state) _ _ hit))
found number max (state ∷ states) (suc i) now d h hit miss e =
    let rest = found number max states i now d (omega arith) hit (λ k below. miss (suc k) (omega arith)) e in
    let other : is_of number state ≡ false = miss zero (omega arith) in
    (cond-false (is_of number state) _ _ other ∙ rest.0, ap (λ ys. session_of state ∷ ys) rest.1 ∙ sym (cond-false (is_of number state) _ _ other))

-- the session at the place of a number
pub found-at : (number max : ℕ) (states : List SessionState) (i : ℕ) (now d : SessionState) → Some i ≡ position (is_of number) states → session_of now ≡ without_first max (get_or states i d) →
    (find (has_number number) (sessions_of states) ≡ Some (session_of (get_or states i d))) × (sessions_of (set states i now) ≡ taken_from number max (sessions_of states))
found-at number max states i now d at e =
    let place = position-Some (is_of number) states i d (sym at) in found number max states i now d place.0 place.1 place.2 e

missed : (number max : ℕ) (states : List SessionState) (d : SessionState) → ((k : ℕ) → k < length states → is_of number (get_or states k d) ≡ false) →
    (find (has_number number) (sessions_of states) ≡ None) × (sessions_of states ≡ taken_from number max (sessions_of states))
missed number max [] d miss = (refl, refl)
missed number max (state ∷ states) d miss =
    let rest = missed number max states d (λ k below. miss (suc k) (omega arith)) in
    let other : is_of number state ≡ false = miss zero (omega arith) in
    (cond-false (is_of number state) _ _ other ∙ rest.0, ap (λ ys. session_of state ∷ ys) rest.1 ∙ sym (cond-false (is_of number state) _ _ other))

none-passes : (p : SessionState → Bool) (states : List SessionState) → None ≡ position p states → length states ≤ position_or_len p states
none-passes p states e = of (nat_lt (position_or_len p states) (length states)) refl e
  where
    of : (b : Bool) → nat_lt (position_or_len p states) (length states) ≡ b → None ≡ cond b (Some (position_or_len p states)) None → length states ≤ position_or_len p states
    of true t e = cc
    of false t e = ltb-false (position_or_len p states) (length states) t

-- no session of a number has a place
pub missed-at : (number max : ℕ) (states : List SessionState) → None ≡ position (is_of number) states →
    (find (has_number number) (sessions_of states) ≡ None) × (sessions_of states ≡ taken_from number max (sessions_of states))
missed-at number max [] none = (refl, refl)
missed-at number max (state ∷ states) none =
    let past : length (state ∷ states) ≤ position_or_len (is_of number) (state ∷ states) = none-passes (is_of number) (state ∷ states) none in
    missed number max (state ∷ states) state (λ k below. fails_before_first (is_of number) (state ∷ states) k state (omega arith))
