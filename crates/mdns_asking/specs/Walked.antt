-- Which names are walked for the questions, and what the walks have of them.
use Rattle.std.specs.Prelude.{◌≡◌, ℕ, ◌+◌, ◌==◌, nat_le, Bool, true, false, not, ◌&&◌, List, Option, Some, None, is_some, if◌then◌else◌}
use Rattle.std.specs.List.{list_any, AllByRecursion}
use Rattle.dns_name.specs.Names.{folded_eq}
use Rattle.mdns_base.specs.Hosts.{mdns_port}
use Rattle.dns_record.specs.declared.record.Key.{Key}
use Rattle.mdns_history.specs.declared.held.Held.{Held}
use Rattle.mdns_history.specs.Hearings.{Heard}
use Rattle.mdns_history.specs.Asking.{asks_openly}
use Rattle.mdns_cache.specs.Lifetimes.{AllHeard}
use Rattle.mdns_cache.specs.Ended.{is_among}
use Rattle.mdns_happened.specs.declared.walk.Walk.{Walk}
use Rattle.mdns_happened.specs.Told.{Told}
use Rattle.mdns_happened.specs.Walks.{is_walked, IsKnown}
use Rattle.mdns_question.specs.declared.tracked.Tracked.{Tracked}
use Rattle.mdns_question.specs.Refreshing.{cause_of}
use Rattle.mdns_asking.specs.Asked.{begun_keys}

-- A message may ask a question in the daemon's stead: it is a complete query from port 5353 that asks the same for a multicast answer, and the
-- question is due within a second. (RFC 6762 7.3)
abbrev pub may_stand_for : ℕ → Heard → Tracked → Bool
may_stand_for moment heard one =
    not heard.message.response && (heard.from.port == mdns_port) && not heard.message.truncated && list_any (asks_openly one.key) heard.message.questions
    && nat_le one.next (moment + 1000)

-- some message may, if there is one
abbrev pub may_be_heard : Option Heard → ℕ → Tracked → Bool
may_be_heard None moment one = false
may_be_heard (Some heard) moment one = may_stand_for moment heard one

-- an event may ask a question, by what is kept of it: once time has passed it is due, or a message may stand for it
abbrev pub may_be_asked : Told → ℕ → Tracked → Bool
may_be_asked told moment one = if told.ticks then is_some (cause_of moment one) else may_be_heard told.heard moment one

-- a name is that of a question that an event may ask, by what is kept of it, case aside
abbrev pub is_maybe_asked : Told → ℕ → List Tracked → List (List ℕ) → Bool
is_maybe_asked told moment questions name = list_any (λ (one : Tracked). may_be_asked told moment one && folded_eq name one.key.name) questions

-- What the names to be walked have for an event that touches those: the name of each question that is touched or may be asked, and of each that gets a user.
pub record AreNamed (told : Told) (moment : ℕ) (questions : List Tracked) (those names : List (List (List ℕ))) : Type 0 where
  pub touched : AllByRecursion (λ (one : Tracked). is_among those one.key.name ≡ true → is_among names one.key.name ≡ true) questions
  pub asked : AllByRecursion (λ (one : Tracked). may_be_asked told moment one ≡ true → is_among names one.key.name ≡ true) questions
  pub begun : AllByRecursion (λ (key : Key). is_among names key.name ≡ true) (begun_keys told.call)

-- the names of these questions were walked
abbrev pub AreWalked : List Walk → List Key → Type 0
AreWalked walks keys = AllByRecursion (λ (key : Key). is_walked walks key.name ≡ true) keys

-- what an event makes of the records of each question's name is known by walks
abbrev pub AreKnown : List Held → List Held → List Walk → List Tracked → Type 0
AreKnown held later walks questions = AllByRecursion (λ (one : Tracked). IsKnown held later walks one.key.name) questions

-- What walks have for an event: what becomes of each question's records is known, and walked are the names of the questions that may be asked
-- and of those that get a user.
pub record AreEnough (told : Told) (moment : ℕ) (questions : List Tracked) (held later : List Held) (walks : List Walk) : Type 0 where
  pub known : AreKnown held later walks questions
  pub asked : AllByRecursion (λ (one : Tracked). may_be_asked told moment one ≡ true → is_walked walks one.key.name ≡ true) questions
  pub begun : AreWalked walks (begun_keys told.call)

-- the later records of walks were heard by a moment
abbrev pub AreHeard : ℕ → List Walk → Type 0
AreHeard moment walks = AllByRecursion (λ (walk : Walk). AllHeard moment walk.later.items) walks
