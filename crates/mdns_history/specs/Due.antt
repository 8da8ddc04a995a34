-- When a tick does something.
use Rattle.std.specs.Prelude.{◌≡◌, ℕ, ◌<◌, ◌≤◌, Bool, true, false, ◌&&◌, List, [], ◌∷◌, Option, Some, None}
use Rattle.std.specs.List.{list_all}
use Rattle.mdns_history.specs.declared.event.Event.TheVariants as event
use Rattle.mdns_history.specs.declared.entry.Entry.{Entry}
use Rattle.mdns_history.specs.History.{now}
use Rattle.mdns_history.specs.Lifetimes.{live_records, is_live_at}
use Rattle.mdns_history.specs.Sureness.{is_sure, sure_groups}
use Rattle.mdns_history.specs.InForce.{Duties}
use Rattle.mdns_history.specs.Fitting.{next_entry}

-- whether a list is empty
abbrev pub is_nothing : {X : Type 0} → List X → Bool
is_nothing [] = true
is_nothing (x ∷ xs) = false

-- whether an entry makes no group sure
abbrev pub settles_none : Entry → List Entry → Bool
settles_none entry past = list_all (λ group. is_sure group past) (sure_groups (entry ∷ past))

-- whether no record that is live now has ended at a moment
abbrev pub ends_none : List Entry → ℕ → Bool
ends_none history moment = list_all (is_live_at moment) (live_records history (now history))

-- whether an entry notes, sends, gives, settles and ends nothing
abbrev pub is_idle_entry : Entry → List Entry → Bool
is_idle_entry entry past =
    is_nothing entry.marks && is_nothing entry.sent && is_nothing entry.given && settles_none entry past && ends_none past entry.moment

-- Whether a tick at a moment does nothing: the word of a tick changes nothing in it.
unfoldable pub is_idle : Duties → List Entry → ℕ → Bool
is_idle duties history moment = is_idle_entry (next_entry duties history moment 0 event.Tick) history

-- the moment is the first, from now on, whose tick isn't idle
pub record IsNextDue (duties : Duties) (history : List Entry) (moment : ℕ) : Type 0 where
  pub from_now : now history ≤ moment
  pub busy : is_idle duties history moment ≡ false
  pub first : (earlier : ℕ) → now history ≤ earlier → earlier < moment → is_idle duties history earlier ≡ true

-- the next moment at which something is due, or none where no tick would ever do anything
abbrev pub NextDue : Duties → List Entry → Option ℕ → Type 0
NextDue duties history None = (moment : ℕ) → now history ≤ moment → is_idle duties history moment ≡ true
NextDue duties history (Some moment) = IsNextDue duties history moment
