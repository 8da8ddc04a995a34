-- The entry that follows a history, by its parts, for any duties: its marks and what it sends, then the marks of cut sessions, then what it gives, then the outcome of a take.
use Rattle.std.proofs.Common.{◌≡◌, ℕ, List, refl}
use Rattle.mdns_history.specs.declared.event.Event.{Event}
use Rattle.mdns_history.specs.declared.mark.Mark.{Mark}
use Rattle.mdns_history.specs.declared.entry.Entry.{Entry}
use Rattle.mdns_history.specs.InForce.{Duties}
use Rattle.mdns_history.specs.Fitting.{bare_entry, event_marks, noted, with_cuts, with_items, with_outcome, next_entry}

module _ (duties : Duties) (past : List Entry) (moment word : ℕ) (ev : Event) where
  abbrev pub bare : Entry
  bare = bare_entry moment word ev past

  -- all marks but those of cut sessions
  abbrev pub noted_marks : List Mark
  noted_marks = event_marks duties bare past

  -- the entry with these marks and what it sends
  abbrev pub marked : Entry
  marked = noted duties bare past

  -- the same with the marks of the sessions that are cut
  abbrev pub cutting : Entry
  cutting = with_cuts marked past

  -- the same with what it gives
  abbrev pub giving : Entry
  giving = with_items cutting past

  -- the whole entry
  abbrev pub entry_after : Entry
  entry_after = next_entry duties past moment word ev

  -- the entry, by its stages
  pub entry_is : entry_after ≡ with_outcome giving past
  unfolding next_entry
  entry_is = refl
