-- The marks of the entry that follows a history, and what it sends.
use Rattle.std.proofs.Common.{◌≡◌, ℕ, Bool, true, false, List, ◌++◌, refl}
use Rattle.mdns_history.specs.declared.event.Event.{Event}
use Rattle.mdns_history.specs.declared.entry.Entry.{Entry}
use Rattle.mdns_history.specs.InForce.{Duties, only_if}
use Rattle.mdns_history.specs.Items.{cut_marks}
use Rattle.mdns_history.specs.Fitting.{bare_entry, event_marks, event_sends, noted, next_entry}
use Rattle.mdns_asserts.proofs.Elements.{In}

-- the marks of the entry that follows
pub marks-next : (duties : Duties) (past : List Entry) (moment word : ℕ) (ev : Event) →
    (next_entry duties past moment word ev).marks ≡ event_marks duties (bare_entry moment word ev past) past ++ cut_marks (noted duties (bare_entry moment word ev past) past) past
unfolding next_entry
marks-next duties past moment word ev = refl

pub sent-next : (duties : Duties) (past : List Entry) (moment word : ℕ) (ev : Event) → (next_entry duties past moment word ev).sent ≡ event_sends duties (bare_entry moment word ev past) past ev
unfolding next_entry
sent-next duties past moment word ev = refl

-- what is there where a duty is, is there
pub of_only_if : {X : Type 0} (b : Bool) (xs : List X) (x : X) → In x (only_if b xs) → In x xs
of_only_if true xs x m = m
of_only_if false xs x m = absurd m
