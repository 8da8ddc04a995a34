-- What a daemon announces and takes back is read off the groups that it keeps, over legal histories of a daemon that claims names. (RFC 6762 8.3, 8.4 and 10.1)
use Rattle.std.specs.Prelude.{◌≡◌, ℕ, ◌≤◌, Bool, true, false, List, ◌∷◌, map, filter}
use Rattle.mdns_history.specs.declared.event.Event.{Event}
use Rattle.mdns_history.specs.declared.event.Event.TheVariants as event
use Rattle.mdns_history.specs.declared.entry.Entry.{Entry}
use Rattle.mdns_history.specs.InForce.{Duties}
use Rattle.mdns_history.specs.History.{now, is_tick}
use Rattle.mdns_history.specs.Sureness.{own_records}
use Rattle.mdns_history.specs.Sending.{is_free, announced_records, sent_goodbyes}
use Rattle.mdns_history.specs.Fitting.{bare_entry, announced_marks, is_boot, IsLegal}
use Rattle.mdns_probe.specs.Kept.{all_kept, announced_for}
use Rattle.mdns_claims.specs.Behind.{ticked_at}
use Rattle.mdns_claims.specs.Owned.{own_in}
use Rattle.mdns_claims.specs.Laws.{told_in}
use Rattle.mdns_responding.specs.Announced.{announced_in, records_in, goodbyes_told}

-- The records that a tick announces are those of the groups that are due, without those that were multicast within the last second.
abbrev pub AnnouncedRecordsAreKept : Type 0
AnnouncedRecordsAreKept =
    (duties : Duties) (past : List Entry) (moment word : ℕ) → duties.claiming ≡ true → IsLegal duties past → now past ≤ moment
    → announced_records (bare_entry moment word event.Tick past) past ≡ filter (is_free past moment) (records_in (announced_in moment (all_kept past)))

-- The groups that a tick announces are marked.
abbrev pub AnnouncedMarksAreKept : Type 0
AnnouncedMarksAreKept =
    (duties : Duties) (past : List Entry) (moment word : ℕ) → duties.claiming ≡ true → IsLegal duties past → now past ≤ moment
    → announced_marks (bare_entry moment word event.Tick past) past event.Tick ≡ announced_for (map (λ one. one.claim) (all_kept past)) moment

-- The own records that a tick sees are those of the groups that are sure behind it.
abbrev pub TicksTellOwn : Type 0
TicksTellOwn =
    (duties : Duties) (past : List Entry) (moment word : ℕ) (announces : Bool) → duties.claiming ≡ true → IsLegal duties past → now past ≤ moment
    → own_records (bare_entry moment word event.Tick past ∷ past) ≡ own_in (map (ticked_at moment announces) (all_kept past))

-- The goodbyes of every other event are of the sure groups that end with their operations, without what another sure group still has.
abbrev pub GoodbyesAreKept : Type 0
GoodbyesAreKept =
    (duties : Duties) (past : List Entry) (moment word : ℕ) (ev : Event) → duties.claiming ≡ true → IsLegal duties past → now past ≤ moment → is_boot ev ≡ false → is_tick ev ≡ false
    → sent_goodbyes (bare_entry moment word ev past) past ≡ goodbyes_told (told_in past moment word ev) (all_kept past)
