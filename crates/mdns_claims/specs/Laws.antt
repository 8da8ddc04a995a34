-- What is kept of claims follows the history, over legal histories of a daemon that claims names; and what is the daemon's to send is read off it, over every
-- history. (RFC 6762 6.1, 8 and 9)
use Rattle.std.specs.Prelude.{◌≡◌, ℕ, ◌≤◌, true, false, List, ◌∷◌, map, if◌then◌else◌, []}
use Rattle.std.specs.List.{AllByRecursion}
use Rattle.dns_record.specs.declared.record.Rr.{Rr}
use Rattle.mdns_history.specs.declared.event.Event.{Event}
use Rattle.mdns_history.specs.declared.entry.Entry.{Entry}
use Rattle.mdns_history.specs.InForce.{Duties}
use Rattle.mdns_history.specs.History.{now}
use Rattle.mdns_history.specs.Outcomes.{early_outcome}
use Rattle.mdns_history.specs.Groups.{group_name, unique_records, other_ttl}
use Rattle.mdns_history.specs.Sureness.{sure_groups, own_records}
use Rattle.mdns_history.specs.Debts.{nsec_record}
use Rattle.mdns_history.specs.Debts as debts
use Rattle.mdns_history.specs.Sending.{sent_probes}
use Rattle.mdns_history.specs.Fitting.{bare_entry, refusal_marks, disturbed_marks, next_entry, is_boot, IsLegal}
use Rattle.mdns_happened.specs.Told.{Told, told_of, is_tick}
use Rattle.mdns_claims.specs.State.{Contents, Stands}
use Rattle.mdns_claims.specs.Behind.{occasion_of, probes_told, contents_told}
use Rattle.mdns_claimants.specs.Owned.{own_in, nsecs_in, is_ours}

-- the event as it is told, with the mark of its packet where that is refused
abbrev pub told_in : List Entry → ℕ → ℕ → Event → Told
told_in past moment word ev = told_of ev (early_outcome ev past) (refusal_marks (bare_entry moment word ev past) past ev)

-- What claims make of an event, where what is kept stands for the history before it: the marks and the probes are those of the entry that follows, and
-- what is then kept stands for the history with it.
pub record Follows (duties : Duties) (past : List Entry) (moment word : ℕ) (ev : Event) (contents : Contents) : Type 0 where
  pub marks : (occasion_of contents (told_in past moment word ev) moment word).marks ≡ disturbed_marks (bare_entry moment word ev past) past
  pub sent : probes_told (is_tick ev) contents.kept moment ≡ (if is_tick ev then sent_probes past moment else [])
  pub stands : Stands (contents_told contents (occasion_of contents (told_in past moment word ev) moment word)) (next_entry duties past moment word ev ∷ past)

-- Claims that stand for a legal history are carried on by the entry that follows.
abbrev pub ClaimsFollow : Type 0
ClaimsFollow =
    (duties : Duties) (past : List Entry) (moment word : ℕ) (ev : Event) (contents : Contents) → duties.claiming ≡ true → contents.announces ≡ duties.announcing
    → is_boot ev ≡ false → IsLegal duties past → now past ≤ moment → Stands contents past → Follows duties past moment word ev contents

-- no record has a TTL above the greatest of own records
abbrev pub HaveOwnTtls : List Rr → Type 0
HaveOwnTtls rrs = AllByRecursion (λ (rr : Rr). rr.ttl ≤ other_ttl) rrs

-- Own records are those of the sure groups that are kept.
abbrev pub OwnIsKnown : Type 0
OwnIsKnown = (contents : Contents) (history : List Entry) → Stands contents history → own_in contents.kept ≡ own_records history

-- The NSEC records of the sure names are those of the sure groups that are kept.
abbrev pub NsecsAreKnown : Type 0
NsecsAreKnown =
    (contents : Contents) (history : List Entry) → Stands contents history
    → nsecs_in contents.kept ≡ map (λ group. nsec_record (group_name group history) (unique_records group history)) (sure_groups history)

-- Whether a record is the daemon's to send is told by the groups that are kept.
abbrev pub OursIsKnown : Type 0
OursIsKnown = (contents : Contents) (history : List Entry) → Stands contents history → (rr : Rr) → is_ours contents.kept rr ≡ debts.is_ours rr history

-- Both have the TTLs of own records.
abbrev pub OwnTtlsAreKnown : Type 0
OwnTtlsAreKnown = (contents : Contents) (history : List Entry) → Stands contents history → HaveOwnTtls (own_in contents.kept) × HaveOwnTtls (nsecs_in contents.kept)
