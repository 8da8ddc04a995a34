-- What a daemon asserts, and what stands behind it: three spaced probes of the name, which nobody answered. (RFC 6762 8.1, 8.2, 8.4 and 10.1)
-- Responses assert, to all or to one host: announcements, answers, and what is added to them. Queries don't: neither probes nor known answers.
use Rattle.std.specs.Prelude.{◌≡◌, ◌==◌, nat_lt, Bool, true, false, not, ◌&&◌, ◌||◌, ℕ, List, [], ◌∷◌, Option, Some, None}
use Rattle.std.specs.List.{list_all, list_any}
use Rattle.mdns_base.specs.declared.host.Dest.TheVariants.{All}
use Rattle.mdns_base.specs.Hosts.{mdns_port, dest_eq}
use Rattle.dns_name.specs.Names.{folded_eq}
use Rattle.dns_record.specs.declared.record.Rr.{Rr}
use Rattle.dns_record.specs.Records.{kind_of}
use Rattle.dns_record.specs.Conflicts.{clashes, loses_tie}
use Rattle.dns_message.specs.declared.message.Message.{Message}
use Rattle.mdns_history.specs.declared.entry.Sent.{Sent}
use Rattle.mdns_history.specs.declared.entry.Entry.{Entry}
use Rattle.mdns_history.specs.InForce.{Duties}
use Rattle.mdns_history.specs.Hearings.{Heard, heard_in, counted_records}
use Rattle.mdns_history.specs.Groups.{Group, groups, group_name, unique_records}
use Rattle.mdns_history.specs.Sureness.{is_probe, is_sure, sure_groups, is_own, sets_back}
use Rattle.mdns_history.specs.Claims.{was_probed}
use Rattle.mdns_history.specs.Announcing.{same_records}
use Rattle.mdns_history.specs.Debts.{sections}
use Rattle.mdns_history.specs.Fitting.{IsLegal}

-- whether a record is asserted as unique: it is to last, and has the flush bit or is no PTR record (those alone are shared)
abbrev pub is_asserted : Rr → Bool
is_asserted rr = nat_lt 0 rr.ttl && (rr.flush || not (kind_of rr.rdata == 12))

-- whether a record has the name of a sure group
abbrev pub has_sure_name : List Entry → Rr → Bool
has_sure_name history rr = list_any (λ group. folded_eq (group_name group history) rr.owner) (sure_groups history)

-- whether each unique record that a message asserts has the name of a sure group
abbrev pub asserts_sure : List Entry → Message → Bool
asserts_sure history message = not message.response || list_all (λ rr. not (is_asserted rr) || has_sure_name history rr) (sections message)

-- Whether what was heard conflicts with a group's claim: a response with a record that clashes with its records, or, until the group is sure, a query to
-- which it loses the tie.
abbrev pub conflicts : Group → List Entry → Option Heard → Bool
conflicts group past None = false
conflicts group past (Some heard) =
    let name = group_name group past in
    let unique = unique_records group past in
    let tied = not heard.message.response && (heard.from.port == mdns_port) && loses_tie name unique heard.message.authority in
    clashes name unique (counted_records (Some heard)) || (not (is_sure group past) && tied)

-- whether no packet conflicted with a group's claim from its first probe on, since it was last set back
abbrev pub is_unanswered : Group → List Entry → Bool
is_unanswered group [] = true
is_unanswered group (entry ∷ past) = let before = is_unanswered group past in
    sets_back group.id entry past || ((not (was_probed group past) || not (conflicts group past (heard_in entry))) && before)

-- whether a message, if it is a probe of a name, goes to all and lists in its authority section the unique records of a live group of that name
abbrev pub is_whole : List (List ℕ) → List Entry → Sent → Bool
is_whole name past sent =
    not (is_probe name sent.message)
    || (dest_eq sent.to All && list_any (λ group. folded_eq (group_name group past) name && same_records (unique_records group past) sent.message.authority) (groups past))

-- whether each record that a message takes back was own
abbrev pub takes_back_own : List Entry → Message → Bool
takes_back_own past message = not message.response || list_all (λ rr. nat_lt 0 rr.ttl || is_own rr past) (sections message)

-- What an entry asserts is earned. Each unique record has the name of a group that is sure by then: since it was last set back it was probed three times, each
-- a quarter of a second behind the one before, and as long passed behind the third. No packet conflicted with a sure group from its first probe on. Each probe
-- was whole. And what is taken back was own.
pub record IsEarned (entry : Entry) (past : List Entry) : Type 0 where
  pub sure : list_all (λ sent. asserts_sure (entry ∷ past) sent.message) entry.sent ≡ true
  pub unanswered : list_all (λ group. is_unanswered group (entry ∷ past)) (sure_groups (entry ∷ past)) ≡ true
  pub probes : (name : List (List ℕ)) → list_all (is_whole name past) entry.sent ≡ true
  pub goodbyes : list_all (λ sent. takes_back_own past sent.message) entry.sent ≡ true

-- the law that so it is of each entry of a legal history
abbrev pub AssertionsAreEarned : Type 0
AssertionsAreEarned = (duties : Duties) (entry : Entry) (past : List Entry) → IsLegal duties (entry ∷ past) → IsEarned entry past
