-- What becomes of a claim: probes, sureness, announcements, setbacks. (RFC 6762 8)
use Rattle.std.specs.Prelude.{ℕ, ◌+◌, ◌≤◌, ◌==◌, nat_le, nat_lt, Bool, true, false, not, ◌&&◌, List, [], ◌∷◌, ◌++◌, Option, Some, None, if◌then◌else◌}
use Rattle.std.specs.List.{filter_map}
use Rattle.dns_record.specs.declared.record.Rr.{Rr}
use Rattle.mdns_history.specs.Sureness.{probe_gap}
use Rattle.mdns_history.specs.Announcing.{same_records}
use Rattle.mdns_probe.specs.declared.claim.Claim.{Claim}
use Rattle.mdns_probe.specs.declared.claim.Change.{Change}
use Rattle.mdns_probe.specs.declared.claim.Change.TheVariants.{SetBack, Probed, Settled, Announced}
use Rattle.mdns_probe.specs.declared.due.Due.{Due}
use Rattle.mdns_probe.specs.declared.due.Due.TheVariants.{Probe, Settle, Announce}
use Rattle.mdns_probe.specs.declared.claim.Gone.{Gone}

-- the least time between two announcements
abbrev pub announce_gap : ℕ
announce_gap = 1000

-- the claim of a group that is registered at a moment, and waits so long for its first probe
abbrev pub begun : ℕ → ℕ → ℕ → List Rr → List Rr → Claim
begun moment wait group unique shared =
    record { group = group; unique = unique; shared = shared; probes = 0; due = moment + wait; sure = false; announced = 0; next = 0 }

-- a claim that has to be probed anew is as it began
abbrev pub set_back : ℕ → ℕ → Claim → Claim
set_back moment wait claim = begun moment wait claim.group claim.unique claim.shared

-- a claim after a probe
abbrev pub probed_at : ℕ → Claim → Claim
probed_at moment claim = record claim { probes = claim.probes + 1; due = moment + probe_gap }

-- a claim that became sure
abbrev pub settled_at : ℕ → Claim → Claim
settled_at moment claim = record claim { sure = true; announced = 0; next = moment }

-- a claim after an announcement
abbrev pub announced_at : ℕ → Claim → Claim
announced_at moment claim = record claim { announced = claim.announced + 1; next = moment + announce_gap }

-- whether other records change a claim that is sure
abbrev pub renews : List Rr → List Rr → Claim → Bool
renews unique shared claim = claim.sure && not (same_records (unique ++ shared) (claim.unique ++ claim.shared))

-- a claim with other records: a sure one is announced anew where they differ
abbrev pub replaced : ℕ → List Rr → List Rr → Claim → Claim
replaced moment unique shared claim =
    record claim {
      unique = unique;
      shared = shared;
      announced = if renews unique shared claim then 0 else claim.announced;
      next = if renews unique shared claim then moment else claim.next;
    }

-- a claim that isn't sure is probed until three probes were sent
abbrev pub is_probe_due : ℕ → Claim → Bool
is_probe_due moment claim = not claim.sure && nat_lt claim.probes 3 && nat_le claim.due moment

-- it is sure once the gap behind the third has passed
abbrev pub is_settle_due : ℕ → Claim → Bool
is_settle_due moment claim = not claim.sure && nat_le 3 claim.probes && nat_le claim.due moment

-- a sure claim is announced twice
abbrev pub is_announce_due : ℕ → Claim → Bool
is_announce_due moment claim = claim.sure && nat_lt claim.announced 2 && nat_le claim.next moment

-- a claim, probed where that is due
abbrev pub probed_if : ℕ → Claim → Claim
probed_if moment claim = if is_probe_due moment claim then probed_at moment claim else claim

-- a claim, sure where that is due
abbrev pub settled_if : ℕ → Claim → Claim
settled_if moment claim = if is_settle_due moment claim then settled_at moment claim else claim

-- what a tick makes of a claim: a probe, or that it is sure
abbrev pub ticked : ℕ → Claim → Claim
ticked moment claim = if is_probe_due moment claim then probed_at moment claim else settled_if moment claim

-- a claim, announced where that is due and the daemon announces at all
abbrev pub announced_if : ℕ → Bool → Claim → Claim
announced_if moment announces claim = if announces && is_announce_due moment claim then announced_at moment claim else claim

-- a claim after a tick, which also announces it where that is due and the daemon announces at all
abbrev pub after_tick : ℕ → Bool → Claim → Claim
after_tick moment announces claim = announced_if moment announces (ticked moment claim)

-- a claim after a change
abbrev pub change_of : ℕ → Change → Claim → Claim
change_of moment (SetBack wait) claim = set_back moment wait claim
change_of moment Probed claim = probed_if moment claim
change_of moment Settled claim = settled_if moment claim
change_of moment Announced claim = announced_if moment true claim

-- a change that waits at most five seconds
abbrev pub has_wait : Change → Type 0
has_wait (SetBack wait) = wait ≤ 5000
has_wait _ = Unit {0}

-- whether a claim is that of a group
abbrev pub is_of : ℕ → Claim → Bool
is_of group claim = claim.group == group

-- a claim with a change, if it is that of a group
abbrev pub changed_of : ℕ → (Claim → Claim) → Claim → Claim
changed_of group change claim = if is_of group claim then change claim else claim

-- the claims with a change of the first one of a group
abbrev pub changed_first : ℕ → (Claim → Claim) → List Claim → List Claim
changed_first group change [] = []
changed_first group change (claim ∷ claims) = if is_of group claim then change claim ∷ claims else claim ∷ changed_first group change claims

-- the claims without the first one of a group
abbrev pub without_first : ℕ → List Claim → List Claim
without_first group [] = []
without_first group (claim ∷ claims) = if is_of group claim then claims else claim ∷ without_first group claims

-- what is left of a claim that is given up: whether it was sure, and its records
abbrev pub gone_of : Claim → Gone
gone_of claim = record { sure = claim.sure; unique = claim.unique; shared = claim.shared }

-- what is due of a claim at a moment, where announcements are made or aren't: at most one
abbrev pub due_of : Bool → ℕ → Claim → Option Due
due_of announces moment claim =
    if is_probe_due moment claim then Some (Probe claim.group)
    else if is_settle_due moment claim then Some (Settle claim.group)
    else if announces && is_announce_due moment claim then Some (Announce claim.group) else None

-- all that is due at a moment, in the order of the claims
abbrev pub all_due : Bool → ℕ → List Claim → List Due
all_due announces moment claims = filter_map (due_of announces moment) claims

-- the moment from which on something is due of a claim, if anything ever is by itself
abbrev pub next_of : Bool → Claim → List ℕ
next_of announces claim = if claim.sure then (if announces && nat_lt claim.announced 2 then claim.next ∷ [] else []) else claim.due ∷ []
