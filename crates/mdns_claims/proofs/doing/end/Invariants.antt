use Rattle.std.proofs.Common.{◌≡◌, ◌≤◌, length, not}
use Rattle.std.specs.Prelude.{filter}
use Rattle.mdns_happened.specs.Told.{told_by}
use Rattle.mdns_probe.specs.Kept.{Kept}
use Rattle.mdns_renewals.specs.Occasions.{ends_by}
use Rattle.mdns_claims.proofs.Taking.{left_at}
use Rattle.mdns_claims.proofs.doing.end.Given as goal

abbrev pub invariant-loop-place : goal.invariant-loop-place
invariant-loop-place l = record {
  within : l.place ≤ length l.groups.kept;
  left : left_at (λ (one : Kept). not (ends_by (told_by l.happened) l.marks one.group)) l.groups.kept l.place
      ≡ filter (λ (one : Kept). not (ends_by (told_by l.happened) l.marks one.group)) l.initial.groups.kept;
}

abbrev pub decreases-loop-place : goal.decreases-loop-place
decreases-loop-place l = l.place
