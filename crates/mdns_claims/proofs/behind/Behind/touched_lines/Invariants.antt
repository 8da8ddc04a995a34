use Rattle.std.proofs.Common.{◌≡◌, ◌-◌, ◌≤◌, ℕ, false, List, length}
use Rattle.mdns_happened.specs.Registrations.{AreRegistered, is_told}
use Rattle.mdns_probe.specs.Kept.{Kept}
use Rattle.mdns_claimants.specs.Owned.{registered_answers}
use Rattle.mdns_claims.specs.Later.{groups_behind}
use Rattle.mdns_claims.specs.Seen.{means_in}
use Rattle.mdns_claims.proofs.Touched.{SameAnswers}
use Rattle.mdns_claims.proofs.behind.Behind.touched_lines.Given as goal

abbrev pub invariant-loop-place : goal.invariant-loop-place
invariant-loop-place l = record {
  within : l.from ≤ length l.self.groups.now;
  are : AreRegistered (λ session op. registered_answers session op l.self.groups.now) (λ session op. registered_answers session op (groups_behind l.self)) l.lines.items;
  rest : (session op : ℕ) → is_told l.lines.items session op ≡ false → (new : List Kept) → SameAnswers (means_in l.self.means) l.self.deed.now l.self.groups.now session op new l.from
      → SameAnswers (means_in l.self.means) l.self.deed.now l.self.groups.now session op new 0;
}

abbrev pub decreases-loop-place : goal.decreases-loop-place
decreases-loop-place l = length l.self.groups.now - l.from
