use Rattle.std.proofs.Common.{◌≡◌, ℕ, ◌<◌, ◌≤◌, true, get_or}
use Rattle.dns_name.specs.Names.{folded_eq}
use Rattle.mdns_question.specs.declared.tracked.Tracked.{Tracked}
use Rattle.mdns_question.proofs.named.first_to.Given as goal

abbrev pub invariant-loop-first : goal.invariant-loop-first
invariant-loop-first l = record {
  order : l.first ≤ l.to;
  named : (k : ℕ) → k < l.to → (d : Tracked) → l.first ≤ k → folded_eq l.name (get_or l.questions k d).key.name ≡ true;
}

abbrev pub decreases-loop-first : goal.decreases-loop-first
decreases-loop-first l = l.first
