use Rattle.std.proofs.Common.{◌≡◌, ℕ, ◌<◌, length, get_or}
use Rattle.std.specs.Char.{to_ascii_lowercase}
use Rattle.dns_name.proofs.fold.is_same_folded.Given as goal

abbrev pub invariant-loop-i : goal.invariant-loop-i
invariant-loop-i l = record {
  as_long : length l.left ≡ length l.right;
  alike : (k : ℕ) → k < l.i → to_ascii_lowercase (get_or l.left k 0) ≡ to_ascii_lowercase (get_or l.right k 0);
}
