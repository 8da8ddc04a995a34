use Rattle.std.proofs.Common.{◌≡◌, length}
use Rattle.std.specs.Cmp.Lexicographic.{slice_cmp}
use Rattle.std.specs.Ordering.{nat_cmp}
use Rattle.std.specs.Str.{str_to_ascii_lowercase}
use Rattle.dns_name.proofs.fold.folded_order.Given as goal

abbrev pub invariant-bytes : goal.invariant-bytes
invariant-bytes l =
    slice_cmp nat_cmp (str_to_ascii_lowercase l.ours) (str_to_ascii_lowercase l.theirs)
    ≡ slice_cmp nat_cmp (str_to_ascii_lowercase l.fn.left) (str_to_ascii_lowercase l.fn.right)

abbrev pub decreases-bytes : goal.decreases-bytes
decreases-bytes l = length l.ours
