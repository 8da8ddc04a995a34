use Rattle.std.proofs.Common.{length}
use Rattle.plain_claims.proofs.conflict.+is_stormy.Given as goal

abbrev pub decreases-is_stormy : goal.decreases-is_stormy
decreases-is_stormy l = length l.moments.now
