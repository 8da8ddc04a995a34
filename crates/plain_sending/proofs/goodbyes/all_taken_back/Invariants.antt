use Rattle.std.proofs.Common.{◌≡◌, map}
use Rattle.mdns_history.specs.Sending.{taken_back}
use Rattle.plain_sending.proofs.goodbyes.all_taken_back.Given as goal

abbrev pub invariant-loop-rr : goal.invariant-loop-rr
invariant-loop-rr l = l.gone.items ≡ map taken_back l.yielded
