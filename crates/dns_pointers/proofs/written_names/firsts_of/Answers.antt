use Rattle.std.proofs.Common.{refl}
use Rattle.dns_pointers.proofs.Searching.{none_yet}
use Rattle.dns_pointers.proofs.written_names.firsts_of.Goals as goal

pub loop-place-init : goal.loop-place-init
loop-place-init c = none_yet _ _ refl
