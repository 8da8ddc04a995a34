use Rattle.dns_pointers.proofs.Searching.{none_yet}
use Rattle.dns_pointers.proofs.written_names.WrittenNames.new.Goals as goal

pub invariant_of-result : goal.invariant_of-result
invariant_of-result c = none_yet _ _ c.new.ensures.items
