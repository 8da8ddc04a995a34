use Rattle.std.proofs.Common.{◌≡◌, ◌++◌, drop}
use Rattle.std.specs.List.{flat_map}
use Rattle.std.specs.Option.{option_to_list}
use Rattle.lists.specs.Lists.{least}
use Rattle.mdns_question.specs.Next.{open_in}
use Rattle.mdns_question.proofs.kept.first_refresh.Given as goal

abbrev pub invariant-loop-told : goal.invariant-loop-told
invariant-loop-told l = least (option_to_list l.first ++ flat_map (open_in l.one) (drop l.told-index l.held)) ≡ least (flat_map (open_in l.one) l.held)
