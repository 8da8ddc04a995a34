use Rattle.std.proofs.lemmas.Cmp.{lists_total}
use Rattle.mdns_conflict.proofs.Ties.{tie_cmp-total}
use Rattle.mdns_conflict.proofs.Equals.{sides_equal}
use Rattle.mdns_conflict.proofs.law.ties_are_in_order.Goals as goal

pub returns : goal.returns
returns c = record { records = tie_cmp-total; sides = lists_total tie_cmp-total; equal = sides_equal }
