use Rattle.std.proofs.Common.{◌≡◌, drop, IsTrue}
use Rattle.std.specs.Prelude.{slice_get}
use Rattle.std.specs.List.{filter_map, list_all}
use Rattle.mdns_history.specs.Groups.{number_in_mark}
use Rattle.plain_history.specs.Standing.{is_small}
use Rattle.plain_groups.proofs.names.renaming.Given as goal

abbrev pub invariant-loop-mark : goal.invariant-loop-mark
invariant-loop-mark l = record {
  found : slice_get (filter_map (number_in_mark l.id) (drop l.mark-index l.mark-items)) 0 ≡ slice_get (filter_map (number_in_mark l.id) l.mark-items) 0;
  small : IsTrue (list_all is_small (drop l.mark-index l.mark-items));
}
