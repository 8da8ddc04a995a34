use Rattle.std.proofs.Common.{◌≡◌, take}
use Rattle.std.specs.List.{filter_map}
use Rattle.mdns_history.specs.Sending.{key_in_mark}
use Rattle.plain_sending.proofs.queries.keys_in.Given as goal

abbrev pub invariant-loop-mark : goal.invariant-loop-mark
invariant-loop-mark l = l.keys.items ≡ filter_map key_in_mark (take l.mark-index l.askings)
