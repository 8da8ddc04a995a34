use Rattle.std.proofs.Common.{◌≡◌, ◌++◌, take}
use Rattle.std.specs.List.{flat_map}
use Rattle.mdns_history.specs.EntryText.{given_line}
use Rattle.mdns_history.proofs.print.put_gifts.Given as goal

abbrev pub invariant-loop-gift : goal.invariant-loop-gift
invariant-loop-gift l = l.out.items ≡ l.fn.out.items ++ flat_map given_line (take l.gift-index l.gifts)
