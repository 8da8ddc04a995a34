use Rattle.std.proofs.Common.{◌≡◌, ◌++◌, map}
use Rattle.mdns_history.specs.Items.{given_to}
use Rattle.plain_items.proofs.served.put_gifts.Given as goal

abbrev pub invariant-loop-item : goal.invariant-loop-item
invariant-loop-item l = l.gifts.items ≡ l.initial.gifts.items ++ map (given_to l.session) l.yielded
