use Rattle.std.proofs.Common.{◌≡◌, ◌++◌, drop}
use Rattle.std.specs.List.{filter_map}
use Rattle.mdns_history.specs.Items.{item_for}
use Rattle.plain_items.proofs.queued.put_given.Given as goal

abbrev pub invariant-loop-gift : goal.invariant-loop-gift
invariant-loop-gift l = l.items.items ++ filter_map (item_for l.session) (drop l.gift-index l.gifts) ≡ l.initial.items.items ++ filter_map (item_for l.session) l.gifts
