use Rattle.std.proofs.Common.{◌≡◌, ◌++◌, take, map}
use Rattle.mdns_history.specs.Items.{given_to}
use Rattle.sd_sessions.proofs.change.put_gifts.Given as goal

abbrev pub invariant-loop-item : goal.invariant-loop-item
invariant-loop-item l = l.gifts ≡ l.initial.gifts ++ map (given_to l.session) (take l.item-index l.items)
