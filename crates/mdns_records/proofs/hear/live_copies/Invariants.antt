use Rattle.std.proofs.Common.{◌≡◌, take, filter}
use Rattle.mdns_history.specs.Lifetimes.{is_live_at}
use Rattle.mdns_records.proofs.hear.live_copies.Given as goal

abbrev pub invariant-loop-one : goal.invariant-loop-one
invariant-loop-one l = l.live.items ≡ filter (is_live_at l.when.moment) (take l.one-index l.held)
