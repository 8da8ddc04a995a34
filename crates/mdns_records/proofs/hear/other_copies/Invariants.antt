use Rattle.std.proofs.Common.{◌≡◌, ◌&&◌, take, filter}
use Rattle.mdns_history.specs.Lifetimes.{is_live_at, is_other}
use Rattle.mdns_records.proofs.hear.other_copies.Given as goal

abbrev pub invariant-loop-one : goal.invariant-loop-one
invariant-loop-one l = l.live.items ≡ filter (λ one. is_live_at l.when.moment one && is_other l.rr one) (take l.one-index l.held)
