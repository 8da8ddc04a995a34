use Rattle.std.proofs.Common.{◌≡◌, ◌++◌, take}
use Rattle.mdns_history.proofs.shared.put_shared.Given as goal

abbrev pub invariant-loop-rr : goal.invariant-loop-rr
invariant-loop-rr l = l.records.items ≡ l.initial.records.items ++ take l.rr-index l.others
