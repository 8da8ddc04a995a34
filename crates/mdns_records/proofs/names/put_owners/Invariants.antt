use Rattle.std.proofs.Common.{◌≡◌, ◌++◌, map, take}
use Rattle.mdns_records.proofs.names.put_owners.Given as goal

abbrev pub invariant-loop-rr : goal.invariant-loop-rr
invariant-loop-rr l = l.names.items ≡ l.initial.names.items ++ map (λ rr. rr.owner) (take l.rr-index l.heard)
