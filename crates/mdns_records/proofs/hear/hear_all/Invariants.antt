use Rattle.std.proofs.Common.{◌≡◌, drop}
use Rattle.mdns_records.specs.After.{after_rest}
use Rattle.mdns_records.proofs.hear.hear_all.Given as goal

abbrev pub invariant-loop-rr : goal.invariant-loop-rr
invariant-loop-rr l = after_rest l.when.moment l.when.word l.name l.held.items (drop l.rr-index l.heard) ≡ after_rest l.when.moment l.when.word l.name l.initial.held.items l.heard
