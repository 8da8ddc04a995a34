use Rattle.std.proofs.Common.{◌≡◌, ◌++◌, map, take, drop}
use Rattle.mdns_cache.specs.Lifetimes.{hearing_at, shortened}
use Rattle.mdns_records.proofs.hear.shorten.Given as goal

abbrev pub invariant-loop-one : goal.invariant-loop-one
invariant-loop-one l = l.held ≡ map (shortened (hearing_at l.when.moment 0 l.rr)) (take l.one-index l.initial.held) ++ drop l.one-index l.initial.held
