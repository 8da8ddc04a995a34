use Rattle.std.proofs.Common.{◌≡◌, take}
use Rattle.mdns_history.specs.Sending.{own_of}
use Rattle.plain_sending.proofs.wanted.own_of.Given as goal

abbrev pub invariant-loop-rr : goal.invariant-loop-rr
invariant-loop-rr l = l.found.items ≡ own_of (take l.rr-index l.own) l.kind l.name
