use Rattle.std.proofs.Common.{◌≡◌, ◌++◌}
use Rattle.mdns_known.proofs.Live.{listed_up_to}
use Rattle.mdns_known.proofs.known.put_known_listings.Given as goal

abbrev pub invariant-loop-one : goal.invariant-loop-one
invariant-loop-one l = l.known.items ≡ l.initial.known.items ++ listed_up_to l.question l.held l.now l.one-index
