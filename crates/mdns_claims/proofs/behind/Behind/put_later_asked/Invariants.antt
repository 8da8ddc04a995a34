use Rattle.mdns_claims.specs.Seen.{means_in}
use Rattle.mdns_claims.proofs.Asked.{IsLeft}
use Rattle.mdns_claims.proofs.behind.Behind.put_later_asked.Given as goal

abbrev pub invariant-loop-place : goal.invariant-loop-place
invariant-loop-place l = IsLeft (means_in l.self.means) l.self.deed.now l.groups l.place l.initial.asked l.asked
