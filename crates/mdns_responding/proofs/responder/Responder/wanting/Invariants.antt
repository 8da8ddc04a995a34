use Rattle.std.proofs.Common.{◌≡◌, map}
use Rattle.mdns_claims.specs.Later.{groups_behind}
use Rattle.mdns_claims.specs.Owned.{own_in}
use Rattle.mdns_responding.specs.Told.{wanted_told}
use Rattle.mdns_responding.proofs.responder.Responder.wanting.Given as goal

abbrev pub invariant-loop-answer : goal.invariant-loop-answer
invariant-loop-answer l =
    l.wanting.items ≡ map (λ rr. (rr, wanted_told l.self.lasts.now.lasts l.self.behind.now.means.moment (own_in (groups_behind l.self.behind.now)) rr)) l.yielded
