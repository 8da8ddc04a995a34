use Rattle.std.proofs.Common.{◌≡◌, [], map}
use Rattle.lists.specs.Lists.{without}
use Rattle.dns_record.specs.Records.{same}
use Rattle.mdns_history.specs.Sending.{taken_back}
use Rattle.mdns_happened.specs.Told.{told_by}
use Rattle.mdns_claims.specs.Owned.{own_in}
use Rattle.mdns_claims.specs.Planned.{going_on}
use Rattle.mdns_responding.proofs.responder.Responder.gone.Given as goal

abbrev pub invariant-loop-rr : goal.invariant-loop-rr
invariant-loop-rr l =
    l.gone ≡ map taken_back (without same l.yielded (own_in (going_on (told_by l.self.behind.now.means.happened.now) [] l.self.behind.now.groups.now)))
