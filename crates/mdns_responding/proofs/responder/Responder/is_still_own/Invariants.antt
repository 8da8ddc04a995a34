use Rattle.std.proofs.Common.{◌≡◌, [], drop}
use Rattle.std.specs.List.{list_any}
use Rattle.dns_record.specs.Records.{same}
use Rattle.mdns_happened.specs.Told.{told_by}
use Rattle.mdns_claims.specs.Owned.{own_in}
use Rattle.mdns_claims.specs.Planned.{going_on}
use Rattle.mdns_responding.proofs.responder.Responder.is_still_own.Given as goal

abbrev pub invariant-loop-one : goal.invariant-loop-one
invariant-loop-one l =
    list_any (same l.rr) (own_in (going_on (told_by l.self.behind.now.means.happened.now) [] (drop l.one-index l.groups)))
    ≡ list_any (same l.rr) (own_in (going_on (told_by l.self.behind.now.means.happened.now) [] l.groups))
