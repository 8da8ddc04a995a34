use Rattle.std.proofs.Common.{◌≡◌, ◌++◌, drop}
use Rattle.mdns_happened.specs.Told.{told_by}
use Rattle.mdns_responding.specs.Announced.{ended_in, records_in}
use Rattle.mdns_responding.proofs.responder.Responder.ended.Given as goal

abbrev pub invariant-loop-one : goal.invariant-loop-one
invariant-loop-one l =
    l.records.items ++ records_in (ended_in (told_by l.self.behind.now.means.happened.now) (drop l.one-index l.groups))
    ≡ records_in (ended_in (told_by l.self.behind.now.means.happened.now) l.groups)
