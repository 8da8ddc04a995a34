use Rattle.std.proofs.Common.{◌≡◌, ◌++◌, drop}
use Rattle.std.specs.Prelude.{filter}
use Rattle.mdns_responding.specs.Told.{is_free_by}
use Rattle.mdns_responding.proofs.responder.Responder.put_free.Given as goal

abbrev pub invariant-loop-rr : goal.invariant-loop-rr
invariant-loop-rr l =
    l.free.items ++ filter (is_free_by l.self.lasts.now.lasts l.self.behind.now.means.moment) (drop l.rr-index l.some)
    ≡ l.initial.free.items ++ filter (is_free_by l.self.lasts.now.lasts l.self.behind.now.means.moment) l.some
