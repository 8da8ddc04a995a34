use Rattle.std.proofs.Common.{◌≡◌, ◌++◌, ◌==◌, drop}
use Rattle.std.specs.Prelude.{filter}
use Rattle.dns_record.specs.Records.{kind_of}
use Rattle.mdns_responding.specs.Told.{is_free_by}
use Rattle.mdns_responding.proofs.responder.Responder.put_kind.Given as goal

abbrev pub invariant-loop-rr : goal.invariant-loop-rr
invariant-loop-rr l =
    l.wanted ++ filter (is_free_by l.self.lasts.now.lasts l.self.behind.now.means.moment) (filter (λ rr. kind_of rr.rdata == l.kind) (drop l.rr-index l.own))
    ≡ l.initial.wanted ++ filter (is_free_by l.self.lasts.now.lasts l.self.behind.now.means.moment) (filter (λ rr. kind_of rr.rdata == l.kind) l.own)
