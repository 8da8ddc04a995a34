use Rattle.std.proofs.Common.{slice_get, ap, ◌∙◌}
use Rattle.mdns_cache.specs.Contents.{Contents}
use Rattle.mdns_cache.specs.Lifetimes.{held_of}
use Rattle.mdns_cache.proofs.Visiting.{visited_at}
use Rattle.mdns_cache.proofs.cache.Cache.visit_at.Goals as goal

pub returns-clause-visited : goal.returns-clause-visited
returns-clause-visited g c = λ name named.
    c.get.ensures ∙ visited_at name c.args.place.now c.self.inside.records.entries c.self.invariant.0 named
    ∙ ap (λ (v : Contents). slice_get (held_of name v.held) c.args.place.now.number) c.self.view_is
