use Rattle.std.proofs.Common.{slice_get, ap, ◌∙◌}
use Rattle.by_name.specs.At.{At}
use Rattle.mdns_cache.specs.Lifetimes.{held_of}
use Rattle.mdns_cache.proofs.cache.Cache.visit.Goals as goal

pub returns-clause-visited : goal.returns-clause-visited
returns-clause-visited g c =
    c.visit_at.ensures.visited c.args.name.now (ap (λ (a : At). a.owner) c.new.ensures)
    ∙ ap (λ (a : At). slice_get (held_of c.args.name.now c.args.self.now.held) a.number) c.new.ensures
