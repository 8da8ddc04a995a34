use Rattle.std.proofs.Common.{◌∙◌, ap}
use Rattle.mdns_history.specs.Lifetimes.{live_of}
use Rattle.mdns_cache.specs.Lifetimes.{next_end_of}
use Rattle.mdns_cache.proofs.LeastEnd.{next_end_of-permutation}
use Rattle.mdns_cache.proofs.cache.Cache.next_end.Goals as goal

pub returns-clause-live : goal.returns-clause-live
returns-clause-live c = λ heard moment holds.
    c.least_end.ensures ∙ ap (λ v. next_end_of v.held) c.self.view_is
    ∙ next_end_of-permutation c.args.self.now.held (live_of heard moment) holds
