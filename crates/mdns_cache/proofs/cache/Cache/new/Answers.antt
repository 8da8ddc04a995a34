use Rattle.mdns_cache.proofs.Hearing.{Holds-none}
use Rattle.mdns_cache.proofs.Kept.{nothing_yet}
use Rattle.mdns_cache.proofs.cache.Cache.new.Goals as goal

pub invariant_of-result : goal.invariant_of-result
invariant_of-result c = nothing_yet c.new.result.entries c.new.result.spare c.new-2.result.items c.new.ensures.entries c.new.ensures.spare c.new-2.ensures.items

pub returns-clause-stands : goal.returns-clause-stands
returns-clause-stands c = λ moment. rw c.new.ensures.entries (Holds-none moment)
