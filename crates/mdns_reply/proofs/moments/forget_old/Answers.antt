use Rattle.std.proofs.Common.{◌∙◌, rules}
use Rattle.indexmap.proofs.CallerLemmas.{filter-RetainsPairs}
use Rattle.mdns_reply.proofs.moments.forget_old.Goals as goal

pub returns : goal.returns
returns c = c.shrink_to.ensures.entries ∙ filter-RetainsPairs _ _ _ (λ k v b w g call. search rules) _ _ c.retain.ensures.filtered
