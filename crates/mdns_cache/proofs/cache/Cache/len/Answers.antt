use Rattle.std.proofs.Common.{◌∙◌, sym, ap, length}
use Rattle.mdns_cache.specs.Contents.{Contents}
use Rattle.mdns_cache.proofs.Kept.{held_len}
use Rattle.mdns_cache.proofs.cache.Cache.len.Goals as goal

pub returns : goal.returns
returns c = c.len.ensures.len ∙ sym (held_len c.self.inside.records.entries) ∙ ap (λ (v : Contents). length v.held) c.self.view_is
