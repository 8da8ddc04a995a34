use Rattle.std.proofs.Common.{◌≡◌, ◌∙◌, sym, ap, length}
use Rattle.mdns_cache.specs.Contents.{Contents}
use Rattle.mdns_cache.proofs.Kept.{held_len, nothing_held}
use Rattle.mdns_cache.proofs.cache.Cache.is_empty.Goals as goal

pub returns : goal.returns
returns c =
    let len : length c.args.self.now.held ≡ length c.self.inside.records.entries = ap (λ (v : Contents). length v.held) (sym c.self.view_is) ∙ held_len c.self.inside.records.entries in (
      λ yes. nothing_held c.args.self.now.held (len ∙ ap length (c.is_empty.ensures.0 yes)),
      λ none. c.is_empty.ensures.1 (nothing_held c.self.inside.records.entries (sym len ∙ ap length none)),
    )
