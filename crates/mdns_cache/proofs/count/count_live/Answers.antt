use Rattle.std.proofs.Common.{◌∙◌, ◌<◌, List, sym}
use Rattle.std.specs.Map.{values_of}
use Rattle.std.proofs.lemmas.Map.Entries.{length-values_of}
use Rattle.by_name.specs.Filed.{in_layers}
use Rattle.by_name.proofs.Layers.{in_layers-permutes}
use Rattle.mdns_history.specs.declared.held.Held.{Held}
use Rattle.mdns_cache.specs.Lifetimes.{AllLive}
use Rattle.mdns_cache.specs.Named.{Entry}
use Rattle.mdns_cache.proofs.EndsFirst.{each-permuted}
use Rattle.mdns_cache.proofs.NewOnes.{all-live, live-before_end}
use Rattle.mdns_cache.proofs.count.count_live.Goals as goal

pub returns-else-has_ended : goal.returns-else-has_ended
returns-else-has_ended c =
    let es : List Entry = c.args.records.now.entries in
    let layers_live : AllLive c.args.now (in_layers es) = live-before_end c.args.now (in_layers es) c.args.first_end c.requires (c.has_ended.ensures c.if-has_ended.false) in
    let live : AllLive c.args.now (values_of es) = each-permuted (λ (one : Held). c.args.now < one.end) (in_layers es) (values_of es) (in_layers-permutes es) layers_live in
    c.len.ensures.len ∙ sym (length-values_of es) ∙ all-live c.args.now (values_of es) live
