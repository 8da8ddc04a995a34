use Rattle.std.proofs.Common.{◌∙◌, List, ap}
use Rattle.std.specs.Map.{values_of}
use Rattle.mdns_history.specs.declared.held.Held.{Held}
use Rattle.mdns_cache.specs.Counted.{is_live_in}
use Rattle.mdns_cache.proofs.NewOnes.{live-told, none-told}
use Rattle.mdns_cache.proofs.count.is_held.Goals as goal

pub returns-in-Ok : goal.returns-in-Ok
returns-in-Ok c =
    c.is_live_in.ensures
    ∙ ap (λ (held : List Held). is_live_in c.args.now held c.in-Ok.index) c.values.ensures
    ∙ live-told c.args.now c.args.rr.now (values_of c.args.records.now.entries) c.requires.once c.in-Ok.index c.in-Ok.ensures.found

pub returns-in-Err : goal.returns-in-Err
returns-in-Err c = none-told c.args.now c.args.rr.now (values_of c.args.records.now.entries) c.in-Err.ensures.none
