use Rattle.std.proofs.Common.{◌∙◌, sym, ap, set}
use Rattle.std.proofs.lemmas.List.Edits.{map_over_more}
use Rattle.dns_message.specs.Packing.{plain_record}
use Rattle.mdns_pack.proofs.legacy.make_all_plain.Goals as goal

pub loop-rr-preserved : goal.loop-rr-preserved
loop-rr-preserved c =
    ap (set c.loop-rr.records c.loop-rr.rr-index) (c.make_plain.ensures ∙ ap plain_record (sym c.rr-item.is))
    ∙ map_over_more plain_record c.args.records.now c.loop-rr.records c.loop-rr.rr-index c.rr-item.result c.loop-rr-test.true c.loop-rr.invariant c.rr-item.is
