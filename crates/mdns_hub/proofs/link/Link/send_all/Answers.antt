use Rattle.std.proofs.Common.{◌∙◌, ◌+◌, drop, ap, arith}
use Rattle.mdns_hub.specs.Links.{with_packets}
use Rattle.mdns_hub.specs.Kept.{link_of}
use Rattle.mdns_hub.specs.Slots.{address_at}
use Rattle.mdns_hub.proofs.Spreading.{sent_next}
use Rattle.mdns_hub.proofs.link.Link.send_all.Goals as goal

pub loop-one-preserved : goal.loop-one-preserved
loop-one-preserved c =
    let slots = c.args.daemons.now.slots.items in
    record {
      sent = ap (with_packets (address_at slots) c.args.now c.args.sender (drop (c.loop-one.one-index + 1) c.args.sent.now)) c.in_ok-send.ensures.done
          ∙ sent_next (address_at slots) c.args.now c.args.sender c.args.sent.now c.loop-one.one-index (c.loop-one.one-index + 1) c.one-item.result (link_of c.loop-one.self) (omega arith) c.loop-one-test.true c.one-item.is
          ∙ c.loop-one.invariant.sent;
      fit = λ from l h. c.in_ok-send.ensures.fit from l (c.loop-one.invariant.fit from l h);
      early = c.in_ok-send.ensures.early ∙ c.loop-one.invariant.early;
    }
