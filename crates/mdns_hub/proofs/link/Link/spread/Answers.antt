use Rattle.std.proofs.Common.{◌≡◌, ◌∙◌, ◌+◌, Bool, List, ap, sym, subst, arith}
use Rattle.mdns_hub.specs.declared.delivery.Delivery.{Delivery}
use Rattle.mdns_hub.specs.declared.delivery.Parted.{Parted}
use Rattle.mdns_hub.specs.Links.{LinkState, hears_from, put_where}
use Rattle.mdns_hub.specs.Slots.{is_kept, address_at}
use Rattle.mdns_hub.specs.Order.{AreFit, early_count}
use Rattle.mdns_hub.proofs.Fitness.{fit_where, early_where}
use Rattle.mdns_hub.proofs.Spreading.{left_to_hear, to_daemon, next_hears, hears_kept}
use Rattle.mdns_hub.proofs.link.Link.spread.Goals as goal

pub loop-daemon-preserved : goal.loop-daemon-preserved
loop-daemon-preserved c =
    let slots = c.args.daemons.now.slots.items in
    let test : Bool = hears_from (address_at slots) c.loop-daemon.self.parted.items c.args.packet.now.sender c.args.packet.now.to c.loop-daemon.daemon in
    let before : List Delivery = c.loop-daemon.self.under_way.items in
    let items : c.reach.new.self.under_way.items ≡ put_where test (to_daemon c.args.packet.now c.loop-daemon.daemon) before = ap (λ (s : LinkState). s.under_way) c.in_ok-reach.ensures.done in
    let parted : c.loop-daemon.self.parted.items ≡ c.args.self.now.parted.items = ap (λ (s : LinkState). s.parted) c.loop-daemon.invariant.others in
    record {
      others = c.in_ok-reach.ensures.done ∙ rw items (ap (λ (s : LinkState). let state : LinkState = record s { under_way = put_where test (to_daemon c.args.packet.now c.loop-daemon.daemon) before } in state) c.loop-daemon.invariant.others);
      heard = ap (left_to_hear (address_at slots) c.args.self.now.parted.items c.args.packet.now (c.loop-daemon.daemon + 1)) items
          ∙ ap (λ (ps : List Parted). left_to_hear (address_at slots) c.args.self.now.parted.items c.args.packet.now (c.loop-daemon.daemon + 1)
          (put_where (hears_from (address_at slots) ps c.args.packet.now.sender c.args.packet.now.to c.loop-daemon.daemon) (to_daemon c.args.packet.now c.loop-daemon.daemon) before)) parted
          ∙ next_hears (address_at slots) c.args.self.now.parted.items c.args.packet.now c.loop-daemon.daemon before (omega (arith, c.loop-daemon-test.true))
          ∙ c.loop-daemon.invariant.heard;
      fit = λ from l h. subst (AreFit from (is_kept slots)) (sym items)
          (fit_where test from (is_kept slots) (to_daemon c.args.packet.now c.loop-daemon.daemon) before l (hears_kept slots c.loop-daemon.self.parted.items c.args.packet.now c.loop-daemon.daemon) (c.loop-daemon.invariant.fit from l h));
      early = λ now l. ap (early_count now) items ∙ early_where test now (to_daemon c.args.packet.now c.loop-daemon.daemon) before l ∙ c.loop-daemon.invariant.early now l;
    }
