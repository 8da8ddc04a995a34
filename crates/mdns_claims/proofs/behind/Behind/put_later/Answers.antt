use Rattle.std.proofs.Common.{◌∙◌, [], refl, sym, append-nil}
use Rattle.std.specs.Option.{option_map, option_map_or}
use Rattle.mdns_claims.specs.Later.{later_of, shown_of, shown_own}
use Rattle.mdns_claims.specs.Seen.{means_in}
use Rattle.mdns_claims.proofs.Ahead.{own_more}
use Rattle.mdns_claims.proofs.behind.Behind.put_later.Goals as goal
use Rattle.mdns_claims.proofs.behind.Behind.put_later.Goals.{then-may_have+in_ok-put_later_at, else-may_have}

pub loop-place-preserved : goal.loop-place-preserved
loop-place-preserved c =
    elim c.if-may_have.branch [
      | then-may_have+in_ok-put_later_at w ↦
          own_more (means_in c.args.self.now.means) c.args.self.now.deed.now c.args.self.now.groups.now c.loop-place.place c.index-groups-place.result c.loop-place-test.true c.index-groups-place.is
          c.args.name.now c.loop-place.rrs c.if-may_have.rrs
          (option_map_or (shown_own c.args.name.now) (option_map shown_of (later_of (means_in c.args.self.now.means) c.args.self.now.deed.now c.loop-place.place c.index-groups-place.result)) [])
          (w.rrs-is ∙ w.in_ok-put_later_at.ensures) refl
          ∙ c.loop-place.invariant
      | else-may_have w ↦
          own_more (means_in c.args.self.now.means) c.args.self.now.deed.now c.args.self.now.groups.now c.loop-place.place c.index-groups-place.result c.loop-place-test.true c.index-groups-place.is
          c.args.name.now c.loop-place.rrs c.if-may_have.rrs [] (w.rrs-is ∙ sym (append-nil c.loop-place.rrs))
          (sym (c.may_have.ensures w.if-may_have.false c.loop-place.place c.args.name.now c.bit_of-bit.ensures))
          ∙ c.loop-place.invariant
    ]
