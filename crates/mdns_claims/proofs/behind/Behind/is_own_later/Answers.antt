use Rattle.std.proofs.Common.{◌∙◌, sym}
use Rattle.dns_record.specs.Records.{same}
use Rattle.mdns_claims.specs.Seen.{means_in}
use Rattle.mdns_claims.proofs.Stays.{any_more}
use Rattle.mdns_claims.proofs.behind.Behind.is_own_later.Goals as goal

pub loop-place-preserved : goal.loop-place-preserved
loop-place-preserved c =
    any_more (means_in c.args.self.now.means) c.args.self.now.deed.now c.args.self.now.groups.now c.loop-place.place c.index-groups-place.result c.loop-place-test.true c.index-groups-place.is
    (same c.args.rr.now) (sym c.has_later.ensures ∙ c.if-has_later.false)
    ∙ c.loop-place.invariant
