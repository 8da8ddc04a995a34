use Rattle.std.proofs.Common.{sym, ap, ◌∙◌}
use Rattle.mdns_pack.specs.Listing.{unlisted}
use Rattle.mdns_pack.proofs.Listings.{laid_like, laid_more}
use Rattle.mdns_pack.proofs.listing.lay_all.Goals as goal

pub lay_onto-requires : goal.lay_onto-requires
lay_onto-requires c =
    ap unlisted (sym c.index-records-place.is)
    ∙ laid_like c.args.listings.now c.args.records.now c.loop-place.records c.loop-place.place c.requires c.loop-place-test.true c.loop-place.invariant c.index-records-place.result
    c.index-listings-place.result c.index-records-place.is c.index-listings-place.is

pub loop-place-preserved : goal.loop-place-preserved
loop-place-preserved c =
    laid_more c.args.listings.now c.args.records.now c.loop-place.records c.loop-place.place c.requires c.loop-place-test.true c.loop-place.invariant c.index-listings-place.result c.lay_onto.new.rr
    c.index-listings-place.is c.lay_onto.ensures
