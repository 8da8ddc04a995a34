use Rattle.std.proofs.Common.{◌<◌, ◌∙◌, arith, length, sym, ap, refl, set}
use Rattle.std.proofs.lemmas.List.Edits.{map_over_more}
use Rattle.mdns_claims.specs.Owned.{is_ours}
use Rattle.mdns_debts.specs.Queries.{Query}
use Rattle.mdns_debts.specs.Following.{left_by}
use Rattle.mdns_owing.proofs.owing.keep_all_ours.Goals as goal

pub loop-place-init : goal.loop-place-init
loop-place-init c = record { left = refl; told = c.requires }

pub loop-place-preserved : goal.loop-place-preserved
loop-place-preserved c =
    let f : Query → Query = left_by (λ query owed. is_ours c.args.claims.now.contents.kept owed.0) in
    let below : c.loop-place.place < length c.loop-place.queries = omega (arith, c.loop-place-test.true) in
    record {
      left = ap (set c.loop-place.queries c.loop-place.place) (c.keep_ours.ensures.left ∙ ap f (sym c.index-queries-place.is))
          ∙ map_over_more f c.args.queries.now c.loop-place.queries c.loop-place.place c.index-queries-place.result c.loop-place-test.true c.loop-place.invariant.left c.index-queries-place.is;
      told = c.with-satisfied.ensures c.loop-place.queries c.keep_ours.new.self below c.keep_ours.ensures.owed c.loop-place.invariant.told;
    }
