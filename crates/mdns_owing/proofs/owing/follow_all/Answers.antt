use Rattle.std.proofs.Common.{◌<◌, ◌∙◌, arith, length, sym, ap, refl, set}
use Rattle.std.proofs.lemmas.List.Edits.{map_over_more}
use Rattle.mdns_debts.specs.Queries.{Query}
use Rattle.mdns_debts.specs.Following.{leaves, left_by}
use Rattle.mdns_owing.specs.Owing.{news_in}
use Rattle.mdns_owing.proofs.owing.follow_all.Goals as goal

pub loop-place-init : goal.loop-place-init
loop-place-init c = record { left = refl; told = c.requires.owed }

pub loop-place-preserved : goal.loop-place-preserved
loop-place-preserved c =
    let f : Query → Query = left_by (leaves (news_in c.args.news.now)) in
    let below : c.loop-place.place < length c.loop-place.queries = omega (arith, c.loop-place-test.true) in
    record {
      left = ap (set c.loop-place.queries c.loop-place.place) (c.follow_or_pass.ensures.left ∙ ap f (sym c.index-queries-place.is))
          ∙ map_over_more f c.args.queries.now c.loop-place.queries c.loop-place.place c.index-queries-place.result c.loop-place-test.true c.loop-place.invariant.left c.index-queries-place.is;
      told = c.with-satisfied.ensures c.loop-place.queries c.follow_or_pass.new.self below c.follow_or_pass.ensures.owed c.loop-place.invariant.told;
    }
