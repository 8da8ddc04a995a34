use Rattle.std.proofs.Common.{◌≡◌, ◌<◌, ◌++◌, ◌∙◌, List, ℕ, length, map, take, drop, set, arith, ap, refl, subst, sym}
use Rattle.std.proofs.lemmas.List.Edits.{map_over_more}
use Rattle.mdns_timer.specs.Parts.{NoneDue}
use Rattle.mdns_debts.specs.Queries.{Query}
use Rattle.mdns_debts.specs.Following.{leaves, left_by}
use Rattle.mdns_owing.specs.Owing.{news_in}
use Rattle.mdns_owing.proofs.Told.{told_further}
use Rattle.mdns_owing.proofs.Due.{length_timed, stays_undue, left_between, left_whole}
use Rattle.mdns_owing.proofs.owing.follow_due.Goals as goal

pub loop-place-preserved : goal.loop-place-preserved
loop-place-preserved c =
    let queries : List Query = c.args.queries.now in
    let moments : List ℕ = c.args.deadlines.now.moments in
    let f : Query → Query = left_by (leaves (news_in c.args.news.now)) in
    let len : length moments ≡ length queries = length_timed queries moments c.requires.kept.timed in
    let there : c.in-Some.place < length queries = omega (arith, len, c.in-Some.ensures.within) in
    let found = c.in-Some.ensures.some in
    let here : c.loop-place.queries ≡ map f (take c.in-Some.place queries) ++ drop c.in-Some.place queries =
    c.loop-place.invariant.left
    ∙ left_between f queries c.loop-place.from c.in-Some.place found.behind (omega (arith, there))
    (stays_undue (news_in c.args.news.now) queries moments c.loop-place.from c.in-Some.place c.requires.alone c.requires.kept.timed (omega (arith, there)) found.first) in
    let below : c.in-Some.place < length c.loop-place.queries = omega (arith, there) in
    record {
      within = omega (arith, there);
      left = ap (set c.loop-place.queries c.in-Some.place) (c.follow.ensures.left ∙ ap f (sym c.index-queries-place.is))
          ∙ map_over_more f queries c.loop-place.queries c.in-Some.place c.index-queries-place.result there here c.index-queries-place.is;
      told = c.with-satisfied.ensures c.loop-place.queries c.follow.new.self below c.follow.ensures.owed
          (told_further c.loop-place.from c.in-Some.place c.loop-place.satisfied c.loop-place.queries found.behind c.loop-place.invariant.told);
    }

pub loop-place-init : goal.loop-place-init
loop-place-init c = record { within = omega arith; left = refl; told = c.requires.kept.owed }

pub returns-clause-satisfied : goal.returns-clause-satisfied
returns-clause-satisfied c = told_further c.loop-place.from (length c.loop-place.queries) c.loop-place.satisfied c.loop-place.queries (omega arith) c.loop-place.invariant.told

pub returns-clause-left : goal.returns-clause-left
returns-clause-left c =
    let queries : List Query = c.args.queries.now in
    let moments : List ℕ = c.args.deadlines.now.moments in
    let f : Query → Query = left_by (leaves (news_in c.args.news.now)) in
    let len : length moments ≡ length queries = length_timed queries moments c.requires.kept.timed in
    c.loop-place.invariant.left
    ∙ left_between f queries c.loop-place.from (length queries) c.loop-place.invariant.within (omega arith)
    (stays_undue (news_in c.args.news.now) queries moments c.loop-place.from (length queries) c.requires.alone c.requires.kept.timed (omega arith)
    (subst (NoneDue moments (news_in c.args.news.now).moment c.loop-place.from) len c.in_default.ensures.none))
    ∙ left_whole f queries
