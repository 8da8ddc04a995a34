use Rattle.std.proofs.Common.{◌≡◌, ◌<◌, ◌∙◌, ℕ, length, arith, ap, subst}
use Rattle.std.proofs.lemmas.List.{take_all}
use Rattle.mdns_debts.specs.Following.{next_reply}
use Rattle.mdns_owing.specs.Owing.{last_in, AreNoSooner}
use Rattle.mdns_owing.proofs.Due.{length_timed, moments_for, first_next}
use Rattle.mdns_owing.proofs.Firsts.{one_more}
use Rattle.mdns_owing.proofs.first.first_due.Goals as goal

pub loop-place-preserved : goal.loop-place-preserved
loop-place-preserved c =
    let len : length c.args.deadlines.now.moments ≡ length c.args.queries.now = length_timed c.args.queries.now c.args.deadlines.now.moments c.requires in
    let there : c.in-Some.place < length c.args.queries.now = omega (arith, len, c.in-Some.ensures.within) in
    record {
      within = omega (arith, there);
      first = one_more (moments_for (last_in c.args.lasts.now.lasts)) c.args.queries.now c.in-Some.place c.index-queries-place.result c.loop-place.first c.earlier-first.result c.next_due.result
          there c.index-queries-place.is c.next_due.ensures
          (first_next (last_in c.args.lasts.now.lasts) c.args.queries.now c.args.deadlines.now.moments c.loop-place.first c.loop-place.from c.in-Some.place c.requires c.in-Some.ensures.behind (omega (arith, there)) c.in-Some.ensures.some c.loop-place.invariant.first)
          c.earlier-first.ensures;
    }

pub returns : goal.returns
returns c =
    let len : length c.args.deadlines.now.moments ≡ length c.args.queries.now = length_timed c.args.queries.now c.args.deadlines.now.moments c.requires in
    first_next (last_in c.args.lasts.now.lasts) c.args.queries.now c.args.deadlines.now.moments c.loop-place.first c.loop-place.from (length c.args.queries.now) c.requires c.loop-place.invariant.within (omega arith)
    (subst (λ (n : ℕ). AreNoSooner c.args.deadlines.now.moments c.loop-place.first c.loop-place.from n) len c.in_default.ensures.none) c.loop-place.invariant.first
    ∙ ap (next_reply (last_in c.args.lasts.now.lasts)) (take_all (length c.args.queries.now) c.args.queries.now (omega arith))
