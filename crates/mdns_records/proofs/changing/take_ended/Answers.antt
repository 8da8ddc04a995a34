use Rattle.std.proofs.Common.{◌≡◌, ◌+◌, ◌∙◌, length, ap, refl, sym, subst, arith, filter, List, IsPermutation}
use Rattle.std.proofs.lemmas.List.Sorted.{IsPermutation-refl, IsPermutation-trans}
use Rattle.mdns_history.specs.Lifetimes.{is_live_at}
use Rattle.mdns_history.specs.declared.held.Held.{Held}
use Rattle.mdns_cache.specs.Contents.{Contents}
use Rattle.mdns_cache.proofs.Hearing.{filter_live}
use Rattle.mdns_records.specs.Visits.{ended_in}
use Rattle.mdns_records.proofs.Taken.{fewer, live_left, of_none, one_ended, none_ended}
use Rattle.mdns_records.proofs.changing.take_ended.Goals as goal

pub loop-init : goal.loop-init
loop-init g c = record { held = IsPermutation-refl _; limit = refl; visits = refl; room = omega arith }

pub loop-smaller : goal.loop-smaller
loop-smaller g c =
    let less : length c.expire.new.self.held + 1 ≡ length c.loop.cache.held =
    fewer c.expire.result c.loop.cache.held c.expire.new.self.held (sym c.is_some.ensures ∙ c.if-is_some.true) c.expire.ensures.taken in
    omega arith

pub loop-preserved : goal.loop-preserved
loop-preserved g c = record {
  held = IsPermutation-trans _ _ _
      (live_left c.args.now c.expire.result c.loop.cache.held c.expire.new.self.held (sym c.is_some.ensures ∙ c.if-is_some.true) c.expire.ensures.first c.expire.ensures.taken)
      c.loop.invariant.held;
  limit = c.expire.ensures.limit ∙ c.loop.invariant.limit;
  visits = let less = one_ended c.args.now c.expire.result c.loop.cache.held c.expire.new.self.held (sym c.is_some.ensures ∙ c.if-is_some.true) c.expire.ensures.first c.expire.ensures.taken in
      omega (arith, less, c.loop.invariant.visits, c.expire.ensures.steps);
  room = omega (arith, c.expire.ensures.room, c.loop.invariant.room);
}

pub returns-clause-held : goal.returns-clause-held
returns-clause-held g c =
    let none = of_none c.expire.result (sym c.is_some.ensures ∙ c.if-is_some.false) c.expire.ensures.none in
    let kept : IsPermutation (filter (is_live_at c.args.now) c.expire.new.self.held) (filter (is_live_at c.args.now) c.args.cache.now.held) =
    subst (λ (l : List Held). IsPermutation (filter (is_live_at c.args.now) l) (filter (is_live_at c.args.now) c.args.cache.now.held)) (sym (ap (λ (v : Contents). v.held) none.0)) c.loop.invariant.held in
    subst (λ (l : List Held). IsPermutation l (filter (is_live_at c.args.now) c.args.cache.now.held)) (filter_live c.args.now c.expire.new.self.held none.1) kept

pub returns-clause-visits : goal.returns-clause-visits
returns-clause-visits g c =
    let none = of_none c.expire.result (sym c.is_some.ensures ∙ c.if-is_some.false) c.expire.ensures.none in
    let kept : c.expire.new.self.held ≡ c.loop.cache.held = ap (λ (v : Contents). v.held) none.0 in
    let left : length (ended_in c.args.now c.loop.cache.held) ≡ 0 = ap (λ (l : List Held). length (ended_in c.args.now l)) (sym kept) ∙ none_ended c.args.now c.expire.new.self.held none.1 in
    omega (arith, left, c.loop.invariant.visits, c.expire.ensures.steps)
