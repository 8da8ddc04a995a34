use Rattle.std.proofs.Common.{◌≡◌, ◌<◌, ◌∙◌, List, ℕ, length, get_or, arith, ap, subst}
use Rattle.mdns_timer.specs.Parts.{NoneDue}
use Rattle.mdns_debts.specs.Queries.{Query}
use Rattle.mdns_owing.specs.Owing.{State, last_in, moments_of, released_of}
use Rattle.mdns_owing.proofs.Due.{length_timed, flat_next, flat_all, released_undue}
use Rattle.mdns_owing.proofs.owing.Owing.put_all_released.Goals as goal

pub loop-place-preserved : goal.loop-place-preserved
loop-place-preserved c =
    let queries : List Query = c.args.self.now.queries in
    let moments : List ℕ = c.self.inside.deadlines.moments in
    let timed : moments ≡ moments_of queries = c.self.invariant.timed ∙ ap (λ (s : State). moments_of s.queries) c.self.view_is in
    let len : length moments ≡ length queries = length_timed queries moments timed in
    let there : c.in-Some.place < length queries = omega (arith, len, c.in-Some.ensures.within) in
    let found = c.in-Some.ensures.some in
    record {
      within = omega (arith, there);
      released = flat_next (released_of (last_in c.args.lasts.now.lasts) c.args.now queries) queries c.loop-place.from c.in-Some.place c.index.result.now
          c.args.released.now.items c.loop-place.released.items c.put_released.new.released.items
          found.behind there
          (c.index.ensures ∙ ap (λ (s : State). get_or s.queries c.in-Some.place c.index.result.now) c.self.view_is)
          (released_undue (last_in c.args.lasts.now.lasts) c.args.now queries moments c.loop-place.from c.in-Some.place timed (omega (arith, there)) (subst (λ (n : ℕ). NoneDue moments n c.loop-place.from c.in-Some.place) c.ms.ensures.value found.first))
          c.loop-place.invariant.released c.in_ok-put_released.ensures;
    }

pub returns : goal.returns
returns c =
    let queries : List Query = c.args.self.now.queries in
    let moments : List ℕ = c.self.inside.deadlines.moments in
    let timed : moments ≡ moments_of queries = c.self.invariant.timed ∙ ap (λ (s : State). moments_of s.queries) c.self.view_is in
    let len : length moments ≡ length queries = length_timed queries moments timed in
    flat_all (released_of (last_in c.args.lasts.now.lasts) c.args.now queries) queries c.loop-place.from c.args.released.now.items c.loop-place.released.items c.loop-place.invariant.within
    (released_undue (last_in c.args.lasts.now.lasts) c.args.now queries moments c.loop-place.from (length queries) timed (omega arith)
    (subst (NoneDue moments c.args.now c.loop-place.from) len (subst (λ (n : ℕ). NoneDue moments n c.loop-place.from (length moments)) c.ms.ensures.value c.in_default.ensures.none)))
    c.loop-place.invariant.released
