use Rattle.std.proofs.Common.{ℕ, ◌≤◌, arith}
use Rattle.mdns_asking.proofs.TimedNames.{timed_places}
use Rattle.mdns_asking.proofs.timing.tell_points_of.Goals as goal

pub returns : goal.returns
returns c =
    let first : ℕ = c.places_near-first.result.0 in
    let end : ℕ = c.places_near-first.result.1 in
    let past : end ≤ c.loop-place.place = c.loop-place-test.false in
    let most : c.loop-place.place ≤ end = c.loop-place.auto.place-end c.places_near-first.ensures.order in
    timed_places c.args.walk.now c.args.asker.now.questions c.loop-place.asker.questions first end c.places_near-first.ensures c.loop-place.invariant.len
    (λ k d h g. c.loop-place.invariant.told k d h (omega (arith, g, past))) c.loop-place.invariant.before (λ k d h. c.loop-place.invariant.behind k d (omega (arith, h, most)))
