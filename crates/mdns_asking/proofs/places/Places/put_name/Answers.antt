use Rattle.std.proofs.Common.{◌≤◌, ◌<◌, arith, length}
use Rattle.dns_name.specs.Names.{folded_eq}
use Rattle.mdns_asking.proofs.PutPlaces.{put_to_none, put_to_here, put_to_all}
use Rattle.mdns_asking.proofs.places.Places.put_name.Goals as goal

pub loop-place-init : goal.loop-place-init
loop-place-init c = put_to_none (λ one. folded_eq c.args.name.now one.key.name) c.args.asker.now.questions c.places_near-first.result.0 c.args.self.now.places.items

pub loop-place-preserved : goal.loop-place-preserved
loop-place-preserved c =
    let below : c.loop-place.place < c.places_near-first.result.1 = c.loop-place-test.true in
    let within : c.loop-place.place < length c.args.asker.now.questions = omega (arith, below, c.places_near-first.ensures.within) in
    put_to_here (λ one. folded_eq c.args.name.now one.key.name) c.args.asker.now.questions c.places_near-first.result.0 c.loop-place.place c.args.self.now.places.items c.loop-place.self.places.items
    c.push.new.self.items c.loop-place.invariant
    (record { within = within; passes = λ d. c.places_near-first.ensures.named c.loop-place.place d c.loop-place.auto.place below }) c.in_ok-push.ensures.items

pub returns : goal.returns
returns c =
    let past : c.places_near-first.result.1 ≤ c.loop-place.place = c.loop-place-test.false in
    put_to_all (λ one. folded_eq c.args.name.now one.key.name) c.args.asker.now.questions c.places_near-first.result.0 c.loop-place.place c.args.self.now.places.items c.loop-place.self.places.items c.loop-place.invariant
    c.places_near-first.ensures.before (λ k d h within. c.places_near-first.ensures.behind k d (omega (arith, h, past)) within)
