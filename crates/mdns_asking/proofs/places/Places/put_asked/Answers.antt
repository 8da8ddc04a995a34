use Rattle.std.proofs.Common.{◌+◌, ◌&&◌, nat_le, ◌<◌, ◌≡◌, arith, length, get_or, List, ap, sym, subst, ◌∙◌, Bool}
use Rattle.mdns_history.specs.Asking.{asks_openly}
use Rattle.mdns_question.specs.declared.tracked.Tracked.{Tracked}
use Rattle.mdns_asking.specs.declared.places.Places.{Places}
use Rattle.mdns_asking.proofs.PutPlaces.{ArePutTo, put_to_none, put_to_here, put_to_else, place_at, asked_of_name}
use Rattle.mdns_asking.proofs.places.Places.put_asked.Goals as goal
use Rattle.mdns_asking.proofs.places.Places.put_asked.Goals.{then-is_asked+in_ok-push, else-is_asked}

pub loop-place-init : goal.loop-place-init
loop-place-init c = put_to_none (λ one. asks_openly one.key c.args.asked.now && nat_le one.next c.args.until) c.args.asker.now.questions c.places_of-first.result.0 c.args.self.now.places.items

pub loop-place-preserved : goal.loop-place-preserved
loop-place-preserved c =
    let test : Tracked → Bool = λ one. asks_openly one.key c.args.asked.now && nat_le one.next c.args.until in
    let one : Tracked = c.index-questions-place.result in
    let below : c.loop-place.place < c.places_of-first.result.1 = c.loop-place-test.true in
    let within : c.loop-place.place < length c.args.asker.now.questions = omega (arith, below, c.places_of-first.ensures.within) in
    let is : one ≡ get_or c.args.asker.now.questions c.loop-place.place one = c.index-questions-place.is ∙ ap (λ (qs : List Tracked). get_or qs c.loop-place.place one) c.questions-questions.ensures in
    elim c.if-is_asked.branch [
      | then-is_asked+in_ok-push w ↦
          put_to_here test c.args.asker.now.questions c.places_of-first.result.0 c.loop-place.place c.args.self.now.places.items c.loop-place.self.places.items c.if-is_asked.self.places.items c.loop-place.invariant
          (place_at test c.args.asker.now.questions c.loop-place.place one within (ap test (sym is) ∙ sym c.is_asked.ensures ∙ w.if-is_asked.true))
          (ap (λ (p : Places). p.places.items) w.self-is ∙ w.in_ok-push.ensures.items)
      | else-is_asked w ↦
          subst (λ (p : Places). ArePutTo test c.args.asker.now.questions c.places_of-first.result.0 (c.loop-place.place + 1) c.args.self.now.places.items p.places.items) (sym w.self-is)
          (put_to_else test c.args.asker.now.questions c.places_of-first.result.0 c.loop-place.place one c.args.self.now.places.items c.loop-place.self.places.items c.loop-place.invariant
          (ap test (sym is) ∙ sym c.is_asked.ensures ∙ w.if-is_asked.false))
    ]

pub returns : goal.returns
returns c =
    asked_of_name c.args.asker.now.questions c.args.asked.now c.args.until c.places_of-first.result.0 c.places_of-first.result.1 c.loop-place.place c.args.self.now.places.items c.loop-place.self.places.items
    c.places_of-first.ensures c.loop-place-test.false c.loop-place.invariant
