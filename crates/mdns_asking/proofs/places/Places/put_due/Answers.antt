use Rattle.std.proofs.Common.{is_some, arith, ◌<◌, length}
use Rattle.mdns_question.specs.Refreshing.{cause_of}
use Rattle.mdns_asking.proofs.PutPlaces.{put_to_none, due_next, due_all}
use Rattle.mdns_asking.proofs.places.Places.put_due.Goals as goal

pub loop-place-init : goal.loop-place-init
loop-place-init c = record {
  within = omega arith;
  so_far = put_to_none (λ one. is_some (cause_of c.args.now one)) c.args.asker.now.questions 0 c.args.self.now.places.items;
}

pub loop-place-preserved : goal.loop-place-preserved
loop-place-preserved c =
    let there : c.in-Some.place < length c.args.asker.now.questions = c.in-Some.ensures.within in
    record {
      within = omega (arith, there);
      so_far = due_next c.args.now c.args.asker.now.questions c.loop-place.from c.in-Some.place c.args.self.now.places.items c.loop-place.self.places.items c.push.new.self.items there c.in-Some.ensures.some
          c.loop-place.invariant.so_far c.in_ok-push.ensures.items;
    }

pub returns : goal.returns
returns c = due_all c.args.now c.args.asker.now.questions c.loop-place.from c.args.self.now.places.items c.loop-place.self.places.items c.in_default.ensures.none c.loop-place.invariant.so_far
