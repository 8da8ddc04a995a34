use Rattle.std.proofs.Common.{◌<◌, ◌∙◌, ℕ, length, subst, arith}
use Rattle.mdns_timer.specs.Parts.{NoneDue}
use Rattle.mdns_claimants.specs.Due.{ticked_at}
use Rattle.mdns_claimants.proofs.Places.{retimed, changed_length, timed_length}
use Rattle.mdns_claimants.proofs.Ticking.{tick_more, tick_done}
use Rattle.mdns_claimants.proofs.due.tick_due.Goals as goal

pub loop-place-preserved : goal.loop-place-preserved
loop-place-preserved c =
    let len = timed_length c.loop-place.groups c.loop-place.deadlines.moments c.loop-place.invariant.timed in
    let there : c.in-Some.place < length c.loop-place.groups = omega (arith, c.in-Some.ensures.within, len) in
    let found = c.in-Some.ensures.some in
    let none : NoneDue c.loop-place.deadlines.moments c.args.now c.loop-place.from c.in-Some.place = subst (λ (n : ℕ). NoneDue c.loop-place.deadlines.moments n c.loop-place.from c.in-Some.place) c.ms.ensures.value found.first in
    let changed = changed_length (ticked_at c.args.now c.args.announces) c.loop-place.groups c.tick_at.new.groups c.in-Some.place there c.tick_at.ensures in
    record {
      within = omega (arith, there, changed);
      ticked = tick_more c.args.now c.args.announces c.loop-place.groups c.tick_at.new.groups c.loop-place.deadlines.moments c.loop-place.from c.in-Some.place
          c.loop-place.invariant.timed found.behind there none c.tick_at.ensures
          ∙ c.loop-place.invariant.ticked;
      timed = retimed (ticked_at c.args.now c.args.announces) c.loop-place.groups c.tick_at.new.groups c.loop-place.deadlines.moments c.set.new.self.moments c.in-Some.place c.moment_of-next.result
          c.index-groups-place.result there c.loop-place.invariant.timed c.tick_at.ensures c.moment_of-next.ensures c.set.ensures.moments;
      spare = c.set.ensures.spare ∙ c.loop-place.invariant.spare;
    }

pub returns-clause-groups : goal.returns-clause-groups
returns-clause-groups c =
    tick_done c.args.now c.args.announces c.loop-place.groups c.loop-place.deadlines.moments c.loop-place.from c.loop-place.invariant.timed c.loop-place.invariant.within
    (subst (λ (n : ℕ). NoneDue c.loop-place.deadlines.moments n c.loop-place.from (length c.loop-place.deadlines.moments)) c.ms.ensures.value c.in_default.ensures.none)
    ∙ c.loop-place.invariant.ticked
