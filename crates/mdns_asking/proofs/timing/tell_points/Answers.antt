use Rattle.std.proofs.Common.{◌≡◌, ℕ, ◌-◌, map, drop, ap, ◌∙◌, arith}
use Rattle.mdns_asking.specs.ByWalks.{timed_by}
use Rattle.mdns_asking.proofs.TimedNames.{none_yet, walk_more}
use Rattle.mdns_asking.proofs.timing.tell_points.Goals as goal

pub loop-left-init : goal.loop-left-init
loop-left-init c = record { within = omega arith; told = none_yet c.args.walks.now c.args.asker.now.questions }

pub loop-left-preserved : goal.loop-left-preserved
loop-left-preserved c = record {
  within = omega arith;
  told = walk_more c.args.walks.now (c.loop-left.left - 1) c.loop-left.left c.index-walks-left.result c.args.asker.now.questions c.loop-left.asker.questions c.tell_points_of-near.new.asker.questions
      (omega arith) (omega arith) c.index-walks-left.is c.loop-left.invariant.told c.tell_points_of-near.ensures;
}

pub returns : goal.returns
returns c =
    let none : c.loop-left.left ≡ 0 = omega arith in
    c.loop-left.invariant.told ∙ ap (λ (n : ℕ). map (timed_by (drop n c.args.walks.now)) c.args.asker.now.questions) none
