use Rattle.std.proofs.Common.{List, subst}
use Rattle.std.proofs.lemmas.List.{take_all}
use Rattle.std.specs.List.{AllByRecursion}
use Rattle.sd_index.specs.declared.asker.Asker.{Asker}
use Rattle.mdns_happened.specs.declared.walk.Walk.{Walk}
use Rattle.sd_sessions.specs.Concerned.{IsWalkMet}
use Rattle.sd_sessions.proofs.Covered.{met-more}
use Rattle.sd_sessions.proofs.Named.{each-next}
use Rattle.sd_sessions.proofs.concerned.put_walked.Goals as goal

pub loop-walk-preserved : goal.loop-walk-preserved
loop-walk-preserved c =
    let old : List Asker = c.loop-walk.concerned.items in
    let new : List Asker = c.put_moved.new.concerned.items in
    let walk : Walk = c.walk-item.result in
    record {
      kept = λ one h. c.in_ok-put_moved.ensures.kept one (c.loop-walk.invariant.kept one h);
      put = each-next (IsWalkMet c.args.askers.now.entries old) (IsWalkMet c.args.askers.now.entries new)
          (met-more c.args.askers.now.entries old new c.in_ok-put_moved.ensures.kept)
          c.args.walks.now c.loop-walk.walk-index walk c.loop-walk-test.true c.walk-item.is c.loop-walk.invariant.put c.in_ok-put_moved.ensures.put;
    }

pub returns-clause-put : goal.returns-clause-put
returns-clause-put c =
    subst (AllByRecursion (IsWalkMet c.args.askers.now.entries c.loop-walk.concerned.items)) (take_all c.loop-walk.walk-index c.args.walks.now c.loop-walk-test.false) c.loop-walk.invariant.put
