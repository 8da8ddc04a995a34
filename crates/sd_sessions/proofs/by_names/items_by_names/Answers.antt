use Rattle.std.proofs.Common.{◌∙◌, ◌++◌, List, ap, sym, append_assoc}
use Rattle.std.proofs.lemmas.List.{take_all}
use Rattle.std.specs.List.{AllByRecursion}
use Rattle.sd_call.specs.declared.item.Item.{Item}
use Rattle.mdns_history.specs.declared.operation.Operation.{Operation}
use Rattle.sd_sessions.specs.Answered.{answered, View}
use Rattle.sd_sessions.specs.Changes.{had, lost, gained}
use Rattle.sd_sessions.specs.Walked.{IsSeenOf, IsCompared}
use Rattle.sd_sessions.specs.Concerned.{IsCovered}
use Rattle.sd_sessions.proofs.Nexts.{all-here, flat_map-next, formed-next}
use Rattle.sd_sessions.proofs.WalkAnswers.{items-assembled}
use Rattle.sd_sessions.proofs.by_names.items_by_names.Goals as goal

pub loop-operation-preserved : goal.loop-operation-preserved
loop-operation-preserved c =
    let operations : List Operation = c.concerned-operations.result.now in
    let o : Operation = c.operation-item.result in
    let found : (earlier later : View) → AllByRecursion (IsSeenOf earlier later c.args.looked.now.around.now c.args.before.now) operations →
    IsCompared c.in_ok-found.found (had (answered earlier) c.args.before.now o.op) (answered later o) =
    λ earlier later seen.
    c.in_ok-found.ensures.value earlier later
    (all-here (IsSeenOf earlier later c.args.looked.now.around.now c.args.before.now) operations c.loop-operation.operation-index o c.loop-operation-test.true c.operation-item.is seen) in
    record {
      removes = λ earlier later seen.
          c.in_ok-put_compared.ensures.removes (had (answered earlier) c.args.before.now o.op) (answered later o) (found earlier later seen)
          ∙ ap (λ (l : List Item). l ++ lost (answered earlier) (answered later) c.args.before.now o) (c.loop-operation.invariant.removes earlier later seen)
          ∙ append_assoc c.in_ok-brought.brought _ _
          ∙ ap (λ (l : List Item). c.in_ok-brought.brought ++ l)
          (sym (flat_map-next (lost (answered earlier) (answered later) c.args.before.now) operations c.loop-operation.operation-index o c.loop-operation-test.true c.operation-item.is));
      adds = λ earlier later seen.
          c.in_ok-put_compared.ensures.adds (had (answered earlier) c.args.before.now o.op) (answered later o) (found earlier later seen)
          ∙ ap (λ (l : List Item). l ++ gained (answered earlier) (answered later) c.args.before.now o) (c.loop-operation.invariant.adds earlier later seen)
          ∙ sym (flat_map-next (gained (answered earlier) (answered later) c.args.before.now) operations c.loop-operation.operation-index o c.loop-operation-test.true c.operation-item.is);
      covered = c.loop-operation.invariant.covered;
      formed = (formed-next operations c.loop-operation.operation-index o c.loop-operation-test.true c.operation-item.is c.loop-operation.invariant.formed).1;
    }

pub compare_answers-requires-clause-covered : goal.compare_answers-requires-clause-covered
compare_answers-requires-clause-covered c =
    all-here (IsCovered c.args.looked.now.numbers.now c.args.looked.now.around.now c.args.before.now) c.concerned-operations.result.now c.loop-operation.operation-index c.operation-item.result c.loop-operation-test.true c.operation-item.is
    c.loop-operation.invariant.covered

pub returns : goal.returns
returns c = λ earlier later seen.
    items-assembled earlier later c.args.looked.now.around.now c.args.looked.now.numbers.now c.args.before.now c.args.after.now c.concerned-operations.result.now c.loop-operation.operation-index c.args.reply
    c.in_ok-brought.brought c.loop-operation.brought c.loop-operation.adds _ c.concerned-operations.ensures c.in_ok-brought.ensures
    (take_all c.loop-operation.operation-index c.concerned-operations.result.now c.loop-operation-test.false) c.in_ok-append.ensures.ok c.requires.covered seen
    (c.loop-operation.invariant.removes earlier later) (c.loop-operation.invariant.adds earlier later)
