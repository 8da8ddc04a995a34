use Rattle.std.proofs.Common.{◌∙◌, ◌++◌, ℕ, List, IsPermutation, take, ap, subst, sym, append_assoc}
use Rattle.std.proofs.lemmas.List.{take_all}
use Rattle.mdns_history.specs.declared.operation.Operation.{Operation}
use Rattle.sd_index.specs.declared.asker.Asker.{Asker}
use Rattle.sd_index.specs.Asked.{askers_of, if_asks}
use Rattle.sd_sessions.specs.Indexed.{asker_for, asking_of}
use Rattle.sd_sessions.proofs.Nexts.{flat_map-next, formed-next}
use Rattle.sd_sessions.proofs.index.take_all.Goals as goal

pub take-requires : goal.take-requires
take-requires c = (formed-next c.args.operations.now c.loop-operation.operation-index c.operation-item.result c.loop-operation-test.true c.operation-item.is c.loop-operation.invariant.formed).0

pub loop-operation-preserved : goal.loop-operation-preserved
loop-operation-preserved c =
    let o : Operation = c.operation-item.result in
    let asking : List ℕ → Operation → List Asker = λ owner x. if_asks owner x.request (asker_for x) in
    record {
      left = λ owner rest h.
          c.take.ensures owner rest
          (subst (λ (one : Asker). IsPermutation (askers_of owner c.loop-operation.askers.entries) (if_asks owner o.request one ++ rest)) (sym c.asker_for.ensures)
          (c.loop-operation.invariant.left owner (asking owner o ++ rest)
          (subst (IsPermutation (askers_of owner c.args.askers.now.entries))
          (ap (λ (l : List Asker). l ++ rest) (flat_map-next (asking owner) c.args.operations.now c.loop-operation.operation-index o c.loop-operation-test.true c.operation-item.is)
          ∙ append_assoc (asking_of owner (take c.loop-operation.operation-index c.args.operations.now)) (asking owner o) rest) h)));
      formed = (formed-next c.args.operations.now c.loop-operation.operation-index o c.loop-operation-test.true c.operation-item.is c.loop-operation.invariant.formed).1;
    }

pub returns : goal.returns
returns c = λ owner rest h.
    c.loop-operation.invariant.left owner rest
    (subst (λ (l : List Operation). IsPermutation (askers_of owner c.args.askers.now.entries) (asking_of owner l ++ rest)) (sym (take_all c.loop-operation.operation-index c.args.operations.now c.loop-operation-test.false)) h)
