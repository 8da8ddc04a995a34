use Rattle.std.proofs.Common.{◌++◌, List, IsPermutation, not, filter, subst, sym}
use Rattle.std.specs.Prelude.{IsTrue}
use Rattle.sd_call.specs.Requests.{well_formed}
use Rattle.mdns_history.specs.declared.operation.Operation.{Operation}
use Rattle.mdns_history.specs.Sessions.{has_op}
use Rattle.sd_index.specs.declared.asker.Asker.{Asker}
use Rattle.sd_index.specs.Asked.{askers_of, if_asks}
use Rattle.sd_sessions.specs.Indexed.{asking_of}
use Rattle.sd_sessions.proofs.Asking.{holds-found, stopped-first, none-stopped}
use Rattle.sd_sessions.proofs.index.take_stopped.Goals as goal

pub take-requires : goal.take-requires
take-requires c = holds-found (λ (o : Operation). IsTrue (well_formed o.request)) (has_op c.args.op) c.args.operations.now c.in-Some.operation.now c.requires.formed (sym c.in-Some.ensures)

pub returns-in-Some : goal.returns-in-Some
returns-in-Some c = λ owner rest h.
    let os : List Operation = c.args.operations.now in
    let o : Operation = c.in-Some.operation.now in
    let others : List Asker = asking_of owner (filter (λ (x : Operation). not (has_op c.args.op x)) os) ++ rest in
    c.take.ensures owner others
    (subst (λ (one : Asker). IsPermutation (askers_of owner c.args.askers.now.entries) (if_asks owner o.request one ++ others)) (sym c.asker_for.ensures)
    (stopped-first owner c.args.op os o (askers_of owner c.args.askers.now.entries) rest c.requires.rising (sym c.in-Some.ensures) h))

pub returns-in_default : goal.returns-in_default
returns-in_default c = λ owner rest h.
    subst (λ (l : List Asker). IsPermutation (askers_of owner c.args.askers.now.entries) (l ++ rest)) (sym (none-stopped owner c.args.op c.args.operations.now (sym c.in_default.ensures))) h
