use Rattle.std.proofs.Common.{◌∙◌, ◌++◌, List, IsPermutation, subst, sym}
use Rattle.mdns_history.specs.declared.operation.Operation.{Operation}
use Rattle.sd_index.specs.declared.asker.Asker.{Asker}
use Rattle.sd_index.specs.Asked.{askers_of}
use Rattle.sd_sessions.specs.Indexed.{asking_of}
use Rattle.sd_sessions.proofs.Asking.{start-filed, stop-leaves, update-asks}
use Rattle.sd_sessions.proofs.index.file_request.Goals as goal

pub returns-then-is_start : goal.returns-then-is_start
returns-then-is_start c = λ owner rest h.
    start-filed owner c.args.session c.args.op c.args.request.now c.args.operations.now (askers_of owner c.args.askers.now.entries) (askers_of owner c.put.new.self.entries) rest
    (sym c.is_start.ensures ∙ c.if-is_start.true) (c.put.ensures owner) h

pub returns-then-is_stop : goal.returns-then-is_stop
returns-then-is_stop c = λ owner rest h.
    subst (λ (os : List Operation). IsPermutation (askers_of owner c.take_stopped.new.askers.entries) (asking_of owner os ++ rest))
    (sym (stop-leaves c.args.session c.args.op c.args.request.now c.args.operations.now (sym c.is_stop.ensures ∙ c.if-is_stop.true))) (c.take_stopped.ensures owner rest h)

pub returns-else-is_stop : goal.returns-else-is_stop
returns-else-is_stop c = λ owner rest h.
    subst (λ (l : List Asker). IsPermutation (askers_of owner c.args.askers.now.entries) (l ++ rest))
    (sym (update-asks owner c.args.session c.args.op c.args.request.now c.args.operations.now (sym c.is_start.ensures ∙ c.if-is_start.false) (sym c.is_stop.ensures ∙ c.if-is_stop.false))) h
