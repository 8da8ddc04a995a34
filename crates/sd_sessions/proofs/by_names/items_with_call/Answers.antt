use Rattle.std.proofs.Common.{◌∙◌, subst}
use Rattle.sd_sessions.specs.Kept.{IsWellFormedOwn}
use Rattle.sd_sessions.specs.Concerned.{IsOwnCovered}
use Rattle.sd_sessions.proofs.OwnCalls.{own-covered, own-formed, own-items}
use Rattle.sd_sessions.proofs.by_names.items_with_call.Goals as goal

pub items_by_names-requires-clause-formed : goal.items_by_names-requires-clause-formed
items_by_names-requires-clause-formed c =
    own-formed c.args.looked.now.around.now c.args.looked.now.numbers.now c.args.session.now.number c.in-Some.call c.args.session.now.operations.items c.as_slice-before.result.now c.deref.result.now
    c.requires.rising (subst (IsOwnCovered c.args.looked.now.numbers.now) c.in-Some.is c.requires.called) c.requires.covered c.as_slice-before.ensures.value
    (c.deref.ensures.value ∙ c.in_ok-after-in-Some.ensures) c.requires.operations (subst IsWellFormedOwn c.in-Some.is c.requires.call)

pub items_by_names-requires-clause-covered : goal.items_by_names-requires-clause-covered
items_by_names-requires-clause-covered c =
    own-covered c.args.looked.now.around.now c.args.looked.now.numbers.now c.args.session.now.number c.in-Some.call c.args.session.now.operations.items c.as_slice-before.result.now c.deref.result.now
    c.requires.rising (subst (IsOwnCovered c.args.looked.now.numbers.now) c.in-Some.is c.requires.called) c.requires.covered c.as_slice-before.ensures.value
    (c.deref.ensures.value ∙ c.in_ok-after-in-Some.ensures)

pub returns-in_ok-items-in-Some : goal.returns-in_ok-items-in-Some
returns-in_ok-items-in-Some c = λ earlier later.
    own-items c.args.looked.now.around.now c.args.looked.now.numbers.now c.args.session.now.number c.in-Some.call c.args.session.now.operations.items c.as_slice-before.result.now c.deref.result.now
    c.requires.rising (subst (IsOwnCovered c.args.looked.now.numbers.now) c.in-Some.is c.requires.called) c.requires.covered c.as_slice-before.ensures.value
    (c.deref.ensures.value ∙ c.in_ok-after-in-Some.ensures) earlier later c.args.reply c.in_ok-items-in-Some.items (c.in_ok-items-in-Some.ensures earlier later) c.args.call.now c.in-Some.is
