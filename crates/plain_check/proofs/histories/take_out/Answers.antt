use Rattle.std.proofs.Common.{◌≡◌, ap, sym, ◌∙◌, Some, None}
use Rattle.std.specs.List.{position}
use Rattle.plain_check.specs.Held.{is_of}
use Rattle.plain_check.proofs.Taken.{taken_at, none_held}
use Rattle.plain_check.proofs.histories.take_out.Goals as goal

pub returns-in-Some-clause-history : goal.returns-in-Some-clause-history
returns-in-Some-clause-history c =
    let at : Some c.in-Some.place ≡ position (is_of c.args.daemon) c.args.histories.now.items = sym c.in-Some.is ∙ c.place_of.ensures ∙ ap (position (is_of c.args.daemon)) c.deref.ensures.value in
    ap (λ held. held.history.items) c.remove.ensures.value ∙ (taken_at c.args.daemon c.args.histories.now.items c.in-Some.place c.remove.result at).0

pub returns-in-Some-clause-rest : goal.returns-in-Some-clause-rest
returns-in-Some-clause-rest c =
    let at : Some c.in-Some.place ≡ position (is_of c.args.daemon) c.args.histories.now.items = sym c.in-Some.is ∙ c.place_of.ensures ∙ ap (position (is_of c.args.daemon)) c.deref.ensures.value in
    c.remove.ensures.items ∙ (taken_at c.args.daemon c.args.histories.now.items c.in-Some.place c.remove.result at).1

pub returns-in-None-clause-history : goal.returns-in-None-clause-history
returns-in-None-clause-history c =
    let at : None ≡ position (is_of c.args.daemon) c.args.histories.now.items = sym c.in-None.is ∙ c.place_of.ensures ∙ ap (position (is_of c.args.daemon)) c.deref.ensures.value in
    c.new.ensures.items ∙ (none_held c.args.daemon c.args.histories.now.items at).0

pub returns-in-None-clause-rest : goal.returns-in-None-clause-rest
returns-in-None-clause-rest c =
    let at : None ≡ position (is_of c.args.daemon) c.args.histories.now.items = sym c.in-None.is ∙ c.place_of.ensures ∙ ap (position (is_of c.args.daemon)) c.deref.ensures.value in
    (none_held c.args.daemon c.args.histories.now.items at).1
