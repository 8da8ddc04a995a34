use Rattle.std.proofs.Common.{◌≡◌, ◌∙◌, ◌++◌, List, true, false, take, drop, ap, sym, append-nil}
use Rattle.std.proofs.lemmas.List.{take_rest}
use Rattle.mdns_history.specs.declared.entry.Entry.{Entry}
use Rattle.plain_asking.specs.Begun.{begins_last}
use Rattle.plain_asking.proofs.Begins.{since_ends, since_more, since_all}
use Rattle.plain_asking.proofs.begun.entries_since.Goals as goal

pub returns-then-begins : goal.returns-then-begins
returns-then-begins c =
    let history = c.args.history.now in
    let question = c.args.question.now in
    let place = c.loop-place.place in
    let here : begins_last question (drop place history) ≡ true = ap (begins_last question) (sym (take_rest history place)) ∙ sym c.in_ok-begins.ensures ∙ c.if-begins.true in
    sym (append-nil (take place history)) ∙ ap (λ (l : List Entry). take place history ++ l) (sym (since_ends question (drop place history) here)) ∙ c.loop-place.invariant

pub loop-place-preserved : goal.loop-place-preserved
loop-place-preserved c =
    let history = c.args.history.now in
    let question = c.args.question.now in
    let place = c.loop-place.place in
    let on : begins_last question (drop place history) ≡ false = ap (begins_last question) (sym (take_rest history place)) ∙ sym c.in_ok-begins.ensures ∙ c.if-begins.false in
    since_more question history place c.loop-place-test.true on ∙ c.loop-place.invariant

pub returns : goal.returns
returns c = sym (since_all c.args.question.now c.args.history.now c.loop-place.place c.loop-place-test.false) ∙ c.loop-place.invariant
