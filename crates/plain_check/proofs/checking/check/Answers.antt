use Rattle.std.proofs.Common.{◌+◌, List, [], ◌∷◌, ◌++◌, ap, sym, ◌∙◌, subst, arith, append_assoc, length-append}
use Rattle.mdns_history.specs.declared.entry.Entry.{Entry}
use Rattle.mdns_history.specs.InForce.{all_duties}
use Rattle.mdns_history.specs.Fitting.{IsLegalFrom}
use Rattle.mdns_transcript.specs.declared.row.Row.{Row}
use Rattle.plain_check.specs.Held.{with_row}
use Rattle.plain_check.proofs.Legality.{history_pushed, legal_pushed, first_illegal, short_history, breaks_too}
use Rattle.plain_check.proofs.checking.check.Goals as goal

pub put-requires-clause-short : goal.put-requires-clause-short
put-requires-clause-short c =
    short_history c.in-Some.row.daemon c.args.transcript c.loop-row.yielded c.next.new.self.rest.items c.in-Some.row _
    (ap (λ (l : List Row). c.loop-row.yielded ++ l) (sym c.in-Some.ensures.steps.0) ∙ c.loop-row.invariant.left) c.requires (c.loop-row.invariant.held c.in-Some.row.daemon)

pub returns-then-not-branch : goal.returns-then-not-branch
returns-then-not-branch c =
    first_illegal c.args.transcript c.loop-row.yielded c.next.new.self.rest.items c.in-Some.row (c.loop-row.number + 1)
    (ap (λ (l : List Row). c.loop-row.yielded ++ l) (sym c.in-Some.ensures.steps.0) ∙ c.loop-row.invariant.left) (omega (arith, c.loop-row.invariant.counted)) c.loop-row.invariant.legal
    (breaks_too c.loop-row.yielded c.in-Some.row _ c.in_ok-put.field-0 (c.loop-row.invariant.held c.in-Some.row.daemon) c.in_ok-put.ensures.fits c.if-not-branch.true)

pub loop-row-preserved : goal.loop-row-preserved
loop-row-preserved c = record {
  left = append_assoc c.loop-row.yielded (c.in-Some.row ∷ []) c.next.new.self.rest.items ∙ ap (λ (l : List Row). c.loop-row.yielded ++ l) (sym c.in-Some.ensures.steps.0) ∙ c.loop-row.invariant.left;
  counted = omega (arith, length-append c.loop-row.yielded (c.in-Some.row ∷ []), c.loop-row.invariant.counted);
  held = λ daemon. c.in_ok-put.ensures.put c.if-not-branch.false daemon ∙ ap (λ (h : List Entry). with_row c.in-Some.row daemon h) (c.loop-row.invariant.held daemon)
      ∙ sym (history_pushed daemon c.loop-row.yielded c.in-Some.row);
  legal = legal_pushed c.loop-row.yielded c.in-Some.row c.loop-row.invariant.legal
      (subst (λ (h : List Entry). IsLegalFrom all_duties c.in-Some.row.entry h) (c.loop-row.invariant.held c.in-Some.row.daemon) (c.in_ok-put.ensures.fits.0 c.if-not-branch.false));
}
