use Rattle.std.proofs.Common.{◌≡◌, ◌∙◌, sym, ap, arith}
use Rattle.std.specs.Prelude.{IsTrue, slice_get}
use Rattle.dns_name.specs.Names.{is_label}
use Rattle.lists.proofs.Places.{walked, ended, answered}
use Rattle.dns_name.proofs.name.Name.label.Goals as goal

pub loop-preserved : goal.loop-preserved
loop-preserved c = walked c.args.self.now c.next_label.new.self c.in_ok-next_label.field-0.now c.loop.counter (sym c.loop.invariant ∙ c.in_ok-next_label.ensures.0)

pub returns-in_err-next_label : goal.returns-in_err-next_label
returns-in_err-next_label c =
    rw c.from_residual.ensures
    (sym (ended c.args.self.now c.loop.counter c.args.place (sym c.loop.invariant ∙ c.in_err-next_label.ensures.0) (omega arith)))

pub returns : goal.returns
returns c =
    let place : c.loop.counter ≡ c.args.place = omega arith in
    answered c.args.self.now c.loop.labels c.next_label-2.new.self c.loop.counter c.next_label-2.result (λ label. IsTrue (is_label label.now)) c.loop.invariant c.next_label-2.ensures
    ∙ ap (slice_get c.args.self.now) place
