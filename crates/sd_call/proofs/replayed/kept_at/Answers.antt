use Rattle.std.proofs.Common.{◌≡◌, ◌==◌, ◌∙◌, ap, sym, take, length, filter, eq-eqb, List, arith}
use Rattle.std.proofs.lemmas.List.{take_all}
use Rattle.sd_call.specs.declared.replayed.Kept.{Kept}
use Rattle.sd_call.proofs.KeptLists.{place_found, past_end}
use Rattle.sd_call.proofs.replayed.kept_at.Goals as goal

pub returns-then-before-place : goal.returns-then-before-place
returns-then-before-place c =
    place_found c.args.op c.args.kept.now c.loop-one.one-index c.args.place c.one-item.result c.loop-one-test.true c.one-item.is
    (eq-eqb c.one-item.result.op c.args.op c.if-one-op.true) (sym c.if-before-place.true ∙ c.loop-one.invariant.0)

pub returns : goal.returns
returns c =
    let all : take c.loop-one.one-index c.args.kept.now ≡ c.args.kept.now = take_all c.loop-one.one-index c.args.kept.now c.loop-one-test.false in
    let whole : c.loop-one.before ≡ length (filter (λ (k : Kept). k.op == c.args.op) c.args.kept.now) =
    c.loop-one.invariant.0 ∙ ap (λ (l : List Kept). length (filter (λ (k : Kept). k.op == c.args.op) l)) all in
    sym (past_end (filter (λ (k : Kept). k.op == c.args.op) c.args.kept.now) c.args.place (omega arith))
