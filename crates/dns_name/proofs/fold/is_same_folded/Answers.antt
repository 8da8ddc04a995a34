use Rattle.std.proofs.Common.{◌∙◌, below_more, sym, arith, refl}
use Rattle.std.proofs.lemmas.Bool.{false≢true}
use Rattle.dns_name.proofs.FoldedBytes.{alike, alike_at}
use Rattle.dns_name.proofs.fold.is_same_folded.Goals as goal

pub returns-then-not-is_same_letter : goal.returns-then-not-is_same_letter
returns-then-not-is_same_letter c = (
  λ yes. absurd (false≢true yes),
  λ same. absurd (false≢true (sym c.if-not-is_same_letter.true ∙ c.is_same_letter.ensures.1 (alike_at c.args.left.now c.args.right.now c.loop-i.i same))),
)

pub loop-i-preserved : goal.loop-i-preserved
loop-i-preserved c = record {
  as_long = c.loop-i.invariant.as_long;
  alike = below_more _ _ c.loop-i.invariant.alike (c.is_same_letter.ensures.0 c.if-not-is_same_letter.false);
}

pub returns : goal.returns
returns c = (
  λ _. alike c.args.left.now c.args.right.now c.loop-i.invariant.as_long (λ k within. c.loop-i.invariant.alike k (omega arith)),
  λ _. refl,
)
