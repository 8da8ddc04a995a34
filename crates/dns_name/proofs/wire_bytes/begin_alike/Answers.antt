use Rattle.std.proofs.Common.{◌∙◌, sym, refl}
use Rattle.dns_name.proofs.Eights.{agree_within}
use Rattle.dns_name.proofs.wire_bytes.begin_alike.Goals as goal

pub returns : goal.returns
returns c = (
  λ _.
      agree_within c.args.len c.args.ours.now c.args.theirs.now c.requires.few
      (sym c.in-Some.ensures.cases.same ∙ c.are_same.ensures.0 c.if-are_same.true ∙ c.in-Some-first_chunk.ensures.cases.same),
  λ _. refl,
)
