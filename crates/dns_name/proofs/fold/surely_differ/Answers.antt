use Rattle.std.proofs.Common.{◌∙◌, ap, not, sym}
use Rattle.std.proofs.lemmas.Bool.{false≢true}
use Rattle.dns_name.proofs.FoldedBytes.{alike_at}
use Rattle.dns_name.proofs.fold.surely_differ.Goals as goal

pub returns-then-end-left : goal.returns-then-end-left
returns-then-end-left c = λ yes same.
    absurd (false≢true (ap not (sym (c.is_same_letter.ensures.1 (alike_at c.args.left.now c.args.right.now c.from-end.result same))) ∙ yes))
