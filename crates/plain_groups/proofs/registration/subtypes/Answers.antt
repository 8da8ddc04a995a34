use Rattle.std.proofs.Common.{◌∙◌, ◌∷◌, ◌++◌, [], ℕ, List, ap, sym}
use Rattle.plain_groups.proofs.Steps.{get_more}
use Rattle.plain_groups.proofs.registration.subtypes.Goals as goal

pub loop-place-preserved : goal.loop-place-preserved
loop-place-preserved c =
    c.in_ok-push.ensures.items ∙ ap (λ (l : List (List ℕ)). l ++ c.subtype_at-subtype.result ∷ []) c.loop-place.invariant
    ∙ sym (get_more c.args.regtype.now.subtypes c.loop-place.place c.subtype_at-subtype.result c.subtype_at-subtype.ensures)
