use Rattle.std.proofs.Common.{ℕ, ◌==◌, ◌∙◌, ap, not, filter, List}
use Rattle.std.specs.FinMap.{remove}
use Rattle.sd_call.specs.declared.replayed.Kept.{Kept}
use Rattle.sd_call.specs.Holding.{Holding, sets_in, held_sets}
use Rattle.sd_call.proofs.Holdings.{stopped}
use Rattle.sd_call.proofs.replayed.Replayed.stop.Goals as goal

pub returns-clause-sets : goal.returns-clause-sets
returns-clause-sets c =
    ap (λ (l : List ℕ). sets_in l c.drop_answers.new.kept.items) c.drop_operation.ensures.items
    ∙ ap (λ (l : List Kept). sets_in (filter (λ (other : ℕ). not (other == c.args.op)) c.self.inside.operations.items) l) c.drop_answers.ensures.items
    ∙ stopped c.self.inside.operations.items c.self.inside.kept.items c.args.op
    ∙ ap (λ (h : Holding). remove (held_sets h) c.args.op) c.self.view_is
