use Rattle.std.proofs.Common.{◌≡◌, ℕ, ◌∙◌, ◌∷◌, ◌++◌, [], ap, List, true, rules, arith}
use Rattle.std.specs.FinMap.{insert}
use Rattle.std.specs.FinSet as set
use Rattle.std.proofs.lemmas.Grind.{common_steps}
use Rattle.sd_call.specs.declared.replayed.Kept.{Kept}
use Rattle.sd_call.specs.Holding.{Holding, has, sets_in, held_sets}
use Rattle.sd_call.proofs.Holdings.{started_again, started_newly}
use Rattle.sd_call.proofs.replayed.Replayed.start.Goals as goal

pub returns-then-not-has_operation-clause-sets : goal.returns-then-not-has_operation-clause-sets
returns-then-not-has_operation-clause-sets c =
    let pushed : c.push.new.self.items ≡ c.self.inside.operations.items ++ c.args.op ∷ [] = grind (arith, common_steps) in
    ap (λ (l : List ℕ). sets_in l c.drop_answers.new.kept.items) pushed
    ∙ ap (λ (l : List Kept). sets_in (c.self.inside.operations.items ++ c.args.op ∷ []) l) c.drop_answers.ensures.items
    ∙ started_newly c.self.inside.operations.items c.self.inside.kept.items c.args.op
    ∙ ap (λ (h : Holding). insert (held_sets h) c.args.op set.empty) c.self.view_is

pub returns-else-not-has_operation-clause-sets : goal.returns-else-not-has_operation-clause-sets
returns-else-not-has_operation-clause-sets c =
    let there : has c.args.op c.self.inside.operations.items ≡ true = search rules in
    ap (λ (l : List Kept). sets_in c.self.inside.operations.items l) c.drop_answers.ensures.items
    ∙ started_again c.self.inside.operations.items c.self.inside.kept.items c.args.op there
    ∙ ap (λ (h : Holding). insert (held_sets h) c.args.op set.empty) c.self.view_is
