use Rattle.std.proofs.Common.{◌∙◌, rules}
use Rattle.std.proofs.lemmas.Fn.{always_returns_same}
use Rattle.std.proofs.lemmas.List.{get_or_default}
use Rattle.sd_call.specs.Answers.{answer_cmp}
use Rattle.sd_operations.proofs.Among.{found, found_at}
use Rattle.sd_operations.proofs.items.place_near.Goals as goal

pub returns-clause-found : goal.returns-clause-found
returns-clause-found c =
    found c.args.answer.now c.args.others.now c.requires c.binary_search_by.result c.binary_search_by.ensures.bound
    (c.binary_search_by.ensures.position (λ other. answer_cmp other c.args.answer.now) (always_returns_same _ _ _ (λ a r f' k. search rules)))

pub returns-then-is_eq-clause-found : goal.returns-then-is_eq-clause-found
returns-then-is_eq-clause-found c =
    found_at c.args.answer.now c.index-others-near.result c.args.others.now c.args.near c.answer_cmp.result c.is_eq.result c.if-near-others.true
    (c.index-others-near.is ∙ get_or_default c.args.others.now c.args.near c.index-others-near.result c.args.answer.now c.if-near-others.true)
    c.answer_cmp.ensures.value c.is_eq.ensures c.if-is_eq.true
