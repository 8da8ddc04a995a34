use Rattle.std.proofs.Common.{◌==◌, ℕ, List, not, length, rules}
use Rattle.std.proofs.lemmas.Iterator.Search.{all_from_yields_List}
use Rattle.std.proofs.lemmas.Iterator.Splits.{YieldsList-from_slice_split}
use borrow.Author.Tests.{tests}
use Rattle.sd_name.proofs.grammar.has_hyphens_apart.Goals as goal

pub returns : goal.returns
returns c =
    all_from_yields_List (λ (part : List ℕ). not (length part == 0)) _ _ _ c.all.ensures.ran
    (YieldsList-from_slice_split _ (λ b. b == 45) c.args.bytes.now c.split.ensures.rest c.split.ensures.done c.split.ensures.closure (λ x b q k. search (rules, tests)))
    (λ x b q k. search (rules, tests))
