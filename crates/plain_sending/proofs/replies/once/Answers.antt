use Rattle.std.proofs.Common.{◌≡◌, ◌∙◌, ◌+◌, ◌<◌, ◌++◌, ◌==◌, ℕ, not, List, length, take, get_or, ap, sym}
use Rattle.std.specs.List.{list_any}
use Rattle.std.proofs.lemmas.List.{take_more}
use Rattle.lists.specs.Lists.{each_once}
use Rattle.plain_history.proofs.Onces.{once_more}
use Rattle.plain_history.specs.Kept.{kept_if}
use Rattle.plain_sending.proofs.replies.once.Goals as goal

-- one more place is kept, if it isn't among the earlier ones
once_here : (places : List ℕ) (i : ℕ) → i < length places →
    each_once (λ (a b : ℕ). a == b) (take (i + 1) places)
    ≡ each_once (λ (a b : ℕ). a == b) (take i places) ++ kept_if (not (list_any (λ (other : ℕ). other == get_or places i 0) (take i places))) (get_or places i 0)
once_here places i h = ap (each_once (λ (a b : ℕ). a == b)) (take_more places i 0 h) ∙ once_more (λ (a b : ℕ). a == b) (take i places) (get_or places i 0)

pub loop-index-preserved : goal.loop-index-preserved
loop-index-preserved c =
    let places = c.args.places.now in
    let i = c.loop-index.index in
    c.in_ok-put_once.ensures
    ∙ ap (λ (l : List ℕ). l ++ kept_if (not (list_any (λ (other : ℕ). other == get_or places i 0) (take i places))) (get_or places i 0)) c.loop-index.invariant
    ∙ sym (once_here places i c.loop-index-test.true)
