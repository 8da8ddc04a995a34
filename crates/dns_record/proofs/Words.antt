-- Words of a text that spaces part.
use Rattle.std.proofs.Common.{◌≡◌, ℕ, ◌<◌, ◌∙◌, List, eqb, Option, Some, None, length, get_or, sym, arith, Bor}
use Rattle.std.specs.List.{position_or_len, before_first, after_first}
use Rattle.std.specs.Option.{MatchOption, option_map}
use Rattle.std.proofs.lemmas.Bool.{false≢true, eq-eqb, eqb-true}
use Rattle.std.proofs.lemmas.List.Sums.{fails_before_first, passes_at_first}
use Rattle.number_text.specs.Cut.{cut_of}
use Rattle.number_text.proofs.Cuts.{cut_of-here, cut_of-nowhere}

-- what stands round the first space
pub word_cut : (text : List ℕ) (r : Option (Bor (List ℕ) × Bor (List ℕ)))
    → MatchOption r (position_or_len (λ b. eqb b 32) text ≡ length text) (λ x. (position_or_len (λ b. eqb b 32) text < length text) × (x.0.now ≡ before_first (λ b. eqb b 32) text) × (x.1.now ≡ after_first (λ b. eqb b 32) text))
    → option_map {U = List ℕ × List ℕ} (λ parts. (parts.0.now, parts.1.now)) r ≡ cut_of 32 text
word_cut text None h =
    cut_of-nowhere text 32 (λ k below e. false≢true (sym (fails_before_first (λ b. eqb b 32) text k 0 (omega (arith, h))) ∙ eq-eqb (get_or text k 0) 32 e))
word_cut text (Some x) h =
    let place = position_or_len (λ b. eqb b 32) text in
    (λ i. Some (h.1 i, h.2 i))
    ∙ cut_of-here text 32 place h.0
    (λ k below e. false≢true (sym (fails_before_first (λ b. eqb b 32) text k 0 below) ∙ eq-eqb (get_or text k 0) 32 e))
    (eqb-true (get_or text place 0) 32 (passes_at_first (λ b. eqb b 32) text 0 h.0))
