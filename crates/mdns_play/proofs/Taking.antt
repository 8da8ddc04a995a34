-- The lines of a script, one after another.
use Rattle.std.proofs.Common.{◌≡◌, ℕ, ◌<◌, ◌∙◌, Bool, true, false, cond, eqb, length, List, [], ◌∷◌, refl, sym, ap, arith}
use Rattle.std.specs.List.{slice_split, onto_first}
use Rattle.std.proofs.lemmas.Bool.{false≢true}
use Rattle.mdns_play.specs.Scripts.{without_return, lines_from, lines_of}
use Rattle.mdns_play.specs.Lines.{TakesLine}

split-some : (p : ℕ → Bool) (xs : List ℕ) → (part : List ℕ) × (parts : List (List ℕ)) × (slice_split p xs ≡ part ∷ parts)
split-some p [] = ([], [], refl)
split-some p (x ∷ xs) = at_test (p x) (split-some p xs)
  where
    at_test : (b : Bool) → (part : List ℕ) × (parts : List (List ℕ)) × (slice_split p xs ≡ part ∷ parts) → (part : List ℕ) × (parts : List (List ℕ)) × (cond b ([] ∷ slice_split p xs) (onto_first x (slice_split p xs)) ≡ part ∷ parts)
    at_test true s = ([], slice_split p xs, refl)
    at_test false s = (x ∷ s.0, s.1, rw s.2 refl)

-- a line up to a line feed
pub takes_line : (text line after : List ℕ) → slice_split (λ b. eqb b 10) text ≡ line ∷ slice_split (λ b. eqb b 10) after → length after < length text → TakesLine text (without_return line) after
unfolding lines_of
takes_line text line after split shorter =
    let s = split-some (λ b. eqb b 10) after in
    record { lines = ap lines_from split ∙ rw s.2 refl; shorter = shorter }

-- the last line, which has no line feed
pub takes_last : (text rest : List ℕ) → slice_split (λ b. eqb b 10) text ≡ text ∷ [] → eqb (length text) 0 ≡ false → rest ≡ [] → TakesLine text text rest
unfolding lines_of
takes_last [] rest split some none = absurd (false≢true (sym some))
takes_last (x ∷ xs) rest split some none = record { lines = ap lines_from split ∙ rw none refl; shorter = rw none (omega arith) }

pub no_lines : lines_of [] ≡ []
unfolding lines_of
no_lines = refl
