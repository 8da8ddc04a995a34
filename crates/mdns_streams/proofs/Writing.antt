-- A piece that is written part by part.
use Rattle.std.proofs.Common.{◌≡◌, ℕ, ◌-◌, List, Option, ◌++◌, length, take, drop, sym, ap, ◌∙◌, subst, append_assoc, take-append-drop}
use Rattle.std.proofs.lemmas.List.{take_rest}
use Rattle.std.specs.Io.KnownBytes.{Appends, Keeps}
use Rattle.std.proofs.KnownBytes.{Appends-kept}
use lib.Seq.{take-append_seam}

-- the next n bytes of the rest are done too
pub moves_front : (piece done rest : List ℕ) (n : ℕ) → piece ≡ done ++ rest → piece ≡ (done ++ take n rest) ++ take (length rest - n) (drop n rest)
moves_front piece done rest n e =
    e ∙ ap (λ l. done ++ l) (sym (take-append-drop n rest)) ∙ sym (append_assoc done (take n rest) (drop n rest)) ∙ ap (λ l. (done ++ take n rest) ++ l) (sym (take_rest rest n))

-- what was done is a front of the piece
pub left_off : (old mid new : Option (List ℕ)) (piece done rest : List ℕ) → piece ≡ done ++ rest → Appends old mid done → Keeps mid new → (n : ℕ) × Appends old new (take n piece)
left_off old mid new piece done rest split appended kept =
    (length done, subst (Appends old new) (sym (ap (take (length done)) split ∙ take-append_seam done rest)) (Appends-kept old mid new done appended kept))
