-- Bytes appended one piece after another, and read piece by piece.
use Rattle.std.proofs.Common.{◌≡◌, ℕ, ◌++◌, ◌∙◌, List, [], Ok, sym, ap}
use Rattle.std.proofs.lemmas.List.{append-nil}
use Rattle.sd_ipc.specs.Parts.{Part}

-- the first piece
pub first : (none out piece : List ℕ) → none ≡ [] → out ≡ none ++ piece → out ≡ piece
first none out piece e f = f ∙ ap (λ (l : List ℕ). l ++ piece) e

-- one piece more
pub next : (before out so_far piece : List ℕ) → before ≡ so_far → out ≡ before ++ piece → out ≡ so_far ++ piece
next before out so_far piece e f = f ∙ ap (λ (l : List ℕ). l ++ piece) e

-- a part with nothing behind it
pub at_end : {X : Type 0} (part : List ℕ → Part X) (bytes : List ℕ) (x : X) → ((more : List ℕ) → part (bytes ++ more) ≡ Ok (x, more)) → part bytes ≡ Ok (x, [])
at_end part bytes x again = ap part (sym (append-nil bytes)) ∙ again []
