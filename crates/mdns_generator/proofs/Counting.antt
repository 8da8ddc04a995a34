-- The commands of one kind that are still to come.
use Rattle.std.proofs.Common.{◌≡◌, ℕ, suc, ◌+◌, ◌-◌, ◌<◌, List, ◌∷◌, ◌++◌, [], map, refl, sym, ap, ◌∙◌, append_assoc, arith}
use Rattle.lists.specs.Lists.{count_up}
use Rattle.mdns_script.specs.declared.command.Command.{Command}

-- the commands of the numbers from the first on, before the last
abbrev pub coming : (ℕ → Command) → ℕ → ℕ → List Command
coming of first last = map of (count_up first (last - first))

next_coming : (of : ℕ → Command) (first last : ℕ) → first < last → coming of first last ≡ of first ∷ coming of (first + 1) last
next_coming of first last l = go (last - first) (last - (first + 1)) (omega arith)
  where
    go : (m k : ℕ) → m ≡ suc k → map of (count_up first m) ≡ of first ∷ map of (count_up (first + 1) k)
    go m k e = ap (λ (n : ℕ). map of (count_up first n)) e

-- one more was put
pub one_put : (of : ℕ → Command) (first last : ℕ) (old new whole : List Command) (command : Command) → first < last → command ≡ of first → new ≡ old ++ command ∷ []
    → old ++ coming of first last ≡ whole → new ++ coming of (first + 1) last ≡ whole
one_put of first last old new whole command l is put before =
    ap (λ (cs : List Command). cs ++ coming of (first + 1) last) put
    ∙ append_assoc old (command ∷ []) (coming of (first + 1) last)
    ∙ ap (λ (c : Command). old ++ c ∷ coming of (first + 1) last) is
    ∙ ap (λ (cs : List Command). old ++ cs) (sym (next_coming of first last l))
    ∙ before
