-- Owed records by one more, and debts by one more entry.
use Rattle.std.proofs.Common.{◌≡◌, ℕ, ◌+◌, ◌<◌, not, List, [], ◌∷◌, ◌++◌, length, take, get_or, refl, ap, sym, ◌∙◌, Bool}
use Rattle.std.specs.Prelude.{filter}
use Rattle.std.specs.List.{list_any}
use Rattle.std.proofs.lemmas.List.{take_more}
use Rattle.lists.specs.Lists.{each_once}
use Rattle.mdns_history.specs.declared.entry.Entry.{Entry}
use Rattle.mdns_history.specs.Debts.{Debt, debts_made, is_ours, standing_debts, stays_open}
use Rattle.plain_history.proofs.Onces.{once_more}
use Rattle.plain_history.specs.Kept.{kept_if}

-- one more element, each once
pub once_at : {X : Type 0} (eq : X → X → Bool) (xs : List X) (i : ℕ) (y : X) → i < length xs → y ≡ get_or xs i y →
    each_once eq (take (i + 1) xs) ≡ each_once eq (take i xs) ++ kept_if (not (list_any (λ x. eq x y) (take i xs))) y
once_at {X = X} eq xs i y h e =
    ap (each_once eq) (take_more xs i y h ∙ ap (λ (x : X). take i xs ++ x ∷ []) (sym e)) ∙ once_more eq (take i xs) y

-- the debts behind an entry
abbrev pub debts_behind : Entry → List Entry → List Debt → List Debt
debts_behind entry past before = filter (λ debt. is_ours debt.rr (entry ∷ past)) (filter (stays_open entry) before ++ debts_made entry past)

pub debts_next : (entry : Entry) (past : List Entry) → debts_behind entry past (standing_debts past) ≡ standing_debts (entry ∷ past)
unfolding standing_debts
debts_next entry past = refl
