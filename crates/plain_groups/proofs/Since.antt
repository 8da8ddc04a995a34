-- What is said of the entries since a place, one entry further.
use Rattle.std.proofs.Common.{◌≡◌, ℕ, Bool, true, false, cond, List, [], ◌∷◌, ◌++◌, refl, ap, sym, ◌∙◌, append-nil, append_assoc}
use Rattle.std.specs.List.{cons_option}
use Rattle.std.specs.Prelude.{if◌then◌else◌}
use Rattle.mdns_history.specs.declared.entry.Entry.{Entry}
use Rattle.mdns_history.specs.History.{since, moment_if}
use Rattle.plain_history.specs.Kept.{kept_if}

-- the moments of the entries that pass a test
abbrev pub moments_since : (Entry → List Entry → Bool) → (Entry → Bool) → List Entry → List ℕ
moments_since stop test history = since stop (λ entry. moment_if (test entry) entry.moment) history

-- nothing is said from the place on
pub since_end : (stop : Entry → List Entry → Bool) (test : Entry → Bool) (entry : Entry) (past : List Entry) (before : List ℕ) → stop entry past ≡ true →
    before ≡ before ++ moments_since stop test (entry ∷ past)
since_end stop test entry past before h =
    sym (ap (λ b. before ++ (if b then [] else cons_option (moment_if (test entry) entry.moment) (moments_since stop test past))) h ∙ append-nil before)

-- one more entry, which isn't the place
pub since_next : (stop : Entry → List Entry → Bool) (test : Entry → Bool) (entry : Entry) (past : List Entry) (before : List ℕ) → stop entry past ≡ false →
    (before ++ kept_if (test entry) entry.moment) ++ moments_since stop test past ≡ before ++ moments_since stop test (entry ∷ past)
since_next stop test entry past before h =
    one (test entry) ∙ sym (ap (λ b. before ++ (if b then [] else cons_option (moment_if (test entry) entry.moment) (moments_since stop test past))) h)
  where
    one : (b : Bool) → (before ++ kept_if b entry.moment) ++ moments_since stop test past ≡ before ++ cons_option (moment_if b entry.moment) (moments_since stop test past)
    one true = append_assoc before (entry.moment ∷ []) (moments_since stop test past)
    one false = append_assoc before [] (moments_since stop test past)
