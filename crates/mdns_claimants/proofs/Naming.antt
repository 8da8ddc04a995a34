-- Names that are put together: which are among them, and which records have them.
use Rattle.std.proofs.Common.{◌≡◌, ℕ, ◌+◌, ◌<◌, Bool, true, false, true≢false, cond, ◌||◌, List, [], ◌∷◌, ◌++◌, length, get_or, drop, refl, ap, sym, ◌∙◌}
use Rattle.std.specs.List.{list_any}
use Rattle.std.proofs.lemmas.List.{drop_more}
use Rattle.std.proofs.lemmas.List.Folds.{list_any-append}
use Rattle.dns_name.specs.Names.{folded_eq}
use Rattle.dns_name.proofs.Folding.{folded_eq-equivalence}
use Rattle.dns_record.specs.declared.record.Rr.{Rr}
use Rattle.mdns_claimants.specs.Owned.{of_name, is_among, AreWithin}

pub within_pushed : (names : List (List (List ℕ))) (more : List (List ℕ)) → AreWithin names (names ++ more ∷ [])
within_pushed names more name h = list_any-append (folded_eq name) names (more ∷ []) ∙ ap (λ b. b || list_any (folded_eq name) (more ∷ [])) h

pub among_pushed : (names : List (List (List ℕ))) (name : List (List ℕ)) → is_among (names ++ name ∷ []) name ≡ true
among_pushed names name =
    list_any-append (folded_eq name) names (name ∷ []) ∙ ap (λ b. list_any (folded_eq name) names || (b || false)) (folded_eq-equivalence.refl name) ∙ last (list_any (folded_eq name) names)
  where
    last : (b : Bool) → (b || true) ≡ true
    last true = refl
    last false = refl

-- a name that isn't among more names isn't among fewer
pub not_within : (some others : List (List (List ℕ))) → AreWithin some others → (name : List (List ℕ)) → is_among others name ≡ false → is_among some name ≡ false
not_within some others within name e = of (is_among some name) refl
  where
    of : (b : Bool) → is_among some name ≡ b → b ≡ false
    of false h = refl
    of true h = absurd (true≢false (sym (within name h) ∙ e))

pub same_among : (one other : List (List ℕ)) → folded_eq one other ≡ true → (names : List (List (List ℕ))) → is_among names one ≡ is_among names other
same_among one other e [] = refl
same_among one other e (name ∷ names) = λ i. folded_eq-equivalence.congr one other name e i || same_among one other e names i

apart : (names : List (List (List ℕ))) (owner name : List (List ℕ)) → is_among names owner ≡ true → is_among names name ≡ false → folded_eq owner name ≡ false
apart names owner name here e = of (folded_eq owner name) refl
  where
    of : (b : Bool) → folded_eq owner name ≡ b → b ≡ false
    of false h = refl
    of true h = absurd (true≢false (sym here ∙ same_among owner name h names ∙ e))

-- a record whose owner is among names has no name that isn't
pub passed : (names : List (List (List ℕ))) (rrs : List Rr) (i : ℕ) (rr : Rr) → i < length rrs → rr ≡ get_or rrs i rr → is_among names rr.owner ≡ true →
    (name : List (List ℕ)) → is_among names name ≡ false → of_name name (drop (i + 1) rrs) ≡ of_name name (drop i rrs)
passed names rrs i rr within is here name e =
    sym (
    ap (of_name name) (drop_more rrs i rr within ∙ ap (λ (r : Rr). r ∷ drop (i + 1) rrs) (sym is))
    ∙ ap (λ (b : Bool). cond b (rr ∷ of_name name (drop (i + 1) rrs)) (of_name name (drop (i + 1) rrs))) (apart names rr.owner name here e))
