-- Names of which a record comes to be own or ceases to be.
use Rattle.std.proofs.Common.{◌≡◌, ℕ, ◌+◌, ◌<◌, Bool, true, false, true≢false, cond, not, ◌||◌, ◌⊎◌, List, [], ◌∷◌, ◌++◌, take, length, get_or, refl, ap, sym, ◌∙◌, inl, inr}
use Rattle.std.proofs.lemmas.List.{take_more}
use Rattle.std.proofs.lemmas.List.Folds.{list_any-append}
use Rattle.dns_name.specs.Names.{folded_eq}
use Rattle.dns_name.proofs.Folding.{folded_eq-equivalence}
use Rattle.dns_record.specs.declared.record.Rr.{Rr}
use Rattle.mdns_history.specs.Announcing.{same_records}
use Rattle.mdns_probe.proofs.Sames.{same_itself}
use Rattle.mdns_claims.specs.Moved.{is_moved}
use Rattle.mdns_claimants.specs.Owned.{of_name, is_among}

owner_alike : (one other owner : List (List ℕ)) → folded_eq one other ≡ true → folded_eq owner one ≡ folded_eq owner other
owner_alike one other owner alike = folded_eq-equivalence.symm owner one ∙ folded_eq-equivalence.congr one other owner alike ∙ folded_eq-equivalence.symm other owner

-- names that are one, case aside, have the same records
of_alike : (one other : List (List ℕ)) → folded_eq one other ≡ true → (rrs : List Rr) → of_name one rrs ≡ of_name other rrs
of_alike one other alike [] = refl
of_alike one other alike (rr ∷ rrs) = λ i. cond (owner_alike one other rr.owner alike i) (rr ∷ of_alike one other alike rrs i) (of_alike one other alike rrs i)

-- of names that are one, case aside, the same comes and goes
pub moved_name : (one other : List (List ℕ)) (own own_behind : List Rr) → folded_eq one other ≡ true → is_moved one own own_behind ≡ is_moved other own own_behind
moved_name one other own own_behind alike = λ i. not (same_records (of_alike one other alike own i) (of_alike one other alike own_behind i))

-- nothing comes or goes of a name whose records stay
pub unmoved : (name : List (List ℕ)) (own own_behind : List Rr) → of_name name own_behind ≡ of_name name own → is_moved name own own_behind ≡ false
unmoved name own own_behind still = ap (λ (l : List Rr). not (same_records (of_name name own) l)) still ∙ ap not (same_itself (of_name name own))

-- a name of which something comes or goes is among those that were looked at
pub moved_among : (concerned : List (List (List ℕ))) (name : List (List ℕ)) (own own_behind : List Rr) → (is_among concerned name ≡ false → of_name name own_behind ≡ of_name name own) →
    is_moved name own own_behind ≡ true → is_among concerned name ≡ true
moved_among concerned name own own_behind still moved = of (is_among concerned name) refl
  where
    of : (b : Bool) → is_among concerned name ≡ b → b ≡ true
    of true e = refl
    of false e = absurd (true≢false (sym moved ∙ unmoved name own own_behind (still e)))

either : (a b : Bool) → (a || (b || false)) ≡ true → (a ≡ true) ⊎ (b ≡ true)
either true b e = inl refl
either false true e = inr refl
either false false e = absurd (cc)

-- a name among some and one more is among these, or is that one
pub among_next : (names : List (List (List ℕ))) (i : ℕ) (one : List (List ℕ)) → i < length names → one ≡ get_or names i one → (name : List (List ℕ)) → is_among (take (i + 1) names) name ≡ true →
    (is_among (take i names) name ≡ true) ⊎ (folded_eq name one ≡ true)
among_next names i one within is name e =
    let front : take (i + 1) names ≡ take i names ++ one ∷ [] = take_more names i one within ∙ ap (λ (x : List (List ℕ)). take i names ++ x ∷ []) (sym is) in
    either (is_among (take i names) name) (folded_eq name one) (sym (list_any-append (folded_eq name) (take i names) (one ∷ [])) ∙ ap (λ (l : List (List (List ℕ))). is_among l name) (sym front) ∙ e)
