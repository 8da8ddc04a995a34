-- A record is among others where it is among those of its name.
use Rattle.std.proofs.Common.{◌≡◌, ℕ, Bool, true, false, true≢false, cond, ◌||◌, List, [], ◌∷◌, refl, ap, sym, ◌∙◌}
use Rattle.std.specs.List.{list_any}
use Rattle.std.proofs.lemmas.Bool.{and_parts}
use Rattle.dns_name.specs.Names.{folded_eq}
use Rattle.dns_name.proofs.Folding.{folded_eq-equivalence}
use Rattle.dns_record.specs.declared.record.Rr.{Rr}
use Rattle.dns_record.specs.Records.{same, data_eq}
use Rattle.dns_record.proofs.Same.{same_by_data}
use Rattle.mdns_claimants.specs.Owned.{of_name}

-- records of different names aren't the same
other_name : (rr other : Rr) (name : List (List ℕ)) → folded_eq rr.owner name ≡ true → folded_eq other.owner name ≡ false → same rr other ≡ false
other_name rr other name here there = of (same rr other) refl
  where
    of : (b : Bool) → same rr other ≡ b → b ≡ false
    of false e = refl
    of true e =
        let owner : folded_eq rr.owner other.owner ≡ true = (and_parts (data_eq rr.rdata other.rdata) (folded_eq rr.owner other.owner) (sym (same_by_data rr other) ∙ e)).1 in
        absurd (true≢false (sym here ∙ folded_eq-equivalence.congr rr.owner other.owner name owner ∙ there))

pub any_of_name : (name : List (List ℕ)) (rr : Rr) (rrs : List Rr) → folded_eq rr.owner name ≡ true → list_any (same rr) (of_name name rrs) ≡ list_any (same rr) rrs
any_of_name name rr [] e = refl
any_of_name name rr (other ∷ rrs) e = of (folded_eq other.owner name) refl (any_of_name name rr rrs e)
  where
    of : (b : Bool) → folded_eq other.owner name ≡ b → list_any (same rr) (of_name name rrs) ≡ list_any (same rr) rrs →
        list_any (same rr) (cond b (other ∷ of_name name rrs) (of_name name rrs)) ≡ (same rr other || list_any (same rr) rrs)
    of true h rest = ap (λ (b : Bool). same rr other || b) rest
    of false h rest = rest ∙ (λ i. sym (other_name rr other name e h) i || list_any (same rr) rrs)

-- none is the same as a record where none has its name
pub none_same : (rr : Rr) (rrs : List Rr) → of_name rr.owner rrs ≡ [] → list_any (same rr) rrs ≡ false
none_same rr rrs none = sym (any_of_name rr.owner rr rrs (folded_eq-equivalence.refl rr.owner)) ∙ ap (list_any (same rr)) none
