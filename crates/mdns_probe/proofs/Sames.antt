-- Two lists of records in two parts each are the same where each part is among the other two, both ways; and a list is the same as itself.
use Rattle.std.proofs.Common.{◌≡◌, Bool, true, false, ◌&&◌, ◌||◌, List, [], ◌∷◌, ◌++◌, append_assoc, ap, subst, sym, ◌∙◌, refl}
use Rattle.std.specs.List.{list_any, list_all}
use Rattle.std.proofs.lemmas.List.Folds.{list_all-append}
use Rattle.dns_record.specs.declared.record.Rr.{Rr}
use Rattle.dns_record.specs.Records.{same}
use Rattle.dns_record.proofs.Same.{same_tells}
use Rattle.mdns_history.specs.Announcing.{same_records}

abbrev among : List Rr → Rr → Bool
among rrs rr = list_any (same rr) rrs

pub both_ways : (a b c d : List Rr) → (list_all (λ rr. list_any (same rr) (c ++ d)) a && list_all (λ rr. list_any (same rr) (c ++ d)) b && list_all (λ rr. list_any (same rr) (a ++ b)) c && list_all (λ rr. list_any (same rr) (a ++ b)) d)
    ≡ same_records (a ++ b) (c ++ d)
both_ways a b c d =
    assoc (list_all (among (c ++ d)) a) (list_all (among (c ++ d)) b) (list_all (among (a ++ b)) c) (list_all (among (a ++ b)) d)
    ∙ (λ i. sym (list_all-append (among (c ++ d)) a b) i && sym (list_all-append (among (a ++ b)) c d) i)
  where
    assoc : (p q r s : Bool) → (p && q && r && s) ≡ ((p && q) && (r && s))
    assoc true true r s = refl
    assoc true false r s = refl
    assoc false q r s = refl

-- records are the same as themselves
found_itself : (rr : Rr) (front back : List Rr) → list_any (same rr) (front ++ rr ∷ back) ≡ true
found_itself rr [] back = ap (λ b. b || list_any (same rr) back) ((same_tells rr rr).1 refl)
found_itself rr (other ∷ front) back = of (same rr other) (found_itself rr front back)
  where
    of : (b : Bool) → list_any (same rr) (front ++ rr ∷ back) ≡ true → (b || list_any (same rr) (front ++ rr ∷ back)) ≡ true
    of true h = refl
    of false h = h

all_found : (front back : List Rr) → list_all (λ rr. list_any (same rr) (front ++ back)) back ≡ true
all_found front [] = refl
all_found front (rr ∷ back) =
    ap (λ b. b && list_all (λ one. list_any (same one) (front ++ rr ∷ back)) back) (found_itself rr front back)
    ∙ subst (λ (l : List Rr). list_all (λ one. list_any (same one) l) back ≡ true) (append_assoc front (rr ∷ []) back) (all_found (front ++ rr ∷ []) back)

pub same_itself : (rrs : List Rr) → same_records rrs rrs ≡ true
same_itself rrs = (λ i. all_found [] rrs i && all_found [] rrs i)
