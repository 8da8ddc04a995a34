-- The records of sure groups, group by group: whether one is among them, and the NSEC records of a name.
use Rattle.std.proofs.Common.{◌≡◌, ◌∙◌, ℕ, ◌+◌, ◌<◌, Bool, true, false, cond, ◌&&◌, ◌||◌, List, [], ◌∷◌, ◌++◌, map, length, get_or, drop, append_assoc, refl, ap, sym}
use Rattle.std.specs.Prelude.{filter}
use Rattle.std.specs.List.{list_any, flat_map}
use Rattle.std.proofs.lemmas.List.{drop_more}
use Rattle.std.proofs.lemmas.List.Folds.{list_any-append}
use Rattle.dns_name.specs.Names.{folded_eq}
use Rattle.dns_record.specs.declared.record.Rr.{Rr}
use Rattle.mdns_history.specs.Debts.{nsec_record}
use Rattle.mdns_probe.specs.declared.claim.Claim.{Claim}
use Rattle.mdns_probe.specs.Kept.{Kept, name_of}
use Rattle.mdns_claimants.specs.Owned.{own_in, nsec_for, nsecs_in}

-- whether a group is sure and has a record that passes a test
abbrev pub has_own : (Rr → Bool) → Kept → Bool
has_own t one = one.claim.sure && list_any t (one.claim.unique ++ one.claim.shared)

-- whether it is sure and its NSEC record does
abbrev pub has_nsec : (Rr → Bool) → Kept → Bool
has_nsec t one = one.claim.sure && t (nsec_for one)

pub any_own : (t : Rr → Bool) (kept : List Kept) → list_any t (own_in kept) ≡ list_any (has_own t) kept
any_own t [] = refl
any_own t (one ∷ kept) = of one.claim.sure (any_own t kept)
  where
    of : (b : Bool) → list_any t (own_in kept) ≡ list_any (has_own t) kept →
        list_any t (flat_map (λ (claim : Claim). claim.unique ++ claim.shared) (cond b (one.claim ∷ filter (λ (claim : Claim). claim.sure) (map (λ (k : Kept). k.claim) kept)) (filter (λ (claim : Claim). claim.sure) (map (λ (k : Kept). k.claim) kept))))
        ≡ ((b && list_any t (one.claim.unique ++ one.claim.shared)) || list_any (has_own t) kept)
    of true rest = list_any-append t (one.claim.unique ++ one.claim.shared) (own_in kept) ∙ ap (λ (b : Bool). list_any t (one.claim.unique ++ one.claim.shared) || b) rest
    of false rest = rest

pub any_nsec : (t : Rr → Bool) (kept : List Kept) → list_any t (nsecs_in kept) ≡ list_any (has_nsec t) kept
any_nsec t [] = refl
any_nsec t (one ∷ kept) = of one.claim.sure (any_nsec t kept)
  where
    of : (b : Bool) → list_any t (nsecs_in kept) ≡ list_any (has_nsec t) kept →
        list_any t (map nsec_for (cond b (one ∷ filter (λ (k : Kept). k.claim.sure) kept) (filter (λ (k : Kept). k.claim.sure) kept))) ≡ ((b && t (nsec_for one)) || list_any (has_nsec t) kept)
    of true rest = ap (λ (b : Bool). t (nsec_for one) || b) rest
    of false rest = rest

-- the NSEC records of a name are those of the groups that have it
nsec_owner : (one : Kept) → (nsec_for one).owner ≡ name_of one
unfolding nsec_record
nsec_owner one = refl

pub nsecs_more : (name : List (List ℕ)) (one : Kept) (kept : List Kept) → filter (λ rr. folded_eq rr.owner name) (nsecs_in (one ∷ kept))
    ≡ cond (one.claim.sure && folded_eq (name_of one) name) (nsec_for one ∷ filter (λ rr. folded_eq rr.owner name) (nsecs_in kept)) (filter (λ rr. folded_eq rr.owner name) (nsecs_in kept))
nsecs_more name one kept = of one.claim.sure
  where
    of : (b : Bool) → filter (λ rr. folded_eq rr.owner name) (map nsec_for (cond b (one ∷ filter (λ (k : Kept). k.claim.sure) kept) (filter (λ (k : Kept). k.claim.sure) kept)))
        ≡ cond (b && folded_eq (name_of one) name) (nsec_for one ∷ filter (λ rr. folded_eq rr.owner name) (nsecs_in kept)) (filter (λ rr. folded_eq rr.owner name) (nsecs_in kept))
    of true = ap (λ (owner : List (List ℕ)). cond (folded_eq owner name) (nsec_for one ∷ filter (λ rr. folded_eq rr.owner name) (nsecs_in kept)) (filter (λ rr. folded_eq rr.owner name) (nsecs_in kept))) (nsec_owner one)
    of false = refl

-- one group more
pub nsecs_put : (name : List (List ℕ)) (kept : List Kept) (i : ℕ) (one : Kept) (before after : List Rr) (b : Bool) → i < length kept → one ≡ get_or kept i one → b ≡ (one.claim.sure && folded_eq (name_of one) name) →
    after ≡ before ++ cond b (nsec_for one ∷ []) [] → after ++ filter (λ rr. folded_eq rr.owner name) (nsecs_in (drop (i + 1) kept)) ≡ before ++ filter (λ rr. folded_eq rr.owner name) (nsecs_in (drop i kept))
nsecs_put name kept i one before after b within is has put =
    ap (λ (l : List Rr). l ++ rest) put
    ∙ append_assoc before (cond b (nsec_for one ∷ []) []) rest
    ∙ ap (λ (l : List Rr). before ++ l) (of b ∙ ap (λ (c : Bool). cond c (nsec_for one ∷ rest) rest) has ∙ sym (nsecs_more name one (drop (i + 1) kept)) ∙ ap (λ (l : List Kept). filter (λ rr. folded_eq rr.owner name) (nsecs_in l)) (sym first))
  where
    rest : List Rr
    rest = filter (λ rr. folded_eq rr.owner name) (nsecs_in (drop (i + 1) kept))

    of : (c : Bool) → cond c (nsec_for one ∷ []) [] ++ rest ≡ cond c (nsec_for one ∷ rest) rest
    of true = refl
    of false = refl

    first : drop i kept ≡ one ∷ drop (i + 1) kept
    first = drop_more kept i one within ∙ ap (λ (k : Kept). k ∷ drop (i + 1) kept) (sym is)
