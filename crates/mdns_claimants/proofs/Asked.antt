-- What questions have of own records and of NSEC records, once these were put group by group.
use Rattle.std.proofs.Common.{◌≡◌, ℕ, ◌+◌, ◌<◌, Bool, true, false, cond, List, [], ◌∷◌, ◌++◌, map, filter, length, get_or, take, refl, ap, sym, subst, ◌∙◌, append-nil, append_assoc}
use Rattle.std.specs.List.{flat_map}
use Rattle.std.proofs.lemmas.List.{take_more}
use Rattle.dns_record.specs.declared.record.Rr.{Rr}
use Rattle.mdns_asked.specs.Asked.{Contents, IsPut}
use Rattle.mdns_asked.proofs.Asking.{then_put}
use Rattle.mdns_probe.specs.declared.claim.Claim.{Claim}
use Rattle.mdns_probe.specs.Kept.{Kept}
use Rattle.mdns_claimants.specs.Owned.{claimed, nsec_for, nsec_if_sure, nsecs_in, own_in}

-- the own records with a group more
pub own_first : (one : Kept) (kept : List Kept) → own_in (one ∷ kept) ≡ claimed one.claim.sure one.claim ++ own_in kept
own_first one kept = of one.claim.sure
  where
    sure : List Claim
    sure = filter (λ claim. claim.sure) (map (λ (other : Kept). other.claim) kept)

    of : (b : Bool) → flat_map (λ (claim : Claim). claim.unique ++ claim.shared) (cond b (one.claim ∷ sure) sure) ≡ cond b (one.claim.unique ++ one.claim.shared) [] ++ own_in kept
    of true = refl
    of false = refl

pub own_last : (kept : List Kept) (one : Kept) → own_in (kept ++ one ∷ []) ≡ own_in kept ++ claimed one.claim.sure one.claim
own_last [] one = own_first one [] ∙ append-nil (claimed one.claim.sure one.claim)
own_last (other ∷ kept) one =
    own_first other (kept ++ one ∷ [])
    ∙ ap (λ (l : List Rr). claimed other.claim.sure other.claim ++ l) (own_last kept one)
    ∙ sym (append_assoc (claimed other.claim.sure other.claim) (own_in kept) (claimed one.claim.sure one.claim))
    ∙ ap (λ (l : List Rr). l ++ claimed one.claim.sure one.claim) (sym (own_first other kept))

nsecs_last : (kept : List Kept) (one : Kept) → nsecs_in (kept ++ one ∷ []) ≡ nsecs_in kept ++ nsec_if_sure one
nsecs_last [] one = of one.claim.sure
  where
    of : (b : Bool) → map nsec_for (cond b (one ∷ []) []) ≡ cond b (nsec_for one ∷ []) []
    of true = refl
    of false = refl
nsecs_last (other ∷ kept) one = of other.claim.sure (nsecs_last kept one)
  where
    sure : List Kept → List Kept
    sure some = filter (λ k. k.claim.sure) some

    of : (b : Bool) → map nsec_for (sure (kept ++ one ∷ [])) ≡ map nsec_for (sure kept) ++ nsec_if_sure one
        → map nsec_for (cond b (other ∷ sure (kept ++ one ∷ [])) (sure (kept ++ one ∷ []))) ≡ map nsec_for (cond b (other ∷ sure kept) (sure kept)) ++ nsec_if_sure one
    of true rest = ap (λ (l : List Rr). nsec_for other ∷ l) rest
    of false rest = rest

module _ (kept : List Kept) (i : ℕ) (one : Kept) (start before after : Contents) (within : i < length kept) (is : one ≡ get_or kept i one) where
  one_more : take i kept ++ one ∷ [] ≡ take (i + 1) kept
  one_more = ap (λ (k : Kept). take i kept ++ k ∷ []) is ∙ sym (take_more kept i one within)

  -- the own records of one group more
  pub own_put : IsPut (own_in (take i kept)) start before → IsPut (claimed one.claim.sure one.claim) before after → IsPut (own_in (take (i + 1) kept)) start after
  own_put had put =
      subst (λ (rrs : List Rr). IsPut rrs start after) (sym (own_last (take i kept) one) ∙ ap own_in one_more)
      (then_put (own_in (take i kept)) (claimed one.claim.sure one.claim) start before after had put)

  -- the NSEC record of one group more
  pub nsec_put : IsPut (nsecs_in (take i kept)) start before → IsPut (nsec_if_sure one) before after → IsPut (nsecs_in (take (i + 1) kept)) start after
  nsec_put had put =
      subst (λ (rrs : List Rr). IsPut rrs start after) (sym (nsecs_last (take i kept) one) ∙ ap nsecs_in one_more)
      (then_put (nsecs_in (take i kept)) (nsec_if_sure one) start before after had put)
