-- What a tick announces of groups, one by one: nothing of those of which nothing is due.
use Rattle.std.proofs.Common.{◌≡◌, ◌∙◌, ℕ, ◌<◌, Bool, true, false, cond, List, [], ◌∷◌, ◌++◌, map, refl, ap, sym, append-nil}
use Rattle.std.specs.Prelude.{filter}
use Rattle.std.specs.List.{flat_map}
use Rattle.std.proofs.lemmas.List.Elements.{filter-append}
use Rattle.dns_record.specs.declared.record.Rr.{Rr}
use Rattle.mdns_history.specs.declared.mark.Mark.TheVariants as mark
use Rattle.mdns_probe.specs.declared.claim.Claim.{Claim}
use Rattle.mdns_probe.specs.Claiming.{is_announce_due, ticked}
use Rattle.mdns_probe.specs.Kept.{Kept, announced_for}
use Rattle.mdns_claimants.proofs.Passing.{IsOfDue}
use Rattle.mdns_claimants.proofs.Still.{still_announce}
use Rattle.mdns_responding.specs.Announced.{announced_in, records_in}

pub marks_due : (now : ℕ) → IsOfDue (λ kept. announced_for (map (λ one. one.claim) kept) now) now
marks_due now = record { none = refl; first = first; still = λ one later. ap (λ (b : Bool). map (λ (claim : Claim). mark.Announced claim.group) (cond b (one.claim ∷ []) [])) (still_announce now one later) }
  where
    first : (one : Kept) (kept : List Kept) → announced_for (map (λ k. k.claim) (one ∷ kept)) now ≡ announced_for (map (λ k. k.claim) (one ∷ [])) now ++ announced_for (map (λ k. k.claim) kept) now
    first one kept = of (is_announce_due now (ticked now one.claim))
      where
        some : List Claim
        some = filter (λ claim. is_announce_due now (ticked now claim)) (map (λ (k : Kept). k.claim) kept)

        of : (b : Bool) → map (λ (claim : Claim). mark.Announced claim.group) (cond b (one.claim ∷ some) some)
            ≡ map (λ (claim : Claim). mark.Announced claim.group) (cond b (one.claim ∷ []) []) ++ map (λ (claim : Claim). mark.Announced claim.group) some
        of true = refl
        of false = refl

-- the records of groups that a tick announces, of which some are left out
pub records_due : (free : Rr → Bool) (now : ℕ) → IsOfDue (λ kept. filter free (records_in (announced_in now kept))) now
records_due free now = record { none = refl; first = first; still = λ one later. ap (λ (b : Bool). filter free (records_in (cond b (one ∷ []) []))) (still_announce now one later) }
  where
    records : Kept → List Rr
    records one = one.claim.unique ++ one.claim.shared

    first : (one : Kept) (kept : List Kept) → filter free (records_in (announced_in now (one ∷ kept))) ≡ filter free (records_in (announced_in now (one ∷ []))) ++ filter free (records_in (announced_in now kept))
    first one kept = of (is_announce_due now (ticked now one.claim))
      where
        some : List Kept
        some = announced_in now kept

        of : (b : Bool) → filter free (records_in (cond b (one ∷ some) some)) ≡ filter free (records_in (cond b (one ∷ []) [])) ++ filter free (records_in some)
        of true = filter-append free (records one) (records_in some) ∙ ap (λ (l : List Rr). filter free l ++ filter free (records_in some)) (sym (append-nil (records one)))
        of false = refl
