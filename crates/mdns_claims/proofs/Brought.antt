-- What a deed makes of groups whose records pass a test: they still do, where those that it brings do.
use Rattle.std.proofs.Common.{◌≡◌, ◌∙◌, Bool, true, false, cond, not, ◌&&◌, List, [], ◌∷◌, ◌++◌, map, filter, Option, Some, None, refl, ap, sym}
use Rattle.std.specs.List.{list_all}
use Rattle.std.proofs.lemmas.Bool.{and_parts, and_from}
use Rattle.std.proofs.lemmas.List.Folds.{list_all-append}
use Rattle.dns_record.specs.declared.record.Rr.{Rr}
use Rattle.mdns_probe.specs.Kept.{Kept}
use Rattle.mdns_claimants.specs.declared.renewal.Renewal.{Renewal}
use Rattle.mdns_renewals.specs.Occasions.{ends_by}
use Rattle.mdns_claimants.specs.Due.{ticked_at}
use Rattle.mdns_claims.specs.Later.{Shown}
use Rattle.mdns_claimants.specs.Named.{with_renewal, with_renewals}
use Rattle.mdns_claims.specs.Planned.{Means, going_on}
use Rattle.mdns_claims.proofs.Ticked.{shown_ticked}

kept_filter : {X : Type 0} (p q : X → Bool) (xs : List X) → list_all p xs ≡ true → list_all p (filter q xs) ≡ true
kept_filter p q [] h = refl
kept_filter p q (x ∷ xs) h = let ps = and_parts (p x) (list_all p xs) h in of (q x) ps.0 (kept_filter p q xs ps.1)
  where
    of : (b : Bool) → p x ≡ true → list_all p (filter q xs) ≡ true → list_all p (cond b (x ∷ filter q xs) (filter q xs)) ≡ true
    of true here rest = and_from (p x) (list_all p (filter q xs)) here rest
    of false here rest = rest

-- of the unique and the shared records of each group
module _ (t : List Rr → List Rr → Bool) where
  abbrev pub passes : Kept → Bool
  passes one = t one.claim.unique one.claim.shared

  pub ticked_passes : (means : Means) (kept : List Kept) → list_all passes kept ≡ true → list_all passes (map (ticked_at means.moment means.announces) kept) ≡ true
  ticked_passes means [] h = refl
  ticked_passes means (one ∷ kept) h =
      let ps = and_parts (passes one) (list_all passes kept) h in
      and_from (passes (ticked_at means.moment means.announces one)) (list_all passes (map (ticked_at means.moment means.announces) kept))
      (ap (λ (s : Shown). t s.unique s.shared) (shown_ticked means.moment means.announces one) ∙ ps.0) (ticked_passes means kept ps.1)

  pub begun_passes : (kept : List Kept) (one : Kept) → list_all passes kept ≡ true → passes one ≡ true → list_all passes (kept ++ one ∷ []) ≡ true
  begun_passes kept one h k = list_all-append passes kept (one ∷ []) ∙ and_from (list_all passes kept) (passes one && true) h (and_from (passes one) true k refl)

  pub going_passes : (means : Means) (kept : List Kept) → list_all passes kept ≡ true → list_all passes (going_on means.told means.marks kept) ≡ true
  going_passes means kept h = kept_filter passes (λ (one : Kept). not (ends_by means.told means.marks one.group)) kept h

  module _ (r : Option Renewal → Bool) (some : (new : Renewal) → r (Some new) ≡ t new.claim.unique new.claim.shared) where
    pub renewed_passes : (renewals : List (Option Renewal)) (kept : List Kept) → list_all r renewals ≡ true → list_all passes kept ≡ true → list_all passes (with_renewals renewals kept) ≡ true
    renewed_passes [] kept h k = k
    renewed_passes (renewal ∷ renewals) [] h k = refl
    renewed_passes (renewal ∷ renewals) (one ∷ kept) h k =
        let first = and_parts (r renewal) (list_all r renewals) h in
        let old = and_parts (passes one) (list_all passes kept) k in
        and_from (passes (with_renewal renewal one)) (list_all passes (with_renewals renewals kept)) (of renewal first.0 old.0) (renewed_passes renewals kept first.1 old.1)
      where
        of : (o : Option Renewal) → r o ≡ true → passes one ≡ true → passes (with_renewal o one) ≡ true
        of None new stays = stays
        of (Some new) brings stays = sym (some new) ∙ brings
