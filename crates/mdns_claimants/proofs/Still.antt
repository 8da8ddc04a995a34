-- A group whose moment hasn't come: nothing is due of it, and a tick leaves it as it is.
use Rattle.std.proofs.Common.{◌≡◌, ℕ, ◌<◌, Bool, true, false, cond, not, ◌&&◌, [], ◌∷◌, refl, ap, ◌∙◌, arith}
use Rattle.std.specs.Prelude.{nat_le, nat_lt}
use Rattle.std.proofs.lemmas.Bool.{lt-leb}
use Rattle.mdns_probe.specs.Claiming.{is_probe_due, is_settle_due, is_announce_due, probed_at, settled_at, settled_if, announced_at, announced_if, ticked, after_tick}
use Rattle.mdns_probe.specs.Kept.{Kept}
use Rattle.mdns_claimants.specs.Due.{kept_moment, moment_of, ticked_at}

and_false : (a b : Bool) → b ≡ false → (a && b) ≡ false
and_false true b e = e
and_false false b e = refl

later_than : (now moment : ℕ) → now < kept_moment (moment ∷ []) → nat_le moment now ≡ false
later_than now moment h = lt-leb moment now (omega arith)

module _ (now : ℕ) (one : Kept) (later : now < moment_of one) where
  pub still_probe : is_probe_due now one.claim ≡ false
  still_probe = of one.claim.sure later
    where
      of : (b : Bool) → now < kept_moment (cond b (cond (nat_lt one.claim.announced 2) (one.claim.next ∷ []) []) (one.claim.due ∷ [])) → (not b && nat_lt one.claim.probes 3 && nat_le one.claim.due now) ≡ false
      of true h = refl
      of false h = and_false (nat_lt one.claim.probes 3) (nat_le one.claim.due now) (later_than now one.claim.due h)

  pub still_settle : is_settle_due now one.claim ≡ false
  still_settle = of one.claim.sure later
    where
      of : (b : Bool) → now < kept_moment (cond b (cond (nat_lt one.claim.announced 2) (one.claim.next ∷ []) []) (one.claim.due ∷ [])) → (not b && nat_le 3 one.claim.probes && nat_le one.claim.due now) ≡ false
      of true h = refl
      of false h = and_false (nat_le 3 one.claim.probes) (nat_le one.claim.due now) (later_than now one.claim.due h)

  still_claim : is_announce_due now one.claim ≡ false
  still_claim = of one.claim.sure (nat_lt one.claim.announced 2) later
    where
      of : (b c : Bool) → now < kept_moment (cond b (cond c (one.claim.next ∷ []) []) (one.claim.due ∷ [])) → (b && c && nat_le one.claim.next now) ≡ false
      of true true h = later_than now one.claim.next h
      of true false h = refl
      of false c h = refl

  still_ticked : ticked now one.claim ≡ one.claim
  still_ticked =
      ap (λ (b : Bool). cond b (probed_at now one.claim) (settled_if now one.claim)) still_probe
      ∙ ap (λ (b : Bool). cond b (settled_at now one.claim) one.claim) still_settle

  pub still_announce : is_announce_due now (ticked now one.claim) ≡ false
  still_announce = ap (is_announce_due now) still_ticked ∙ still_claim

  pub still_at : (announces : Bool) → ticked_at now announces one ≡ one
  still_at announces = λ i. record { group = one.group; number = one.number; claim = e i }
    where
      e : after_tick now announces one.claim ≡ one.claim
      e = ap (announced_if now announces) still_ticked ∙ ap (λ (b : Bool). cond b (announced_at now one.claim) one.claim) (and_false announces (is_announce_due now one.claim) still_claim)
