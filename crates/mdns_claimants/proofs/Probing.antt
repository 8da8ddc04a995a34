-- The probes of groups, one by one.
use Rattle.std.proofs.Common.{◌≡◌, ℕ, Bool, true, false, cond, List, [], ◌∷◌, ◌++◌, map, refl, ap}
use Rattle.std.specs.Prelude.{filter}
use Rattle.mdns_history.specs.Sending.{to_all}
use Rattle.mdns_probe.specs.Claiming.{is_probe_due}
use Rattle.mdns_probe.specs.Kept.{Kept, probe_for, probes_for}
use Rattle.mdns_claimants.proofs.Passing.{IsOfDue}
use Rattle.mdns_claimants.proofs.Still.{still_probe}

pub probes_due : (now : ℕ) → IsOfDue (λ kept. probes_for kept now) now
probes_due now = record { none = refl; first = first; still = λ one later. ap (λ (b : Bool). map (λ k. to_all (probe_for k)) (cond b (one ∷ []) [])) (still_probe now one later) }
  where
    first : (one : Kept) (kept : List Kept) → probes_for (one ∷ kept) now ≡ probes_for (one ∷ []) now ++ probes_for kept now
    first one kept = of (is_probe_due now one.claim)
      where
        some : List Kept
        some = filter (λ k. is_probe_due now k.claim) kept

        of : (b : Bool) → map (λ (k : Kept). to_all (probe_for k)) (cond b (one ∷ some) some) ≡ map (λ (k : Kept). to_all (probe_for k)) (cond b (one ∷ []) []) ++ map (λ (k : Kept). to_all (probe_for k)) some
        of true = refl
        of false = refl
