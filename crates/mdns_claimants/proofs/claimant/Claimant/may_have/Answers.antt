use Rattle.std.proofs.Common.{◌≡◌, ◌++◌, [], ℕ, subst}
use Rattle.std.specs.Prelude.{bit_and}
use Rattle.mdns_probe.specs.Kept.{Kept}
use Rattle.mdns_claimants.specs.Owned.{of_name}
use Rattle.mdns_claimants.proofs.Bits.{none_own, zero_of}
use Rattle.mdns_claimants.proofs.claimant.Claimant.may_have.Goals as goal

pub returns : goal.returns
returns c = λ e name is.
    subst (λ (one : Kept). of_name name (one.claim.unique ++ one.claim.shared) ≡ []) c.self.view_is
    (none_own c.self.inside.owners (c.self.inside.claim.unique ++ c.self.inside.claim.shared) name c.self.invariant.2
    (subst (λ (bit : ℕ). bit_and c.self.inside.owners bit ≡ 0) is (zero_of _ e)))
