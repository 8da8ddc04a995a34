use Rattle.std.proofs.Common.{◌∙◌, ◌++◌, [], refl, sym}
use Rattle.mdns_claimants.specs.Bits.{have_bits}
use Rattle.mdns_claimants.proofs.claimant.owners_of.Goals as goal

pub returns : goal.returns
unfolding have_bits
returns c =
    sym (λ i. have_bits c.with_bits.result (c.as_slice.ensures i ++ c.as_slice-2.ensures i))
    ∙ c.with_bits.ensures c.as_slice.result.now (c.with_bits-unique.ensures [] refl)
