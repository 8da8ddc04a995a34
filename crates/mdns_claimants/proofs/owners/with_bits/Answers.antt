use Rattle.std.proofs.Common.{◌∙◌, ◌++◌, List, ap, sym, append-nil}
use Rattle.std.proofs.lemmas.List.{take_all}
use Rattle.std.specs.Prelude.{bit_or}
use Rattle.dns_record.specs.declared.record.Rr.{Rr}
use Rattle.mdns_claimants.specs.Bits.{have_bits}
use Rattle.mdns_claimants.proofs.Bits.{bits_more}
use Rattle.mdns_claimants.proofs.owners.with_bits.Goals as goal

pub loop-rr-init : goal.loop-rr-init
loop-rr-init c = λ some h. ap (have_bits c.args.bits) (append-nil some) ∙ h

pub loop-rr-preserved : goal.loop-rr-preserved
loop-rr-preserved c = λ some h.
    bits_more c.loop-rr.all (bit_or c.loop-rr.all c.bit_of-all.result) some c.args.rrs.now c.loop-rr.rr-index c.rr-item.result c.loop-rr-test.true c.rr-item.is
    (c.loop-rr.invariant some h) (ap (bit_or c.loop-rr.all) c.bit_of-all.ensures)

pub returns : goal.returns
returns c = λ some h.
    ap (λ (l : List Rr). have_bits c.loop-rr.all (some ++ l)) (sym (take_all c.loop-rr.rr-index c.args.rrs.now c.loop-rr-test.false)) ∙ c.loop-rr.invariant some h
