use Rattle.std.proofs.Common.{◌≡◌, ℕ, true, nat_le, refl, ap, sym, subst, ◌∙◌}
use Rattle.dns_record.specs.declared.record.Rr.{Rr}
use Rattle.mdns_history.specs.Asking.{fits_alone, listed}
use Rattle.mdns_pack.proofs.Listings.{alone_alike}
use Rattle.mdns_known.proofs.listing.fits_listed.Goals as goal

pub returns-then-is_short : goal.returns-then-is_short
returns-then-is_short c =
    let fits : fits_alone c.args.one.now.rr ≡ true = subst (λ (rr : Rr). fits_alone rr ≡ true) c.deref.ensures (c.is_short.ensures c.if-is_short.true) in
    sym (ap (λ (n : ℕ). nat_le n 8972) (alone_alike (listed c.args.now c.args.one.now) c.args.one.now.rr refl) ∙ fits)
