-- What an event makes of one group that is no tick.
use Rattle.std.proofs.Common.{◌≡◌, Bool, true, false, cond, refl, ap, sym, ◌∙◌, Option, Some, None}
use Rattle.mdns_probe.specs.Kept.{Kept}
use Rattle.mdns_claimants.specs.declared.renewal.Renewal.{Renewal}
use Rattle.mdns_renewals.specs.Occasions.{Occasion, ends, ends_by, is_touched, renewed}
use Rattle.mdns_renewals.specs.Occasions.{renewal_told}

pub ended_none : (at : Occasion) (one : Kept) → ends_by at.told at.marks one.group ≡ true → renewal_told at one ≡ None
ended_none at one e = ap (λ b. cond b None (cond (is_touched at one) (Some (record { number = (renewed at one).number; claim = (renewed at one).claim })) None)) e

pub still_none : (at : Occasion) (one : Kept) → is_touched at one ≡ false → renewal_told at one ≡ None
still_none at one e = ap (λ b. cond (ends at one.group) None (cond b (Some (record { number = (renewed at one).number; claim = (renewed at one).claim })) None)) e ∙ of (ends at one.group)
  where
    of : (b : Bool) → ◌≡◌ {A = Option Renewal} (cond b None None) None
    of true = refl
    of false = refl

pub touched_some : (at : Occasion) (one : Kept) (renewal : Renewal) → ends_by at.told at.marks one.group ≡ false → is_touched at one ≡ true → renewal.number ≡ (renewed at one).number → renewal.claim ≡ (renewed at one).claim →
    ◌≡◌ {A = Option Renewal} (Some renewal) (renewal_told at one)
touched_some at one renewal runs touched number claim =
    (λ i. Some (record { number = number i; claim = claim i }))
    ∙ sym (
    ap (λ b. cond b None (cond (is_touched at one) (Some (record { number = (renewed at one).number; claim = (renewed at one).claim })) None)) runs
    ∙ ap (λ b. cond b (Some (record { number = (renewed at one).number; claim = (renewed at one).claim })) None) touched)
