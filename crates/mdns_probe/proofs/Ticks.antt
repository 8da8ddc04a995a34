-- Nothing is due of a claim behind its tick.
use Rattle.std.proofs.Common.{◌≡◌, ℕ, ◌+◌, ◌≤◌, Bool, true, false, cond, not, ◌&&◌, Some, None, refl, ap, arith}
use Rattle.std.specs.Prelude.{is_some, nat_le, nat_lt}
use Rattle.std.proofs.lemmas.Bool.{leb-true}
use Rattle.mdns_probe.specs.declared.claim.Claim.{Claim}
use Rattle.mdns_probe.specs.declared.due.Due.{Due}
use Rattle.mdns_probe.specs.declared.due.Due.TheVariants.{Probe, Settle, Announce}
use Rattle.mdns_probe.specs.Claiming.{probed_at, settled_at, announced_at, after_tick, due_of}
use Rattle.mdns_probe.specs.Laws.{TicksLeaveNothingDue}

past_250 : (m : ℕ) → nat_le (m + 250) m ≡ false
past_250 m = of (nat_le (m + 250) m) refl
  where
    of : (b : Bool) → nat_le (m + 250) m ≡ b → b ≡ false
    of true e = let no : m + 250 ≤ m = leb-true (m + 250) m e in absurd (omega (arith, no))
    of false e = refl

past_1000 : (m : ℕ) → nat_le (m + 1000) m ≡ false
past_1000 m = of (nat_le (m + 1000) m) refl
  where
    of : (b : Bool) → nat_le (m + 1000) m ≡ b → b ≡ false
    of true e = let no : m + 1000 ≤ m = leb-true (m + 1000) m e in absurd (omega (arith, no))
    of false e = refl

third : (a b c : Bool) → c ≡ false → (a && b && c) ≡ false
third true true c e = e
third true false c e = refl
third false b c e = refl

fourth : (a b c d : Bool) → d ≡ false → (a && (b && c && d)) ≡ false
fourth true b c d e = third b c d e
fourth false b c d e = refl

surely : (a s x y : Bool) → (a && (s && x && y)) ≡ true → s ≡ true
surely true true x y e = refl
surely true false x y e = absurd (cc)
surely false s x y e = absurd (cc)

none_of : (p q r : Bool) (x y z : Due) → p ≡ false → q ≡ false → r ≡ false → is_some {T = Due} (cond p (Some x) (cond q (Some y) (cond r (Some z) None))) ≡ false
none_of p q r x y z e f g = λ i. is_some {T = Due} (cond (e i) (Some x) (cond (f i) (Some y) (cond (g i) (Some z) None)))

module _ (announces : Bool) (moment : ℕ) where
  abbrev few_left : Claim → Bool
  few_left c = not c.sure && nat_lt c.probes 3 && nat_le c.due moment

  abbrev settles : Claim → Bool
  settles c = not c.sure && nat_le 3 c.probes && nat_le c.due moment

  abbrev announced_when : Claim → Bool
  announced_when c = announces && (c.sure && nat_lt c.announced 2 && nat_le c.next moment)

  none_due : (c : Claim) → few_left c ≡ false → settles c ≡ false → announced_when c ≡ false → is_some (due_of announces moment c) ≡ false
  none_due c e f g = none_of (few_left c) (settles c) (announced_when c) (Probe c.group) (Settle c.group) (Announce c.group) e f g

  abbrev announced : Claim → Claim
  announced c = cond (announced_when c) (announced_at moment c) c

  abbrev done : Claim → Type 0
  done c = is_some (due_of announces moment c) ≡ false

  -- a sure claim, announced where that is due
  sure_done : (c : Claim) → few_left c ≡ false → settles c ≡ false → (r : Bool) → announced_when c ≡ r → done (cond r (announced_at moment c) c)
  sure_done c e f true g =
      let sure : c.sure ≡ true = surely announces c.sure (nat_lt c.announced 2) (nat_le c.next moment) g in
      none_due (announced_at moment c) (ap (λ b. not b && nat_lt c.probes 3 && nat_le c.due moment) sure) (ap (λ b. not b && nat_le 3 c.probes && nat_le c.due moment) sure)
      (fourth announces c.sure (nat_lt (c.announced + 1) 2) (nat_le (moment + 1000) moment) (past_1000 moment))
  sure_done c e f false g = none_due c e f g

  pub ticked_done : (claim : Claim) → is_some (due_of announces moment (after_tick moment announces claim)) ≡ false
  ticked_done claim = of (few_left claim) (settles claim) refl refl
    where
      of : (p q : Bool) → few_left claim ≡ p → settles claim ≡ q → done (announced (cond p (probed_at moment claim) (cond q (settled_at moment claim) claim)))
      of true q e f =
          let c : Claim = probed_at moment claim in
          sure_done c (third (not claim.sure) (nat_lt (claim.probes + 1) 3) (nat_le (moment + 250) moment) (past_250 moment)) (third (not claim.sure) (nat_le 3 (claim.probes + 1)) (nat_le (moment + 250) moment) (past_250 moment))
          (announced_when c) refl
      of false true e f = sure_done (settled_at moment claim) refl refl (announced_when (settled_at moment claim)) refl
      of false false e f = sure_done claim e f (announced_when claim) refl

pub ticks_leave_nothing_due : TicksLeaveNothingDue
ticks_leave_nothing_due = ticked_done
