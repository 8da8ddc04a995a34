-- Something is due of a claim exactly from the moments on that it waits for, and a tick leaves the rest.
use Rattle.std.proofs.Common.{◌≡◌, ℕ, ◌≤◌, ◌<◌, Bool, true, false, cond, not, ◌&&◌, ◌||◌, [], ◌∷◌, Some, None, refl, ap, ◌∙◌, sym, arith}
use Rattle.std.specs.Prelude.{is_some, nat_le, nat_lt}
use Rattle.std.specs.List.{list_any}
use Rattle.std.proofs.lemmas.Bool.{leb-true, leb-false}
use Rattle.mdns_probe.specs.declared.claim.Claim.{Claim}
use Rattle.mdns_probe.specs.declared.due.Due.{Due}
use Rattle.mdns_probe.specs.declared.due.Due.TheVariants.{Probe, Settle, Announce}
use Rattle.mdns_probe.specs.Claiming.{probed_at, settled_at, announced_at, after_tick, due_of}
use Rattle.mdns_probe.specs.Laws.{DuesAreAwaited, TicksLeaveTheRest}

many : (n : ℕ) → nat_le 3 n ≡ not (nat_lt n 3)
many n = of (nat_lt n 3) (nat_le 3 n) refl refl
  where
    of : (b c : Bool) → nat_lt n 3 ≡ b → nat_le 3 n ≡ c → c ≡ not b
    of true true e f = let below : n < 3 = leb-true _ 3 e in let above : 3 ≤ n = leb-true 3 n f in absurd (omega (arith, below, above))
    of true false e f = refl
    of false true e f = refl
    of false false e f = let above : 3 ≤ n = omega (arith, leb-false _ 3 e) in let below : n < 3 = omega (arith, leb-false 3 n f) in absurd (omega (arith, below, above))

-- what is due, by what is asked: whether the claim is sure, has few probes, is at its moment; whether announcements are made, few were, and their moment is there
some_due : (sure few at_due announces again at_next : Bool) {X : Type 0} (probe settle announce : X) (test : ℕ → Bool) (due next : ℕ) → test due ≡ at_due → test next ≡ at_next →
    is_some (cond (not sure && few && at_due) (Some probe) (cond (not sure && not few && at_due) (Some settle) (cond (announces && (sure && again && at_next)) (Some announce) None)))
    ≡ list_any test (cond sure (cond (announces && again) (next ∷ []) []) (due ∷ []))
some_due true few d true true true p s a test due next e f = sym (ap (λ b. b || false) f)
some_due true few d true true false p s a test due next e f = sym (ap (λ b. b || false) f)
some_due true few d true false n p s a test due next e f = refl
some_due true few d false again n p s a test due next e f = refl
some_due false true true true again n p s a test due next e f = sym (ap (λ b. b || false) e)
some_due false true true false again n p s a test due next e f = sym (ap (λ b. b || false) e)
some_due false true false true again n p s a test due next e f = sym (ap (λ b. b || false) e)
some_due false true false false again n p s a test due next e f = sym (ap (λ b. b || false) e)
some_due false false true true again n p s a test due next e f = sym (ap (λ b. b || false) e)
some_due false false true false again n p s a test due next e f = sym (ap (λ b. b || false) e)
some_due false false false true again n p s a test due next e f = sym (ap (λ b. b || false) e)
some_due false false false false again n p s a test due next e f = sym (ap (λ b. b || false) e)

pub dues_are_awaited : DuesAreAwaited
dues_are_awaited announces moment claim =
    ap (λ q. is_some {T = Due} (cond (not claim.sure && nat_lt claim.probes 3 && nat_le claim.due moment) (Some (Probe claim.group)) (cond (not claim.sure && q && nat_le claim.due moment) (Some (Settle claim.group))
    (cond (announces && (claim.sure && nat_lt claim.announced 2 && nat_le claim.next moment)) (Some (Announce claim.group)) None)))) (many claim.probes)
    ∙ some_due claim.sure (nat_lt claim.probes 3) (nat_le claim.due moment) announces (nat_lt claim.announced 2) (nat_le claim.next moment) {X = Due} (Probe claim.group) (Settle claim.group) (Announce claim.group)
    (λ next. nat_le next moment) claim.due claim.next refl refl

pub ticks_leave_the_rest : TicksLeaveTheRest
ticks_leave_the_rest announces moment claim none =
    of (not claim.sure && nat_lt claim.probes 3 && nat_le claim.due moment) (not claim.sure && nat_le 3 claim.probes && nat_le claim.due moment) refl refl none
  where
    announced_when : Claim → Bool
    announced_when c = announces && (c.sure && nat_lt c.announced 2 && nat_le c.next moment)

    due_when : Bool → Bool → Bool → Bool
    due_when p q r = is_some {T = ℕ} (cond p (Some 0) (cond q (Some 0) (cond r (Some 0) None)))

    tick_when : Bool → Bool → Claim
    tick_when p q = let c = cond p (probed_at moment claim) (cond q (settled_at moment claim) claim) in cond (announced_when c) (announced_at moment c) c

    no_due : is_some (due_of announces moment claim) ≡ due_when (not claim.sure && nat_lt claim.probes 3 && nat_le claim.due moment) (not claim.sure && nat_le 3 claim.probes && nat_le claim.due moment) (announced_when claim)
    no_due = same (not claim.sure && nat_lt claim.probes 3 && nat_le claim.due moment) (not claim.sure && nat_le 3 claim.probes && nat_le claim.due moment) (announced_when claim) (Probe claim.group) (Settle claim.group) (Announce claim.group)
      where
        same : (p q r : Bool) (x y z : Due) → is_some (cond p (Some x) (cond q (Some y) (cond r (Some z) None))) ≡ due_when p q r
        same true q r x y z = refl
        same false true r x y z = refl
        same false false true x y z = refl
        same false false false x y z = refl

    of : (p q : Bool) → (not claim.sure && nat_lt claim.probes 3 && nat_le claim.due moment) ≡ p → (not claim.sure && nat_le 3 claim.probes && nat_le claim.due moment) ≡ q
        → is_some (due_of announces moment claim) ≡ false → after_tick moment announces claim ≡ claim
    of true q e f h = absurd (cc (sym no_due ∙ h, e))
    of false true e f h = absurd (cc (sym no_due ∙ h, e, f))
    of false false e f h = (λ i. tick_when (e i) (f i)) ∙ last (announced_when claim) refl ((λ i. due_when (sym e i) (sym f i) (announced_when claim)) ∙ sym no_due ∙ h)
      where
        last : (r : Bool) → announced_when claim ≡ r → due_when false false (announced_when claim) ≡ false → cond (announced_when claim) (announced_at moment claim) claim ≡ claim
        last true g k = absurd (cc (g, k))
        last false g k = ap (λ b. cond b (announced_at moment claim) claim) g
