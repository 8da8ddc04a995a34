-- What is seen of a group behind a tick: it may have become sure.
use Rattle.std.proofs.Common.{◌≡◌, ℕ, ◌<◌, ◌≤◌, Bool, true, false, cond, not, ◌&&◌, ◌||◌, nat_le, nat_lt, List, refl, sym, ◌∙◌, arith}
use Rattle.std.proofs.lemmas.Bool.{false≢true, leb-true}
use Rattle.dns_record.specs.declared.record.Rr.{Rr}
use Rattle.mdns_probe.specs.declared.claim.Claim.{Claim}
use Rattle.mdns_probe.specs.Claiming.{probed_at, settled_at, announced_at, announced_if, ticked, after_tick, is_probe_due, is_settle_due, is_announce_due}
use Rattle.mdns_probe.specs.Kept.{Kept}
use Rattle.mdns_claimants.specs.Due.{ticked_at}
use Rattle.mdns_claims.specs.Later.{shown_of}

both_true : (a b : Bool) → (a && b) ≡ true → (a ≡ true) × (b ≡ true)
both_true true true h = (refl, refl)
both_true false b h = absurd (cc)
both_true true false h = absurd (cc)

-- a claim that is to be probed isn't to be sure yet
not_both : (m : ℕ) (claim : Claim) → is_probe_due m claim ≡ true → is_settle_due m claim ≡ false
not_both m claim e = of (is_settle_due m claim) refl
  where
    of : (q : Bool) → is_settle_due m claim ≡ q → q ≡ false
    of false f = refl
    of true f =
        let one = both_true (not claim.sure && nat_lt claim.probes 3) (nat_le claim.due m) e in
        let two = both_true (not claim.sure && nat_le 3 claim.probes) (nat_le claim.due m) f in
        let few : claim.probes < 3 = leb-true _ 3 (both_true (not claim.sure) (nat_lt claim.probes 3) one.0).1 in
        let many : 3 ≤ claim.probes = leb-true 3 claim.probes (both_true (not claim.sure) (nat_le 3 claim.probes) two.0).1 in
        absurd (omega (arith, few, many))

module _ (m : ℕ) (announces : Bool) where
  announced_keeps : {X : Type 0} (f : Claim → X) → ((c : Claim) → f (announced_at m c) ≡ f c) → (c : Claim) → f (announced_if m announces c) ≡ f c
  announced_keeps f same c = of (announces && is_announce_due m c)
    where
      of : (b : Bool) → f (cond b (announced_at m c) c) ≡ f c
      of true = same c
      of false = refl

  ticked_keeps : {X : Type 0} (f : Claim → X) → ((c : Claim) → f (probed_at m c) ≡ f c) → ((c : Claim) → f (settled_at m c) ≡ f c) → (c : Claim) → f (ticked m c) ≡ f c
  ticked_keeps f probed settled c = of (is_probe_due m c) (is_settle_due m c)
    where
      of : (p q : Bool) → f (cond p (probed_at m c) (cond q (settled_at m c) c)) ≡ f c
      of true q = probed c
      of false true = settled c
      of false false = refl

  sure_after : (c : Claim) → (after_tick m announces c).sure ≡ (c.sure || is_settle_due m c)
  sure_after c = announced_keeps (λ c. c.sure) (λ c. refl) (ticked m c) ∙ of (is_probe_due m c) (is_settle_due m c) refl refl
    where
      or_false : (b : Bool) → b ≡ (b || false)
      or_false true = refl
      or_false false = refl

      or_true : (b : Bool) → true ≡ (b || true)
      or_true true = refl
      or_true false = refl

      of : (p q : Bool) → is_probe_due m c ≡ p → is_settle_due m c ≡ q → (cond p (probed_at m c) (cond q (settled_at m c) c)).sure ≡ (c.sure || q)
      of true true e f = absurd (false≢true (sym (not_both m c e) ∙ f))
      of true false e f = or_false c.sure
      of false true e f = or_true c.sure
      of false false e f = or_false c.sure

  records_after : (f : Claim → List Rr) → ((c : Claim) → f (announced_at m c) ≡ f c) → ((c : Claim) → f (probed_at m c) ≡ f c) → ((c : Claim) → f (settled_at m c) ≡ f c) → (c : Claim) →
      f (after_tick m announces c) ≡ f c
  records_after f announced probed settled c = announced_keeps f announced (ticked m c) ∙ ticked_keeps f probed settled c

  pub shown_ticked : (one : Kept) → shown_of (ticked_at m announces one)
      ≡ record { group = one.group; number = one.number; sure = one.claim.sure || is_settle_due m one.claim; unique = one.claim.unique; shared = one.claim.shared }
  shown_ticked one = λ i. record {
    group = one.group;
    number = one.number;
    sure = sure_after one.claim i;
    unique = records_after (λ c. c.unique) (λ c. refl) (λ c. refl) (λ c. refl) one.claim i;
    shared = records_after (λ c. c.shared) (λ c. refl) (λ c. refl) (λ c. refl) one.claim i;
  }
