-- When a tick makes no group sure, and that it then leaves the own records as they are.
use Rattle.std.proofs.Common.{◌≡◌, ℕ, ◌<◌, ◌≤◌, Bool, true, false, cond, not, ◌&&◌, ◌||◌, nat_le, nat_lt, List, [], ◌∷◌, ◌++◌, map, refl, ap, sym, ◌∙◌, arith}
use Rattle.std.specs.Prelude.{filter}
use Rattle.std.specs.List.{list_all, flat_map, AllByRecursion}
use Rattle.std.proofs.lemmas.Bool.{false≢true, leb-true}
use Rattle.dns_record.specs.declared.record.Rr.{Rr}
use Rattle.mdns_history.specs.declared.event.Event.TheVariants as event
use Rattle.mdns_history.specs.declared.entry.Entry.{Entry}
use Rattle.mdns_history.specs.Groups.{Group, groups}
use Rattle.mdns_history.specs.Sureness.{is_sure, sure_groups}
use Rattle.mdns_probe.specs.declared.claim.Claim.{Claim}
use Rattle.mdns_probe.specs.Claiming.{probed_at, settled_at, announced_at, announced_if, ticked, after_tick, is_probe_due, is_settle_due, is_announce_due}
use Rattle.mdns_probe.specs.Standing.{claim_in, claims_in, IsPaced}
use Rattle.mdns_probe.specs.Kept.{own_of}
use Rattle.mdns_probe.specs.Laws.{TicksSettleWhatIsDue, QuietTicksKeepOwn}
use Rattle.mdns_probe.proofs.Legal.{entry_after, Holds, holds_legal}
use Rattle.mdns_probe.proofs.Places.{each_place}
use Rattle.mdns_probe.proofs.Ticking.{calm_entry, same_groups, one_ticked, paced_legal, claims_follow_ticks}
use Rattle.mdns_probe.proofs.Settling.{both_true}
use Rattle.mdns_probe.proofs.Reading.{own_records_are}

-- a claim that is to be probed isn't to be sure yet
not_both : (m : ℕ) (claim : Claim) → is_probe_due m claim ≡ true → is_settle_due m claim ≡ false
not_both m claim e = of (is_settle_due m claim) refl
  where
    of : (q : Bool) → is_settle_due m claim ≡ q → q ≡ false
    of false f = refl
    of true f =
        let one = both_true (not claim.sure && nat_lt claim.probes 3) (nat_le claim.due m) e in
        let two = both_true (not claim.sure && nat_le 3 claim.probes) (nat_le claim.due m) f in
        let few : claim.probes < 3 = leb-true _ 3 (both_true (not claim.sure) (nat_lt claim.probes 3) one.0).1 in
        let many : 3 ≤ claim.probes = leb-true 3 claim.probes (both_true (not claim.sure) (nat_le 3 claim.probes) two.0).1 in
        absurd (omega (arith, few, many))

module _ (m : ℕ) (announces : Bool) where
  announced_keeps : {X : Type 0} (f : Claim → X) → ((c : Claim) → f (announced_at m c) ≡ f c) → (c : Claim) → f (announced_if m announces c) ≡ f c
  announced_keeps f same c = of (announces && is_announce_due m c)
    where
      of : (b : Bool) → f (cond b (announced_at m c) c) ≡ f c
      of true = same c
      of false = refl

  ticked_keeps : {X : Type 0} (f : Claim → X) → ((c : Claim) → f (probed_at m c) ≡ f c) → ((c : Claim) → f (settled_at m c) ≡ f c) → (c : Claim) → f (ticked m c) ≡ f c
  ticked_keeps f probed settled c = of (is_probe_due m c) (is_settle_due m c)
    where
      of : (p q : Bool) → f (cond p (probed_at m c) (cond q (settled_at m c) c)) ≡ f c
      of true q = probed c
      of false true = settled c
      of false false = refl

  sure_after : (c : Claim) → (after_tick m announces c).sure ≡ (c.sure || is_settle_due m c)
  sure_after c = announced_keeps (λ c. c.sure) (λ c. refl) (ticked m c) ∙ of (is_probe_due m c) (is_settle_due m c) refl refl
    where
      or_false : (b : Bool) → b ≡ (b || false)
      or_false true = refl
      or_false false = refl

      or_true : (b : Bool) → true ≡ (b || true)
      or_true true = refl
      or_true false = refl

      of : (p q : Bool) → is_probe_due m c ≡ p → is_settle_due m c ≡ q → (cond p (probed_at m c) (cond q (settled_at m c) c)).sure ≡ (c.sure || q)
      of true true e f = absurd (false≢true (sym (not_both m c e) ∙ f))
      of true false e f = or_false c.sure
      of false true e f = or_true c.sure
      of false false e f = or_false c.sure

  records_after : (c : Claim) → (after_tick m announces c).unique ++ (after_tick m announces c).shared ≡ c.unique ++ c.shared
  records_after c =
      announced_keeps {X = List Rr} (λ c. c.unique ++ c.shared) (λ c. refl) (ticked m c) ∙ ticked_keeps {X = List Rr} (λ c. c.unique ++ c.shared) (λ c. refl) (λ c. refl) c

  own_after : (cs : List Claim) → list_all (λ claim. not (is_settle_due m claim)) cs ≡ true → own_of (map (after_tick m announces) cs) ≡ own_of cs
  own_after [] h = refl
  own_after (c ∷ cs) h =
      let parts = both_true (not (is_settle_due m c)) (list_all (λ claim. not (is_settle_due m claim)) cs) h in
      ap (λ b. flat_map (λ claim. claim.unique ++ claim.shared) (cond b (after_tick m announces c ∷ filter (λ claim. claim.sure) (map (after_tick m announces) cs)) (filter (λ claim. claim.sure) (map (after_tick m announces) cs))))
      (sure_after c ∙ ap (λ b. c.sure || b) (opposite (is_settle_due m c) parts.0) ∙ or_false c.sure)
      ∙ of c.sure (own_after cs parts.1)
    where
      opposite : (b : Bool) → not b ≡ true → b ≡ false
      opposite true e = absurd (cc)
      opposite false e = refl

      or_false : (b : Bool) → (b || false) ≡ b
      or_false true = refl
      or_false false = refl

      of : (b : Bool) → own_of (map (after_tick m announces) cs) ≡ own_of cs →
          flat_map (λ claim. claim.unique ++ claim.shared) (cond b (after_tick m announces c ∷ filter (λ claim. claim.sure) (map (after_tick m announces) cs)) (filter (λ claim. claim.sure) (map (after_tick m announces) cs)))
          ≡ flat_map (λ claim. claim.unique ++ claim.shared) (cond b (c ∷ filter (λ claim. claim.sure) cs) (filter (λ claim. claim.sure) cs))
      of true ih = (λ i. records_after c i ++ ih i)
      of false ih = ih

pub quiet_ticks_keep : QuietTicksKeepOwn
quiet_ticks_keep duties past moment word claiming legal later quiet =
    own_records_are (entry_after duties past moment word event.Tick ∷ past)
    ∙ ap own_of (claims_follow_ticks duties past moment word claiming legal later)
    ∙ own_after moment duties.announcing (claims_in past) quiet
    ∙ sym (own_records_are past)

pub ticks_settle : TicksSettleWhatIsDue
unfolding sure_groups
ticks_settle duties past moment word claiming legal later =
    ap (λ (gs : List Group). list_all (λ group. is_sure group past) (filter (λ group. is_sure group (entry ∷ past)) gs)) (same_groups entry past (calm_entry duties claiming past moment word holds paced later))
    ∙ all_same (groups past) (each_place (λ group. claim_in (entry ∷ past) group ≡ after_tick moment duties.announcing (claim_in past group)) (groups past) (one_ticked duties claiming past moment word holds paced later))
  where
    holds : Holds past
    holds = holds_legal duties past legal

    paced : AllByRecursion (IsPaced past) (groups past)
    paced = paced_legal duties claiming past legal

    entry : Entry
    entry = entry_after duties past moment word event.Tick

    all_same : (gs : List Group) → AllByRecursion (λ group. claim_in (entry ∷ past) group ≡ after_tick moment duties.announcing (claim_in past group)) gs →
        list_all (λ group. is_sure group past) (filter (λ group. is_sure group (entry ∷ past)) gs) ≡ list_all (λ claim. not (is_settle_due moment claim)) (map (claim_in past) gs)
    all_same [] h = refl
    all_same (group ∷ gs) h =
        ap (λ b. list_all (λ one. is_sure one past) (cond b (group ∷ filter (λ one. is_sure one (entry ∷ past)) gs) (filter (λ one. is_sure one (entry ∷ past)) gs)))
        (ap (λ (claim : Claim). claim.sure) h.0 ∙ sure_after moment duties.announcing (claim_in past group))
        ∙ at (is_settle_due moment (claim_in past group))
        ∙ of (is_sure group past) (nat_le 3 (claim_in past group).probes) (nat_le (claim_in past group).due moment) (all_same gs h.1)
      where
        left : Bool
        left = list_all (λ one. is_sure one past) (filter (λ one. is_sure one (entry ∷ past)) gs)

        right : Bool
        right = list_all (λ claim. not (is_settle_due moment claim)) (map (claim_in past) gs)

        at : (q : Bool) → list_all (λ one. is_sure one past) (cond (is_sure group past || q) (group ∷ filter (λ one. is_sure one (entry ∷ past)) gs) (filter (λ one. is_sure one (entry ∷ past)) gs))
            ≡ cond (is_sure group past || q) (is_sure group past && left) left
        at q = cases (is_sure group past || q)
          where
            cases : (b : Bool) → list_all (λ one. is_sure one past) (cond b (group ∷ filter (λ one. is_sure one (entry ∷ past)) gs) (filter (λ one. is_sure one (entry ∷ past)) gs)) ≡ cond b (is_sure group past && left) left
            cases true = refl
            cases false = refl

        of : (b x y : Bool) → left ≡ right → cond (b || ((not b && x) && y)) (b && left) left ≡ (not ((not b && x) && y) && right)
        of true x y e = e
        of false true true e = refl
        of false true false e = e
        of false false y e = e
