-- What a tick announces, which groups it marks, and which own records it sees.
use Rattle.std.proofs.Common.{◌≡◌, ℕ, ◌<◌, ◌≤◌, Bool, true, false, cond, not, ◌&&◌, ◌||◌, nat_le, nat_lt, List, [], ◌∷◌, ◌++◌, map, length, refl, ap, sym, ◌∙◌, arith}
use Rattle.std.specs.Prelude.{filter}
use Rattle.std.specs.List.{flat_map}
use Rattle.std.proofs.lemmas.Bool.{leb-true}
use Rattle.mdns_history.specs.declared.event.Event.TheVariants as event
use Rattle.mdns_history.specs.declared.entry.Entry.{Entry}
use Rattle.mdns_history.specs.Groups.{Group, groups, group_records}
use Rattle.mdns_history.specs.Sureness.{is_sure, sure_groups, own_records}
use Rattle.mdns_history.specs.Announcing.{announcement_moments, claim_moment, next_announcement, is_announced_at, announced_groups}
use Rattle.mdns_history.specs.Sending.{is_free}
use Rattle.mdns_history.specs.Fitting.{bare_entry}
use Rattle.mdns_probe.specs.declared.claim.Claim.{Claim}
use Rattle.mdns_probe.specs.Claiming.{probed_at, settled_at, settled_if, ticked, after_tick, is_probe_due, is_settle_due, is_announce_due}
use Rattle.mdns_probe.specs.Standing.{claim_in}
use Rattle.mdns_probe.specs.Kept.{kept_in, announced_for}
use Rattle.mdns_probe.proofs.Settling.{both_true}
use Rattle.mdns_probe.proofs.Ticking.{announcements_follow}
use Rattle.mdns_claims.specs.Behind.{ticked_at}
use Rattle.mdns_claims.specs.Later.{Shown}
use Rattle.mdns_claims.proofs.Ticked.{shown_ticked}
use Rattle.mdns_responding.specs.AnnouncedLaws.{AnnouncedRecordsAreKept, AnnouncedMarksAreKept, TicksTellOwn}
use Rattle.mdns_responding.proofs.Each.{each_in, filter_twice, all_of}
use Rattle.mdns_responding.proofs.Tick.{tick_groups, tick_records, tick_claim}

-- what is due to be announced of a claim, where a probe that was due counts or not
same_due : (m : ℕ) (claim : Claim) → is_announce_due m (settled_if m claim) ≡ is_announce_due m (ticked m claim)
same_due m claim = of (is_probe_due m claim) (is_settle_due m claim) refl refl
  where
    of : (p q : Bool) → is_probe_due m claim ≡ p → is_settle_due m claim ≡ q →
        is_announce_due m (cond q (settled_at m claim) claim) ≡ is_announce_due m (cond p (probed_at m claim) (cond q (settled_at m claim) claim))
    of false q e f = refl
    of true false e f = refl
    of true true e f =
        let one = both_true (not claim.sure && nat_lt claim.probes 3) (nat_le claim.due m) e in
        let two = both_true (not claim.sure && nat_le 3 claim.probes) (nat_le claim.due m) f in
        let few : claim.probes < 3 = leb-true _ 3 (both_true (not claim.sure) (nat_lt claim.probes 3) one.0).1 in
        let many : 3 ≤ claim.probes = leb-true 3 claim.probes (both_true (not claim.sure) (nat_le 3 claim.probes) two.0).1 in
        absurd (omega (arith, few, many))

sure_due : (history : List Entry) (moment : ℕ) (group : Group) → (is_sure group history && is_announced_at history moment group) ≡ is_announce_due moment (claim_in history group)
sure_due history moment group = of (is_sure group history)
  where
    of : (b : Bool) → (b && (nat_lt (length (announcement_moments group history)) 2 && nat_le (next_announcement (claim_moment group history) (announcement_moments group history)) moment))
        ≡ (b && nat_lt (cond b (length (announcement_moments group history)) 0) 2 && nat_le (cond b (next_announcement (claim_moment group history) (announcement_moments group history)) 0) moment)
    of true = refl
    of false = refl

-- The records that are announced are those of the groups that are due.
pub announced_records_are : AnnouncedRecordsAreKept
unfolding announced_groups sure_groups
announced_records_are duties past moment word claiming legal later =
    ap (filter (is_free past moment))
    (ap (flat_map (λ group. group_records group (tick ∷ past)))
    (filter_twice (is_announced_at (tick ∷ past) moment) (λ one. is_sure one (tick ∷ past)) (groups (tick ∷ past)) ∙ ap (filter now_announced) (tick_groups past moment word))
    ∙ all_of (kept_in past) now_announced (λ one. is_announce_due moment (ticked moment one.claim)) (λ group. group_records group (tick ∷ past)) (λ one. one.claim.unique ++ one.claim.shared) (groups past)
    (tick_records past moment word)
    (each_in (λ group. now_announced group ≡ is_announce_due moment (ticked moment (claim_in past group))) (groups past)
    (λ group m. sure_due (tick ∷ past) moment group ∙ ap (is_announce_due moment) (tick_claim past moment word duties claiming legal later group m) ∙ same_due moment (claim_in past group))))
  where
    tick : Entry
    tick = bare_entry moment word event.Tick past

    now_announced : Group → Bool
    now_announced group = is_sure group (tick ∷ past) && is_announced_at (tick ∷ past) moment group

claims_kept : (past : List Entry) (gs : List Group) → map (claim_in past) gs ≡ map (λ one. one.claim) (map (kept_in past) gs)
claims_kept past [] = refl
claims_kept past (group ∷ gs) = ap (λ l. claim_in past group ∷ l) (claims_kept past gs)

-- The marks are those of the same groups.
pub announced_marks_are : AnnouncedMarksAreKept
announced_marks_are duties past moment word claiming legal later =
    announcements_follow duties past moment word claiming legal later ∙ ap (λ (claims : List Claim). announced_for claims moment) (claims_kept past (groups past))

-- The own records are those of the groups that are sure behind the tick.
pub ticks_tell_own : TicksTellOwn
unfolding own_records sure_groups
ticks_tell_own duties past moment word announces claiming legal later =
    ap (λ (gs : List Group). flat_map (λ group. group_records group (tick ∷ past)) (filter (λ group. is_sure group (tick ∷ past)) gs)) (tick_groups past moment word)
    ∙ all_of after (λ group. is_sure group (tick ∷ past)) (λ claim. claim.sure) (λ group. group_records group (tick ∷ past)) (λ claim. claim.unique ++ claim.shared) (groups past)
    (λ group. tick_records past moment word group ∙ (λ i. (sym (shown group) i).unique ++ (sym (shown group) i).shared))
    (each_in (λ group. is_sure group (tick ∷ past) ≡ (after group).sure) (groups past)
    (λ group m. ap (λ (claim : Claim). claim.sure) (tick_claim past moment word duties claiming legal later group m) ∙ settled (claim_in past group) ∙ ap (λ (s : Shown). s.sure) (sym (shown group))))
    ∙ ap (λ (claims : List Claim). flat_map (λ claim. claim.unique ++ claim.shared) (filter (λ claim. claim.sure) claims)) (all_after (groups past))
  where
    tick : Entry
    tick = bare_entry moment word event.Tick past

    after : Group → Claim
    after group = after_tick moment announces (claim_in past group)

    all_after : (gs : List Group) → map after gs ≡ map (λ one. one.claim) (map (ticked_at moment announces) (map (kept_in past) gs))
    all_after [] = refl
    all_after (group ∷ gs) = ap (λ l. after group ∷ l) (all_after gs)

    settled : (claim : Claim) → (settled_if moment claim).sure ≡ (claim.sure || is_settle_due moment claim)
    settled claim = of (is_settle_due moment claim) claim.sure refl
      where
        of : (q b : Bool) → claim.sure ≡ b → (cond q (settled_at moment claim) claim).sure ≡ (claim.sure || q)
        of true true e = sym (ap (λ b. b || true) e)
        of true false e = sym (ap (λ b. b || true) e)
        of false true e = e ∙ sym (ap (λ b. b || false) e)
        of false false e = e ∙ sym (ap (λ b. b || false) e)

    shown : (group : Group) → ◌≡◌ {A = Shown} (record { group = group; number = (kept_in past group).number; sure = (after group).sure; unique = (after group).unique; shared = (after group).shared })
        (record { group = group; number = (kept_in past group).number; sure = (claim_in past group).sure || is_settle_due moment (claim_in past group); unique = (claim_in past group).unique; shared = (claim_in past group).shared })
    shown group = shown_ticked moment announces (kept_in past group)
