-- A group's claim follows the history, entry by entry.
use Rattle.std.proofs.Common.{◌≡◌, ℕ, ◌+◌, ◌<◌, ◌≤◌, Bool, true, false, cond, not, ◌&&◌, ◌||◌, List, [], ◌∷◌, ◌++◌, length, nat_le, nat_lt, refl, ap, sym, subst, append_assoc, ◌∙◌, arith, Some, None}
use Rattle.std.specs.List.{list_any, list_all, cons_option}
use Rattle.std.specs.Option.{option_or, unwrap_or}
use Rattle.std.proofs.lemmas.Bool.{le-leb, leb-true}
use Rattle.dns_record.specs.declared.record.Rr.{Rr}
use Rattle.dns_record.specs.Records.{same}
use Rattle.mdns_history.specs.declared.entry.Entry.{Entry}
use Rattle.mdns_history.specs.History.{now, has_mark, moment_if, is_tick, last_at, since}
use Rattle.mdns_history.specs.Groups.{Group, is_group, group_name, unique_records, shared_records, group_records}
use Rattle.mdns_history.specs.Sureness.{sets_back, probes, probe_moments, tick_moments, are_settled, is_sure}
use Rattle.mdns_history.specs.Probing.{first_wait, first_probe, first_due, next_probe, probe_due}
use Rattle.mdns_history.specs.Announcing.{same_records, renews_claim, claim_moment, announcement_moments, next_announcement, is_announcement_of}
use Rattle.mdns_probe.specs.declared.claim.Claim.{Claim}
use Rattle.mdns_probe.specs.Claiming.{begun, probed_at, settled_at, announced_at, announced_if, replaced, ticked, after_tick, is_probe_due, is_settle_due, is_announce_due}
use Rattle.mdns_probe.specs.Standing.{claim_in, IsPaced, are_spaced}
use Rattle.mdns_probe.proofs.Settling.{both_true, and_false, all_up_to, settled_by_tick, unsettled_by_probe, spaced_more}
use Rattle.mdns_probe.proofs.Sames.{same_itself}

module _ (group : Group) (entry : Entry) (past : List Entry) where
  -- the moments of a group behind an entry

  pub probes_step : (b c : Bool) → group_name group (entry ∷ past) ≡ group_name group past → sets_back group.id entry past ≡ b → probes (group_name group past) entry ≡ c →
      probe_moments group (entry ∷ past) ≡ cond b [] (cons_option (moment_if c entry.moment) (probe_moments group past))
  unfolding probe_moments
  probes_step b c same e f =
      ap (λ (name : List (List ℕ)). cond (sets_back group.id entry past) [] (cons_option (moment_if (probes name entry) entry.moment) (since (sets_back group.id) (λ x. moment_if (probes name x) x.moment) past))) same
      ∙ ap (λ x. cond x [] (cons_option (moment_if (probes (group_name group past) entry) entry.moment) (probe_moments group past))) e
      ∙ ap (λ x. cond b [] (cons_option (moment_if x entry.moment) (probe_moments group past))) f

  pub none_since : sets_back group.id entry past ≡ true → probe_moments group (entry ∷ past) ≡ []
  unfolding probe_moments
  none_since e =
      ap (λ x. cond x [] (cons_option (moment_if (probes (group_name group (entry ∷ past)) entry) entry.moment) (since (sets_back group.id) (λ x. moment_if (probes (group_name group (entry ∷ past)) x) x.moment) past))) e

  pub ticks_step : (b c : Bool) → sets_back group.id entry past ≡ b → is_tick entry.event ≡ c → tick_moments group (entry ∷ past) ≡ cond b [] (cons_option (moment_if c entry.moment) (tick_moments group past))
  unfolding tick_moments
  ticks_step b c e f =
      ap (λ x. cond x [] (cons_option (moment_if (is_tick entry.event) entry.moment) (tick_moments group past))) e
      ∙ ap (λ x. cond b [] (cons_option (moment_if x entry.moment) (tick_moments group past))) f

  first_step : (b : Bool) → sets_back group.id entry past ≡ b → first_due group (entry ∷ past) ≡ cond b (entry.moment + first_wait group.id entry past) (first_due group past)
  first_step b e = ap (λ x. unwrap_or (option_or (cond x (Some (entry.moment + first_wait group.id entry past)) None) (last_at (first_probe group.id) past)) 0) e ∙ of b
    where
      of : (c : Bool) → unwrap_or (option_or (cond c (Some (entry.moment + first_wait group.id entry past)) None) (last_at (first_probe group.id) past)) 0
          ≡ cond c (entry.moment + first_wait group.id entry past) (unwrap_or (last_at (first_probe group.id) past) 0)
      of true = refl
      of false = refl

  pub due_is : (history : List Entry) (first : ℕ) (moments : List ℕ) → first_due group history ≡ first → probe_moments group history ≡ moments → probe_due group history ≡ next_probe first moments
  unfolding probe_due
  due_is history first moments e f = (λ i. next_probe (e i) (f i))

  sure_is : (history : List Entry) (live : Bool) (moments ticks : List ℕ) → is_group group.id history ≡ live → probe_moments group history ≡ moments → tick_moments group history ≡ ticks →
      is_sure group history ≡ (live && are_settled moments ticks)
  unfolding is_sure
  sure_is history live moments ticks e f g = (λ i. e i && are_settled (f i) (g i))

  -- A group that is registered or set back in an entry waits for its first probe.
  pub set_back_follows : sets_back group.id entry past ≡ true →
      claim_in (entry ∷ past) group ≡ begun entry.moment (first_wait group.id entry past) group.id (unique_records group (entry ∷ past)) (shared_records group (entry ∷ past))
  set_back_follows back =
      let none : probe_moments group (entry ∷ past) ≡ [] = none_since back in
      let unsure : is_sure group (entry ∷ past) ≡ false =
      sure_is (entry ∷ past) _ [] _ refl none refl ∙ and_false (is_group group.id (entry ∷ past)) in
      let due : probe_due group (entry ∷ past) ≡ entry.moment + first_wait group.id entry past = due_is (entry ∷ past) _ [] (first_step true back) none in
      λ i. record {
        group = group.id;
        unique = unique_records group (entry ∷ past);
        shared = shared_records group (entry ∷ past);
        probes = length (none i);
        due = due i;
        sure = unsure i;
        announced = cond (unsure i) (length (announcement_moments group (entry ∷ past))) 0;
        next = cond (unsure i) (next_announcement (claim_moment group (entry ∷ past)) (announcement_moments group (entry ∷ past))) 0;
      }

  -- the moments of announcements behind an entry

  announced_step : (b c : Bool) → renews_claim group entry past ≡ b → has_mark (is_announcement_of group.id) entry ≡ c →
      announcement_moments group (entry ∷ past) ≡ cons_option (moment_if c entry.moment) (cond b [] (announcement_moments group past))
  unfolding announcement_moments
  announced_step b c e f =
      ap (λ x. cons_option (moment_if (has_mark (is_announcement_of group.id) entry) entry.moment) (cond x [] (announcement_moments group past))) e
      ∙ ap (λ x. cons_option (moment_if x entry.moment) (cond b [] (announcement_moments group past))) f

  claimed_step : (b : Bool) → renews_claim group entry past ≡ b → claim_moment group (entry ∷ past) ≡ cond b entry.moment (claim_moment group past)
  unfolding claim_moment
  claimed_step b e = ap (λ x. unwrap_or (option_or (moment_if x entry.moment) (last_at (λ one before. moment_if (renews_claim group one before) one.moment) past)) 0) e ∙ of b
    where
      of : (c : Bool) → unwrap_or (option_or (moment_if c entry.moment) (last_at (λ one before. moment_if (renews_claim group one before) one.moment) past)) 0
          ≡ cond c entry.moment (unwrap_or (last_at (λ one before. moment_if (renews_claim group one before) one.moment) past) 0)
      of true = refl
      of false = refl

  renews_is : (s r n : Bool) → is_sure group (entry ∷ past) ≡ s → is_sure group past ≡ r → same_records (group_records group (entry ∷ past)) (group_records group past) ≡ n →
      renews_claim group entry past ≡ (s && (not r || not n))
  renews_is s r n e f g = (λ i. e i && (not (f i) || not (g i)))

  -- the number of announcements and the moment of the next one, of a group that is sure behind the entry

  announced_is : (b c : Bool) → renews_claim group entry past ≡ b → has_mark (is_announcement_of group.id) entry ≡ c →
      length (announcement_moments group (entry ∷ past)) ≡ cond c (cond b 0 (length (announcement_moments group past)) + 1) (cond b 0 (length (announcement_moments group past)))
  announced_is b c e f = ap length (announced_step b c e f) ∙ of b c
    where
      of : (x y : Bool) → length (cons_option (moment_if y entry.moment) (cond x [] (announcement_moments group past)))
          ≡ cond y (cond x 0 (length (announcement_moments group past)) + 1) (cond x 0 (length (announcement_moments group past)))
      of true true = refl
      of true false = refl
      of false true = omega arith
      of false false = refl

  next_is : (b c : Bool) → renews_claim group entry past ≡ b → has_mark (is_announcement_of group.id) entry ≡ c →
      next_announcement (claim_moment group (entry ∷ past)) (announcement_moments group (entry ∷ past))
      ≡ cond c (entry.moment + 1000) (cond b entry.moment (next_announcement (claim_moment group past) (announcement_moments group past)))
  next_is b c e f = (λ i. next_announcement (claimed_step b e i) (announced_step b c e f i)) ∙ of b c
    where
      of : (x y : Bool) → next_announcement (cond x entry.moment (claim_moment group past)) (cons_option (moment_if y entry.moment) (cond x [] (announcement_moments group past)))
          ≡ cond y (entry.moment + 1000) (cond x entry.moment (next_announcement (claim_moment group past) (announcement_moments group past)))
      of true true = refl
      of true false = refl
      of false true = refl
      of false false = refl

  -- what a claim is behind an entry that doesn't set it back: of its parts
  abbrev moved : List Rr → List Rr → ℕ → ℕ → Bool → Bool → Bool → Claim
  moved unique shared count due sure renewed announced =
      record {
        group = group.id;
        unique = unique;
        shared = shared;
        probes = count;
        due = due;
        sure = sure;
        announced = cond sure (cond announced (cond renewed 0 (length (announcement_moments group past)) + 1) (cond renewed 0 (length (announcement_moments group past)))) 0;
        next = cond sure (cond announced (entry.moment + 1000) (cond renewed entry.moment (next_announcement (claim_moment group past) (announcement_moments group past)))) 0;
      }

  moved_is : (unique shared : List Rr) (count due : ℕ) (sure renewed announced : Bool) → unique_records group (entry ∷ past) ≡ unique → shared_records group (entry ∷ past) ≡ shared →
      length (probe_moments group (entry ∷ past)) ≡ count → probe_due group (entry ∷ past) ≡ due → is_sure group (entry ∷ past) ≡ sure → renews_claim group entry past ≡ renewed →
      has_mark (is_announcement_of group.id) entry ≡ announced → claim_in (entry ∷ past) group ≡ moved unique shared count due sure renewed announced
  moved_is unique shared count due sure renewed announced u s p d e r a =
      λ i. record {
        group = group.id;
        unique = u i;
        shared = s i;
        probes = p i;
        due = d i;
        sure = e i;
        announced = cond (e i) (announced_is renewed announced r a i) 0;
        next = cond (e i) (next_is renewed announced r a i) 0;
      }

  -- a claim of a history, where it is sure or isn't
  abbrev kept : Bool → Claim
  kept sure =
      record {
        group = group.id;
        unique = unique_records group past;
        shared = shared_records group past;
        probes = length (probe_moments group past);
        due = probe_due group past;
        sure = sure;
        announced = cond sure (length (announcement_moments group past)) 0;
        next = cond sure (next_announcement (claim_moment group past) (announcement_moments group past)) 0;
      }

  kept_is : (sure : Bool) → is_sure group past ≡ sure → claim_in past group ≡ kept sure
  kept_is sure e =
      λ i. record {
        group = group.id;
        unique = unique_records group past;
        shared = shared_records group past;
        probes = length (probe_moments group past);
        due = probe_due group past;
        sure = e i;
        announced = cond (e i) (length (announcement_moments group past)) 0;
        next = cond (e i) (next_announcement (claim_moment group past) (announcement_moments group past)) 0;
      }

  module _ (live : is_group group.id past ≡ true) (living : is_group group.id (entry ∷ past) ≡ true) (named : group_name group (entry ∷ past) ≡ group_name group past) (goes : sets_back group.id entry past ≡ false)
      (later : now past ≤ entry.moment) (paced : IsPaced past group) where
    records_of : (after before : List Entry) → same_records (group_records group after) (group_records group before)
        ≡ same_records (unique_records group after ++ shared_records group after) (unique_records group before ++ shared_records group before)
    unfolding group_records
    records_of after before = refl

    was_sure : is_sure group past ≡ are_settled (probe_moments group past) (tick_moments group past)
    was_sure = sure_is past true _ _ live refl refl

    -- An entry that is no tick, and neither probes nor sets back, may change the records of a claim.
    pub replaced_follows : is_tick entry.event ≡ false → probes (group_name group past) entry ≡ false → has_mark (is_announcement_of group.id) entry ≡ false →
        claim_in (entry ∷ past) group ≡ replaced entry.moment (unique_records group (entry ∷ past)) (shared_records group (entry ∷ past)) (claim_in past group)
    replaced_follows no_tick unprobed unmarked = of (is_sure group past) refl
      where
        u : List Rr
        u = unique_records group (entry ∷ past)

        s : List Rr
        s = shared_records group (entry ∷ past)

        moments : probe_moments group (entry ∷ past) ≡ probe_moments group past
        moments = probes_step false false named goes unprobed

        due : probe_due group (entry ∷ past) ≡ probe_due group past
        due = due_is (entry ∷ past) (first_due group past) (probe_moments group past) (first_step false goes) moments ∙ sym (due_is past (first_due group past) (probe_moments group past) refl refl)

        is_still : is_sure group (entry ∷ past) ≡ is_sure group past
        is_still = sure_is (entry ∷ past) true _ _ living moments (ticks_step false false goes no_tick) ∙ sym was_sure

        same : Bool
        same = same_records (u ++ s) (unique_records group past ++ shared_records group past)

        records : same_records (group_records group (entry ∷ past)) (group_records group past) ≡ same
        records = records_of (entry ∷ past) past

        of : (b : Bool) → is_sure group past ≡ b → claim_in (entry ∷ past) group ≡ replaced entry.moment u s (claim_in past group)
        of false e =
            moved_is u s _ _ false false false refl refl (ap length moments) due (is_still ∙ e) (renews_is false false same (is_still ∙ e) e records) unmarked
            ∙ sym (ap (replaced entry.moment u s) (kept_is false e))
        of true e =
            moved_is u s _ _ true (not same) false refl refl (ap length moments) due (is_still ∙ e) (renews_is true true same (is_still ∙ e) e records) unmarked
            ∙ either (not same)
            ∙ sym (ap (replaced entry.moment u s) (kept_is true e))
          where
            either : (b : Bool) → moved u s (length (probe_moments group past)) (probe_due group past) true b false
                ≡ record (kept true) { unique = u; shared = s; announced = cond b 0 (kept true).announced; next = cond b entry.moment (kept true).next }
            either true = refl
            either false = refl

    -- A tick changes no records; it probes a claim, makes it sure or leaves it, and then it may be announced.
    pub ticked_follows : (announces : Bool) → is_tick entry.event ≡ true → unique_records group (entry ∷ past) ≡ unique_records group past → shared_records group (entry ∷ past) ≡ shared_records group past →
        probes (group_name group past) entry ≡ is_probe_due entry.moment (claim_in past group) →
        has_mark (is_announcement_of group.id) entry ≡ (announces && is_announce_due entry.moment (ticked entry.moment (claim_in past group))) →
        claim_in (entry ∷ past) group ≡ after_tick entry.moment announces (claim_in past group)
    ticked_follows announces tick same_unique same_shared probed marked = of (is_sure group past) refl
      where
        m : ℕ
        m = entry.moment

        n : ℕ
        n = length (probe_moments group past)

        d : ℕ
        d = probe_due group past

        u : List Rr
        u = unique_records group past

        s : List Rr
        s = shared_records group past

        a : ℕ
        a = length (announcement_moments group past)

        x : ℕ
        x = next_announcement (claim_moment group past) (announcement_moments group past)

        ticks : tick_moments group (entry ∷ past) ≡ m ∷ tick_moments group past
        ticks = ticks_step false true goes tick

        records : same_records (group_records group (entry ∷ past)) (group_records group past) ≡ true
        records = records_of (entry ∷ past) past ∙ (λ i. same_records (same_unique i ++ same_shared i) (u ++ s)) ∙ same_itself (u ++ s)

        up_to : list_all (λ t. nat_le t m) (tick_moments group past) ≡ true
        up_to = all_up_to (now past) m (tick_moments group past) later paced.past

        due_still : probe_moments group (entry ∷ past) ≡ probe_moments group past → probe_due group (entry ∷ past) ≡ d
        due_still moments = due_is (entry ∷ past) (first_due group past) (probe_moments group past) (first_step false goes) moments ∙ sym (due_is past (first_due group past) (probe_moments group past) refl refl)

        -- sureness behind a tick that doesn't probe
        sure_then : probe_moments group (entry ∷ past) ≡ probe_moments group past → is_sure group (entry ∷ past) ≡ (is_sure group past || (nat_le 3 n && nat_le d m))
        sure_then moments =
            sure_is (entry ∷ past) true _ _ living moments ticks
            ∙ settled_by_tick (first_due group past) m (probe_moments group past) (tick_moments group past) paced.few paced.spaced
            ∙ ap (λ b. b || (nat_le 3 n && nat_le (next_probe (first_due group past) (probe_moments group past)) m)) (sym was_sure)
            ∙ ap (λ t. is_sure group past || (nat_le 3 n && nat_le t m)) (sym (due_is past (first_due group past) (probe_moments group past) refl refl))

        of : (b : Bool) → is_sure group past ≡ b → claim_in (entry ∷ past) group ≡ after_tick m announces (claim_in past group)
        of true e = moved_is u s n d true false c same_unique same_shared (ap length still) (due_still still) sure (renews_is true true true sure e records) marked_so ∙ either c ∙ sym (ap (after_tick m announces) (kept_is true e))
          where
            c : Bool
            c = announces && (nat_lt a 2 && nat_le x m)

            still : probe_moments group (entry ∷ past) ≡ probe_moments group past
            still = probes_step false false named goes (probed ∙ ap (is_probe_due m) (kept_is true e))

            sure : is_sure group (entry ∷ past) ≡ true
            sure = sure_then still ∙ ap (λ b. b || (nat_le 3 n && nat_le d m)) e

            marked_so : has_mark (is_announcement_of group.id) entry ≡ c
            marked_so = marked ∙ ap (λ k. announces && is_announce_due m (ticked m k)) (kept_is true e)

            either : (b : Bool) → moved u s n d true false b ≡ cond b (announced_at m (kept true)) (kept true)
            either true = refl
            either false = refl
        of false e = ways (nat_lt n 3 && nat_le d m) (nat_le 3 n && nat_le d m) refl refl
          where
            probe : probes (group_name group past) entry ≡ (nat_lt n 3 && nat_le d m)
            probe = probed ∙ ap (is_probe_due m) (kept_is false e)

            ticked_is : (p q : Bool) → (nat_lt n 3 && nat_le d m) ≡ p → (nat_le 3 n && nat_le d m) ≡ q → ticked m (kept false) ≡ cond p (probed_at m (kept false)) (cond q (settled_at m (kept false)) (kept false))
            ticked_is p q ep eq = λ i. cond (ep i) (probed_at m (kept false)) (cond (eq i) (settled_at m (kept false)) (kept false))

            marked_as : (then_claim : Claim) → ticked m (kept false) ≡ then_claim → has_mark (is_announcement_of group.id) entry ≡ (announces && is_announce_due m then_claim)
            marked_as then_claim k = marked ∙ ap (λ k. announces && is_announce_due m (ticked m k)) (kept_is false e) ∙ ap (λ k. announces && is_announce_due m k) k

            after_is : (then_claim : Claim) → ticked m (kept false) ≡ then_claim → announced_if m announces then_claim ≡ after_tick m announces (claim_in past group)
            after_is then_claim k = sym (ap (after_tick m announces) (kept_is false e) ∙ ap (announced_if m announces) k)

            ways : (p q : Bool) → (nat_lt n 3 && nat_le d m) ≡ p → (nat_le 3 n && nat_le d m) ≡ q → claim_in (entry ∷ past) group ≡ after_tick m announces (claim_in past group)
            ways true q ep eq =
                let more : probe_moments group (entry ∷ past) ≡ m ∷ probe_moments group past = probes_step false true named goes (probe ∙ ep) in
                let due : probe_due group (entry ∷ past) ≡ m + 250 = due_is (entry ∷ past) (first_due group past) (m ∷ probe_moments group past) (first_step false goes) more in
                let unsure : is_sure group (entry ∷ past) ≡ false =
                sure_is (entry ∷ past) true _ _ living more ticks ∙ unsettled_by_probe m (probe_moments group past) (tick_moments group past) up_to in
                let k : ticked m (kept false) ≡ probed_at m (kept false) = ticked_is true q ep eq in
                let count : length (probe_moments group (entry ∷ past)) ≡ n + 1 = ap length more ∙ omega arith in
                moved_is u s (n + 1) (m + 250) false false false same_unique same_shared count due unsure (renews_is false false true unsure e records)
                (marked_as (probed_at m (kept false)) k ∙ and_false announces)
                ∙ sym (ap (λ b. cond b (announced_at m (probed_at m (kept false))) (probed_at m (kept false))) (and_false announces))
                ∙ after_is (probed_at m (kept false)) k
            ways false true ep eq =
                let still : probe_moments group (entry ∷ past) ≡ probe_moments group past = probes_step false false named goes (probe ∙ ep) in
                let sure : is_sure group (entry ∷ past) ≡ true = sure_then still ∙ (λ i. e i || eq i) in
                let k : ticked m (kept false) ≡ settled_at m (kept false) = ticked_is false true ep eq in
                moved_is u s n d true true (announces && nat_le m m) same_unique same_shared (ap length still) (due_still still) sure (renews_is true false true sure e records)
                (marked_as (settled_at m (kept false)) k)
                ∙ either (announces && nat_le m m)
                ∙ after_is (settled_at m (kept false)) k
              where
                either : (b : Bool) → moved u s n d true true b ≡ cond b (announced_at m (settled_at m (kept false))) (settled_at m (kept false))
                either true = refl
                either false = refl
            ways false false ep eq =
                let still : probe_moments group (entry ∷ past) ≡ probe_moments group past = probes_step false false named goes (probe ∙ ep) in
                let unsure : is_sure group (entry ∷ past) ≡ false = sure_then still ∙ (λ i. e i || eq i) in
                let k : ticked m (kept false) ≡ kept false = ticked_is false false ep eq in
                moved_is u s n d false false false same_unique same_shared (ap length still) (due_still still) unsure (renews_is false false true unsure e records)
                (marked_as (kept false) k ∙ and_false announces)
                ∙ sym (ap (λ b. cond b (announced_at m (kept false)) (kept false)) (and_false announces))
                ∙ after_is (kept false) k

    -- A tick that neither probes a claim nor announces it makes it sure where that is due.
    pub unprobed_follows : is_tick entry.event ≡ true → unique_records group (entry ∷ past) ≡ unique_records group past → shared_records group (entry ∷ past) ≡ shared_records group past →
        probes (group_name group past) entry ≡ false → has_mark (is_announcement_of group.id) entry ≡ false →
        claim_in (entry ∷ past) group ≡ cond (is_settle_due entry.moment (claim_in past group)) (settled_at entry.moment (claim_in past group)) (claim_in past group)
    unprobed_follows tick same_unique same_shared unprobed unmarked = of (is_sure group past) refl
      where
        m : ℕ
        m = entry.moment

        n : ℕ
        n = length (probe_moments group past)

        d : ℕ
        d = probe_due group past

        u : List Rr
        u = unique_records group past

        s : List Rr
        s = shared_records group past

        settled_if : Claim → Claim
        settled_if claim = cond (is_settle_due m claim) (settled_at m claim) claim

        records : same_records (group_records group (entry ∷ past)) (group_records group past) ≡ true
        records = records_of (entry ∷ past) past ∙ (λ i. same_records (same_unique i ++ same_shared i) (u ++ s)) ∙ same_itself (u ++ s)

        still : probe_moments group (entry ∷ past) ≡ probe_moments group past
        still = probes_step false false named goes unprobed

        due_still : probe_due group (entry ∷ past) ≡ d
        due_still = due_is (entry ∷ past) (first_due group past) (probe_moments group past) (first_step false goes) still ∙ sym (due_is past (first_due group past) (probe_moments group past) refl refl)

        sure_then : is_sure group (entry ∷ past) ≡ (is_sure group past || (nat_le 3 n && nat_le d m))
        sure_then =
            sure_is (entry ∷ past) true _ _ living still (ticks_step false true goes tick)
            ∙ settled_by_tick (first_due group past) m (probe_moments group past) (tick_moments group past) paced.few paced.spaced
            ∙ ap (λ b. b || (nat_le 3 n && nat_le (next_probe (first_due group past) (probe_moments group past)) m)) (sym was_sure)
            ∙ ap (λ t. is_sure group past || (nat_le 3 n && nat_le t m)) (sym (due_is past (first_due group past) (probe_moments group past) refl refl))

        of : (b : Bool) → is_sure group past ≡ b → claim_in (entry ∷ past) group ≡ cond (is_settle_due m (claim_in past group)) (settled_at m (claim_in past group)) (claim_in past group)
        of true e =
            let sure : is_sure group (entry ∷ past) ≡ true = sure_then ∙ ap (λ b. b || (nat_le 3 n && nat_le d m)) e in
            moved_is u s n d true false false same_unique same_shared (ap length still) due_still sure (renews_is true true true sure e records) unmarked
            ∙ sym (ap (λ k. cond (is_settle_due m k) (settled_at m k) k) (kept_is true e))
        of false e = ways (nat_le 3 n && nat_le d m) refl
          where
            ways : (q : Bool) → (nat_le 3 n && nat_le d m) ≡ q → claim_in (entry ∷ past) group ≡ cond (is_settle_due m (claim_in past group)) (settled_at m (claim_in past group)) (claim_in past group)
            ways true q =
                let sure : is_sure group (entry ∷ past) ≡ true = sure_then ∙ (λ i. e i || q i) in
                moved_is u s n d true true false same_unique same_shared (ap length still) due_still sure (renews_is true false true sure e records) unmarked
                ∙ sym (ap (λ k. cond (is_settle_due m k) (settled_at m k) k) (kept_is false e) ∙ ap (λ b. cond b (settled_at m (kept false)) (kept false)) q)
            ways false q =
                let unsure : is_sure group (entry ∷ past) ≡ false = sure_then ∙ (λ i. e i || q i) in
                moved_is u s n d false false false same_unique same_shared (ap length still) due_still unsure (renews_is false false true unsure e records) unmarked
                ∙ sym (ap (λ k. cond (is_settle_due m k) (settled_at m k) k) (kept_is false e) ∙ ap (λ b. cond b (settled_at m (kept false)) (kept false)) q)
