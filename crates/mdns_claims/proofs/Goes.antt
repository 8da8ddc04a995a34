-- What is kept of claims behind the entry that follows a history: numbers, names, storms, waits, and each group.
use Rattle.std.proofs.Common.{◌≡◌, ℕ, zero, suc, ◌+◌, ◌%◌, ◌≤◌, ◌==◌, Bool, true, false, cond, not, ◌&&◌, ◌||◌, List, [], ◌∷◌, ◌++◌, map, arith, refl, ap, sym, subst, ◌∙◌, Option, Some, None}
use Rattle.std.specs.Prelude.{replicate}
use Rattle.std.specs.List.{list_any}
use Rattle.std.specs.Option.{option_map, option_map_or, unwrap_or, is_some}
use Rattle.std.proofs.lemmas.Bool.{ne_eqb, eq-eqb}
use Rattle.lists.specs.Lists.{count_where}
use Rattle.dns_record.specs.declared.record.Rr.{Rr}
use Rattle.dns_record.specs.Conflicts.{is_stormy}
use Rattle.mdns_history.specs.declared.config.Config.{Config}
use Rattle.mdns_history.specs.declared.event.Event.{Event}
use Rattle.mdns_history.specs.declared.mark.Mark.{Mark}
use Rattle.mdns_history.specs.declared.operation.Operation.{Operation}
use Rattle.mdns_history.specs.declared.entry.Entry.{Entry}
use Rattle.mdns_history.specs.InForce.{Duties}
use Rattle.mdns_history.specs.History.{latest, has_mark, booted, config_of}
use Rattle.mdns_history.specs.Sessions.{is_number, stops, txt_of, operation_request, present_txt}
use Rattle.mdns_history.specs.Groups.{Group, Registration, groups, group_of, group_name, numbered_name, number_of, renaming, is_failure_of, ends_group, names_of, host_name, registration_in, registered_count, unique_records, shared_records}
use Rattle.mdns_history.specs.Sureness.{is_setback_of, sets_back}
use Rattle.mdns_history.specs.Probing.{is_conflict, conflict_moments, is_lost_tie_of, first_wait}
use Rattle.mdns_history.specs.Fitting.{refusal_marks, disturbed_marks, is_boot}
use Rattle.mdns_happened.specs.Told.{heard_of}
use Rattle.mdns_conflict.specs.Storms as storms
use Rattle.mdns_conflict.proofs.Stormy.{noted_stands}
use Rattle.mdns_probe.specs.Claiming.{begun, replaced}
use Rattle.mdns_probe.specs.Naming.{unique_named, shared_named}
use Rattle.mdns_probe.specs.Standing.{claim_in, after_other}
use Rattle.mdns_probe.specs.Kept.{Kept, kept_in, name_of, disturbed_for}
use Rattle.mdns_probe.proofs.Legal.{entry_after, bare, not_booted}
use Rattle.mdns_claims.specs.State.{Contents, Stands}
use Rattle.mdns_renewals.specs.Occasions.{Occasion, renaming_in, number_after, wait_told, ends, txt_given, txt_in, txt_behind, is_touched, renewed, renewed_if, registration_told, txt_asked, begun_kept}
use Rattle.mdns_claims.specs.Behind.{occasion_of, host_named, noted_times, storm_told}
use Rattle.mdns_claims.specs.Laws.{told_in}
use Rattle.mdns_claims.proofs.Marks.{setbacks, lost_ties, any_claimed, conflicts_claimed}
use Rattle.mdns_claims.proofs.Told.{disturbed_told}
use Rattle.mdns_claims.proofs.Operated.{IsCall, accepted_is}
use Rattle.mdns_claims.proofs.Entered.{moment_next, word_next, registration_next, config_next, ends_next, number_next}
use Rattle.mdns_claims.proofs.Live.{IsOperated, IsRegistered, registered_is, goes_on, runs_on, begins_with}
use Rattle.mdns_claims.proofs.Records.{host_is, unique_is, shared_is, host_txt, txt_told, other_host, number_kept, replaced_same}

-- several conflicts at a moment
put_first : (n moment : ℕ) (moments : List ℕ) → replicate n moment ++ moment ∷ moments ≡ moment ∷ (replicate n moment ++ moments)
put_first zero moment moments = refl
put_first (suc n) moment moments = ap (λ l. moment ∷ l) (put_first n moment moments)

noted_all : (n moment : ℕ) (storm : storms.Contents) (moments : List ℕ) → storms.Stands storm moments → storms.Stands (noted_times n moment storm) (replicate n moment ++ moments)
noted_all zero moment storm moments is = is
noted_all (suc n) moment storm moments is =
    subst (storms.Stands (noted_times n moment (storms.noted moment storm))) (put_first n moment moments)
    (noted_all n moment (storms.noted moment storm) (moment ∷ moments) (noted_stands storm moments moment is))

off : (b : Bool) → (b && false) ≡ false
off true = refl
off false = refl

names_kept : (history : List Entry) (gs : List Group) → names_of gs history ≡ map name_of (map (kept_in history) gs)
unfolding group_name
names_kept history [] = refl
names_kept history (group ∷ gs) = ap (λ l. group_name group history ∷ l) (names_kept history gs)

all_false : (a b c : Bool) → (a || b || c) ≡ false → (a ≡ false) × (b ≡ false) × (c ≡ false)
all_false false false false h = (refl, refl, refl)
all_false true b c h = absurd (cc)
all_false false true c h = absurd (cc)
all_false false false true h = absurd (cc)

none_of : {X : Type 0} (o : Option X) → is_some o ≡ false → o ≡ None
none_of None h = refl
none_of (Some x) h = absurd (cc)

module _ (duties : Duties) (claiming : duties.claiming ≡ true) (past : List Entry) (moment word : ℕ) (ev : Event) (no_boot : is_boot ev ≡ false) (contents : Contents) (stands : Stands contents past) where
  abbrev pub entry : Entry
  entry = entry_after duties past moment word ev

  abbrev pub at : Occasion
  at = occasion_of contents (told_in past moment word ev) moment word

  pub marks_are : at.marks ≡ disturbed_marks (bare duties past moment word ev) past
  marks_are = ap (disturbed_for (heard_of (refusal_marks (bare duties past moment word ev) past ev) ev)) stands.kept ∙ disturbed_told duties past moment word ev

  pub number_at : (id first : ℕ) → unwrap_or (latest (renaming id) (entry ∷ past)) first ≡ number_after id at.marks (unwrap_or (latest (renaming id) past) first)
  number_at id first =
      number_next duties past moment word ev claiming id first ∙ ap (λ (ms : List Mark). number_after id ms (unwrap_or (latest (renaming id) past) first)) (sym marks_are)

  pub config_at : ◌≡◌ {A = Option Config} (config_of (entry ∷ past)) (Some contents.config)
  config_at = config_next duties past moment word ev no_boot ∙ stands.config

  host_at : host_name (entry ∷ past) ≡ at.host
  host_at = host_is (entry ∷ past) contents.config config_at ∙ ap (host_named contents.config) (number_at 0 1 ∙ ap (number_after 0 at.marks) (sym stands.number))

  host_before : host_name past ≡ host_named contents.config contents.number
  host_before = host_is past contents.config stands.config ∙ ap (host_named contents.config) (sym stands.number)

  moments_are : conflict_moments (entry ∷ past) ≡ replicate (count_where is_conflict at.marks) moment ++ conflict_moments past
  unfolding conflict_moments
  moments_are =
      let count : count_where is_conflict entry.marks ≡ count_where is_conflict at.marks = conflicts_claimed duties claiming past moment word ev ∙ ap (count_where is_conflict) (sym marks_are) in
      λ i. replicate (count i) (moment_next duties past moment word ev i) ++ conflict_moments past

  pub storm_at : storms.Stands (storm_told contents.storm moment at.marks) (conflict_moments (entry ∷ past))
  storm_at =
      subst (storms.Stands (storm_told contents.storm moment at.marks)) (sym moments_are) (noted_all (count_where is_conflict at.marks) moment contents.storm (conflict_moments past) stands.storm)

  wait_at : (id : ℕ) → first_wait id entry past ≡ wait_told at id
  wait_at id =
      let tie : has_mark (is_lost_tie_of id) entry ≡ list_any (is_lost_tie_of id) at.marks = any_claimed duties claiming past moment word ev (is_lost_tie_of id) (lost_ties id) ∙ ap (list_any (is_lost_tie_of id)) (sym marks_are) in
      let stormy : is_stormy (conflict_moments (entry ∷ past)) ≡ at.stormy = sym storm_at.stormy in
      λ i. cond (stormy i) 5000 (cond (tie i) 1000 (word_next duties past moment word ev i % 251))

  pub ends_at : (group : Group) → ends_group entry group ≡ ends at group
  ends_at group =
      ends_next duties past moment word ev claiming group
      ∙ ap (λ (ms : List Mark). (is_number group.session at.told.detached || stops group.session group.op at.told.call) || list_any (is_failure_of group.id) ms) (sym marks_are)

  backs_at : (id : ℕ) → has_mark (is_setback_of id) entry ≡ list_any (is_setback_of id) at.marks
  backs_at id = any_claimed duties claiming past moment word ev (is_setback_of id) (setbacks id) ∙ ap (list_any (is_setback_of id)) (sym marks_are)

  -- a group that is live is registered by no entry
  sets_at : (group : Group) → group.id ≤ registered_count past → sets_back group.id entry past ≡ list_any (is_setback_of group.id) at.marks
  sets_at group low =
      (λ i. ((is_some (not_booted duties past moment word ev no_boot i) && (group.id == 0)) || (is_some (registration_in entry) && other i)) || backs_at group.id i)
      ∙ ap (λ b. b || list_any (is_setback_of group.id) at.marks) (off (is_some (registration_in entry)))
    where
      no : (a b : ℕ) → a ≤ b → b + 1 ≡ a → ⊥
      no a b l e = omega (arith, l, e)

      other : (registered_count past + 1 == group.id) ≡ false
      other = ne_eqb (registered_count past + 1) group.id (λ e. absurd (no group.id (registered_count past) low e))

  -- a group that goes on
  module _ (group : Group) (operated : IsOperated past group) (low : group.id ≤ registered_count past) (runs : ends_group entry group ≡ false) where
    abbrev one : Kept
    one = kept_in past group

    abbrev number : ℕ
    number = number_after group.id at.marks (number_of group past)

    abbrev name : List (List ℕ)
    name = numbered_name group number

    number_is : number_of group (entry ∷ past) ≡ number
    unfolding number_of
    number_is = number_at group.id group.first

    name_is : group_name group (entry ∷ past) ≡ name
    unfolding group_name
    name_is = ap (numbered_name group) number_is

    name_was : group_name group past ≡ numbered_name group (number_of group past)
    unfolding group_name
    name_was = refl

    txt_is : (group.id == 0) ≡ false → present_txt group.session group.op (entry ∷ past) ≡ unwrap_or (txt_given at.told.call group) (present_txt group.session group.op past)
    unfolding present_txt operation_request
    txt_is real = (goes_on duties past moment word ev group (runs_on duties past moment word ev group runs) (operated real)).1

    unique_at : unique_records group (entry ∷ past) ≡ unique_named contents.config at.host group name (txt_behind at one)
    unique_at =
        unique_is group (entry ∷ past) contents.config config_at
        ∙ (λ i. unique_named contents.config (host_at i) group (name_is i) (present_txt group.session group.op (entry ∷ past)))
        ∙ of (group.id == 0) refl
        ∙ sym (txt_told contents.config at.host (host_name past) group name (group_name group past) (txt_given at.told.call group) (present_txt group.session group.op past))
        ∙ ap (λ (rrs : List Rr). unique_named contents.config at.host group name (unwrap_or (txt_given at.told.call group) (txt_in rrs))) (sym (unique_is group past contents.config stands.config))
      where
        of : (b : Bool) → (group.id == 0) ≡ b →
            unique_named contents.config at.host group name (present_txt group.session group.op (entry ∷ past))
            ≡ unique_named contents.config at.host group name (unwrap_or (txt_given at.told.call group) (present_txt group.session group.op past))
        of true e = host_txt contents.config at.host group name (present_txt group.session group.op (entry ∷ past)) (unwrap_or (txt_given at.told.call group) (present_txt group.session group.op past)) e
        of false e = ap (unique_named contents.config at.host group name) (txt_is e)

    shared_at : shared_records group (entry ∷ past) ≡ shared_named group name
    shared_at = shared_is group (entry ∷ past) ∙ ap (shared_named group) name_is

    claim_at : claim_in (entry ∷ past) group ≡ after_other entry past group → claim_in (entry ∷ past) group ≡ (renewed at one).claim
    claim_at is =
        is
        ∙ (λ i. cond (sets_at group low i) (begun (moment_next duties past moment word ev i) (wait_at group.id i) group.id (unique_at i) (shared_at i))
        (replaced (moment_next duties past moment word ev i) (unique_at i) (shared_at i) (claim_in past group)))

    renewed_at : claim_in (entry ∷ past) group ≡ after_other entry past group → kept_in (entry ∷ past) group ≡ renewed at one
    renewed_at is = let claim : claim_in (entry ∷ past) group ≡ (renewed at one).claim = claim_at is in λ i. record { group = group; number = number_is i; claim = claim i }

    -- one that isn't touched stays
    untouched : is_touched at one ≡ false → renewed at one ≡ one
    untouched still = λ i. record { group = group; number = same_number i; claim = same_claim i }
      where
        parts : (list_any (is_setback_of group.id) at.marks ≡ false) × (is_some (txt_given at.told.call group) ≡ false) × ((not (group.id == 0) && is_some (renaming_in 0 at.marks)) ≡ false)
        parts = all_false (list_any (is_setback_of group.id) at.marks) (is_some (txt_given at.told.call group)) (not (group.id == 0) && is_some (renaming_in 0 at.marks)) still

        same_number : number ≡ number_of group past
        same_number = number_kept group.id at.marks (number_of group past) parts.0

        same_name : name ≡ group_name group past
        same_name = ap (numbered_name group) same_number ∙ sym name_was

        same_host : is_some (renaming_in 0 at.marks) ≡ false → at.host ≡ host_name past
        same_host none = ap (λ (o : Option ℕ). host_named contents.config (unwrap_or o contents.number)) (none_of (renaming_in 0 at.marks) none) ∙ sym host_before

        same_unique : unique_named contents.config at.host group name (txt_behind at one) ≡ unique_records group past
        same_unique =
            (λ i. unique_named contents.config at.host group (same_name i) (unwrap_or (none_of (txt_given at.told.call group) parts.1 i) (txt_in (unique_records group past))))
            ∙ other_host contents.config at.host (host_name past) group (group_name group past) (txt_in (unique_records group past)) (is_some (renaming_in 0 at.marks)) parts.2 same_host
            ∙ ap (λ (rrs : List Rr). unique_named contents.config (host_name past) group (group_name group past) (txt_in rrs)) (unique_is group past contents.config stands.config)
            ∙ txt_told contents.config (host_name past) (host_name past) group (group_name group past) (group_name group past) None (present_txt group.session group.op past)
            ∙ sym (unique_is group past contents.config stands.config)

        same_shared : shared_named group name ≡ shared_records group past
        same_shared = ap (shared_named group) same_name ∙ sym (shared_is group past)

        same_claim : (renewed at one).claim ≡ claim_in past group
        same_claim =
            (λ i. cond (parts.0 i) (begun moment (wait_told at group.id) group.id (unique_named contents.config at.host group name (txt_behind at one)) (shared_named group name))
            (replaced moment (same_unique i) (same_shared i) (claim_in past group)))
            ∙ replaced_same moment (claim_in past group)

    pub goes : claim_in (entry ∷ past) group ≡ after_other entry past group → kept_in (entry ∷ past) group ≡ renewed_if at one
    goes is = of (is_touched at one) refl
      where
        of : (b : Bool) → is_touched at one ≡ b → kept_in (entry ∷ past) group ≡ cond b (renewed at one) one
        of true e = renewed_at is
        of false e = renewed_at is ∙ untouched e

  -- the group that begins
  module _ (r : Registration) (some : registration_told at.told.call ≡ Some r) (unnamed : latest (renaming (registered_count past + 1)) past ≡ None) where
    abbrev new : Group
    new = group_of (registered_count past + 1) (names_of (groups past) past) r

    is : IsRegistered at.told.call r
    is = registered_is at.told.call r some

    quiet : at.marks ≡ []
    quiet =
        let called : IsCall ev past is.asking = accepted_is ev past is.asking is.is in
        ap (λ (e : Event). disturbed_for (heard_of (refusal_marks (bare duties past moment word ev) past ev) e) contents.kept) called.called

    new_number : number_of new (entry ∷ past) ≡ new.first
    unfolding number_of
    new_number =
        number_at new.id new.first
        ∙ ap (λ (ms : List Mark). number_after new.id ms (unwrap_or (latest (renaming new.id) past) new.first)) quiet
        ∙ ap (λ (o : Option ℕ). unwrap_or o new.first) unnamed

    new_name : group_name new (entry ∷ past) ≡ numbered_name new new.first
    unfolding group_name
    new_name = ap (numbered_name new) new_number

    new_txt : present_txt new.session new.op (entry ∷ past) ≡ txt_asked at.told.call
    unfolding present_txt operation_request
    new_txt =
        ap (λ (o : Option Operation). option_map_or txt_of (option_map (λ operation. operation.request) o) []) (begins_with duties past moment word ev r is)
        ∙ ap txt_asked (sym is.is)

    new_unique : unique_records new (entry ∷ past) ≡ unique_named contents.config at.host new (numbered_name new new.first) (txt_asked at.told.call)
    new_unique =
        unique_is new (entry ∷ past) contents.config config_at
        ∙ (λ i. unique_named contents.config (host_at i) new (new_name i) (new_txt i))

    new_shared : shared_records new (entry ∷ past) ≡ shared_named new (numbered_name new new.first)
    new_shared = shared_is new (entry ∷ past) ∙ ap (shared_named new) new_name

    set_back : sets_back new.id entry past ≡ true
    set_back =
        (λ i. ((is_some (booted entry.event) && (new.id == 0)) || (is_some ((registration_next duties past moment word ev ∙ some) i) && eq-eqb (registered_count past + 1) (registered_count past + 1) refl i)) || has_mark (is_setback_of new.id) entry)
        ∙ of (is_some (booted entry.event) && (new.id == 0)) (has_mark (is_setback_of new.id) entry)
      where
        of : (a b : Bool) → ((a || true) || b) ≡ true
        of true b = refl
        of false b = refl

    -- a group as it begins
    abbrev begun_with : Group → Kept
    begun_with group = record {
      group = group;
      number = group.first;
      claim = begun moment (wait_told at group.id) group.id (unique_named contents.config at.host group (numbered_name group group.first) (txt_asked at.told.call)) (shared_named group (numbered_name group group.first));
    }

    new_claim : claim_in (entry ∷ past) new ≡ after_other entry past new → claim_in (entry ∷ past) new ≡ (begun_with new).claim
    new_claim is =
        is
        ∙ (λ i. cond (set_back i) (begun (moment_next duties past moment word ev i) (wait_at new.id i) new.id (new_unique i) (new_shared i))
        (replaced (moment_next duties past moment word ev i) (new_unique i) (new_shared i) (claim_in past new)))

    pub begins : claim_in (entry ∷ past) new ≡ after_other entry past new → kept_in (entry ∷ past) new ≡ begun_kept contents.registered contents.kept at r
    begins is =
        let claim : claim_in (entry ∷ past) new ≡ (begun_with new).claim = new_claim is in
        let names : names_of (groups past) past ≡ map name_of contents.kept = names_kept past (groups past) ∙ ap (map name_of) (sym stands.kept) in
        let same : new ≡ group_of (contents.registered + 1) (map name_of contents.kept) r = λ i. group_of (sym stands.registered i + 1) (names i) r in
        (λ i. record { group = new; number = new_number i; claim = claim i }) ∙ ap begun_with same
