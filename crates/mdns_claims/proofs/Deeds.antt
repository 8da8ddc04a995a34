-- What is done to the groups is what an event makes of them.
use Rattle.std.proofs.Common.{◌≡◌, ℕ, suc, ◌==◌, Bool, true, false, true≢false, cond, not, ◌&&◌, ◌||◌, ◌⊎◌, List, [], ◌∷◌, ◌++◌, map, length, refl, ap, sym, subst, ◌∙◌, append-nil, inl, inr, Option, Some, None}
use Rattle.std.specs.List.{filter_map, cons_option, list_any}
use Rattle.std.specs.Option.{option_map, option_map_or, option_to_list, is_some}
use Rattle.std.proofs.lemmas.Bool.{ne_eqb}
use Rattle.sd_call.specs.declared.request.Request.{Request}
use Rattle.sd_call.specs.declared.request.Request.TheVariants as request
use Rattle.mdns_history.specs.declared.mark.Mark.{Mark}
use Rattle.mdns_history.specs.Hearings.{Heard}
use Rattle.mdns_history.specs.Sessions.{Accepted, is_number, is_stop, stops}
use Rattle.mdns_history.specs.Groups.{Group, Registration, registration_from, is_failure_of}
use Rattle.mdns_history.specs.Sureness.{is_setback_of}
use Rattle.mdns_happened.specs.declared.happened.Happened.{Happened}
use Rattle.mdns_happened.specs.declared.happened.Happened.TheVariants as happened
use Rattle.mdns_happened.specs.Told.{Told, told_by}
use Rattle.mdns_probe.specs.Kept.{Kept, disturbed_for}
use Rattle.mdns_claims.specs.declared.plan.Deed.{Deed}
use Rattle.mdns_claims.specs.declared.plan.Deed.TheVariants.{Nothing, Ticks, Begins, Ends}
use Rattle.mdns_claimants.specs.declared.renewal.Renewal.{Renewal}
use Rattle.mdns_renewals.specs.Occasions.{Occasion, renaming_in, ends, updated_txt, txt_given, is_touched, renewed, renewed_if, registration_told, begun_kept}
use Rattle.mdns_claims.specs.Behind.{ticked_on, behind, groups_told, registered_told}
use Rattle.mdns_claimants.specs.Named.{with_renewal, with_renewals}
use Rattle.mdns_renewals.specs.Occasions.{renewal_told}
use Rattle.mdns_claims.specs.Planned.{going_on, means_of, kept_by, is_update, is_stopping, ends_some, counted_by, IsDone}

either_false : (a b : Bool) → (a || b) ≡ false → (a ≡ false) × (b ≡ false)
either_false false false h = (refl, refl)
either_false true b h = absurd (cc)
either_false false true h = absurd (cc)

-- what happened is one thing: a call comes with no tick, no message, and no end of a session
alone : (h : Happened) → is_some (told_by h).call ≡ true → ((told_by h).ticks ≡ false) × ((told_by h).heard ≡ None) × ((told_by h).detached ≡ None)
alone happened.Ticked e = cc
alone (happened.Heard said) e = cc
alone (happened.Refused why) e = cc
alone (happened.Opened session) e = cc
alone (happened.Called session op asked code) e = (refl, refl, refl)
alone (happened.Detached session) e = cc
alone (happened.Took session max) e = cc
alone (happened.Nothing why) e = cc

registering : (o : Option Accepted) → is_some (registration_told o) ≡ true → is_some o ≡ true
registering None e = cc
registering (Some call) e = refl

no_txt : (o : Option Accepted) → is_update o ≡ false → (group : Group) → is_some (txt_given o group) ≡ false
no_txt None e group = refl
no_txt (Some call) e group = of ((call.session == group.session) && (call.op == group.op))
  where
    of : (b : Bool) → is_some (cond b (updated_txt call.request) None) ≡ false
    of true = e
    of false = refl

no_registration : (r : Request) (session op : ℕ) → (is_some (updated_txt r) ≡ true) ⊎ (is_stop r ≡ true) → registration_from session op r ≡ None
no_registration (request.Register label regtype port norename txt) session op (inl e) = cc
no_registration (request.Register label regtype port norename txt) session op (inr e) = cc
no_registration (request.Query kind name) session op e = refl
no_registration (request.Browse regtype) session op e = refl
no_registration (request.Resolve label regtype) session op e = refl
no_registration (request.Address families name) session op e = refl
no_registration (request.Update txt) session op e = refl
no_registration request.Stop session op e = refl

none_updated : (o : Option Accepted) → is_update o ≡ true → registration_told o ≡ None
none_updated None e = refl
none_updated (Some call) e = no_registration call.request call.session call.op (inl e)

none_stopped : (o : Option Accepted) → is_stopping o ≡ true → registration_told o ≡ None
none_stopped None e = refl
none_stopped (Some call) e = no_registration call.request call.session call.op (inr e)

none_of : {X : Type 0} (o : Option X) → is_some o ≡ false → o ≡ None
none_of None h = refl
none_of (Some x) h = absurd (cc)

-- an event with which no operation ends
no_end : (told : Told) → ends_some told ≡ false → (group : Group) → (is_number group.session told.detached || stops group.session group.op told.call) ≡ false
no_end told e group =
    let parts = either_false (is_some told.detached) (is_stopping told.call) e in
    λ i. is_number group.session (none_of told.detached parts.0 i) || never told.call parts.1 i
  where
    off : (a b c : Bool) → c ≡ false → (a && b && c) ≡ false
    off true true c h = h
    off true false c h = refl
    off false b c h = refl

    never : (o : Option Accepted) → is_stopping o ≡ false → stops group.session group.op o ≡ false
    never None h = refl
    never (Some call) h = off (call.session == group.session) (call.op == group.op) (is_stop call.request) h

no_marks : {X : Type 0} (xs : List X) → (length xs == 0) ≡ true → xs ≡ []
no_marks [] e = refl
no_marks (x ∷ xs) e = absurd (true≢false (sym e ∙ ne_eqb (suc (length xs)) 0 (λ k. cc)))

module _ (at : Occasion) where
  all_tick : at.told.ticks ≡ true → (kept : List Kept) → filter_map (behind at) kept ≡ map (ticked_on at) kept
  all_tick ticks [] = refl
  all_tick ticks (one ∷ kept) =
      (λ i. cons_option (cond (ticks i) (Some (ticked_on at one)) (cond (ends at one.group) None (Some (renewed_if at one)))) (filter_map (behind at) kept))
      ∙ ap (λ l. ticked_on at one ∷ l) (all_tick ticks kept)

  pub ticks_are : at.told.ticks ≡ true → registration_told at.told.call ≡ None → (registered : ℕ) (kept : List Kept) → groups_told registered kept at ≡ map (ticked_on at) kept
  ticks_are ticks none registered kept =
      (λ i. all_tick ticks kept i ++ option_to_list (option_map (begun_kept registered kept at) (none i))) ∙ append-nil (map (ticked_on at) kept)

  ended_renewed : (one : Kept) (b : Bool) → cond b None (Some (renewed_if at one)) ≡ cond b None (Some (with_renewal (cond b None (cond (is_touched at one) (Some (record { number = (renewed at one).number; claim = (renewed at one).claim })) None)) one))
  ended_renewed one true = refl
  ended_renewed one false = of (is_touched at one)
    where
      of : (t : Bool) → Some (cond t (renewed at one) one) ≡ Some (with_renewal (cond t (Some (record { number = (renewed at one).number; claim = (renewed at one).claim })) None) one)
      of true = refl
      of false = refl

  same_group : (o : Option Renewal) (one : Kept) → (with_renewal o one).group ≡ one.group
  same_group None one = refl
  same_group (Some renewal) one = refl

  all_change : at.told.ticks ≡ false → (kept : List Kept) → filter_map (behind at) kept ≡ going_on at.told at.marks (with_renewals (map (renewal_told at) kept) kept)
  all_change no_tick [] = refl
  all_change no_tick (one ∷ kept) =
      (λ i. cons_option (cond (no_tick i) (Some (ticked_on at one)) (ended_renewed one (ends at one.group) i)) (all_change no_tick kept i))
      ∙ of (ends at one.group)
      ∙ ap (λ (g : Group). cond (not (ends at g)) (with_renewal (renewal_told at one) one ∷ going_on at.told at.marks (with_renewals (map (renewal_told at) kept) kept)) (going_on at.told at.marks (with_renewals (map (renewal_told at) kept) kept))) (sym (same_group (renewal_told at one) one))
    where
      of : (b : Bool) → cons_option (cond b None (Some (with_renewal (renewal_told at one) one))) (going_on at.told at.marks (with_renewals (map (renewal_told at) kept) kept))
          ≡ cond (not b) (with_renewal (renewal_told at one) one ∷ going_on at.told at.marks (with_renewals (map (renewal_told at) kept) kept)) (going_on at.told at.marks (with_renewals (map (renewal_told at) kept) kept))
      of true = refl
      of false = refl

  pub changes_are : at.told.ticks ≡ false → registration_told at.told.call ≡ None → (registered : ℕ) (kept : List Kept) → groups_told registered kept at ≡ going_on at.told at.marks (with_renewals (map (renewal_told at) kept) kept)
  changes_are no_tick none registered kept =
      (λ i. all_change no_tick kept i ++ option_to_list (option_map (begun_kept registered kept at) (none i))) ∙ append-nil (going_on at.told at.marks (with_renewals (map (renewal_told at) kept) kept))

  -- an event without marks and updates touches no group
  untouched : at.marks ≡ [] → ((group : Group) → is_some (txt_given at.told.call group) ≡ false) → (one : Kept) → is_touched at one ≡ false
  untouched quiet still one =
      (λ i. list_any (is_setback_of one.group.id) (quiet i) || still one.group i || (not (one.group.id == 0) && is_some (renaming_in 0 (quiet i))))
      ∙ off (not (one.group.id == 0))
    where
      off : (b : Bool) → (b && false) ≡ false
      off true = refl
      off false = refl

  all_end : at.told.ticks ≡ false → ((one : Kept) → is_touched at one ≡ false) → (kept : List Kept) → filter_map (behind at) kept ≡ going_on at.told at.marks kept
  all_end no_tick still [] = refl
  all_end no_tick still (one ∷ kept) =
      (λ i. cons_option (cond (no_tick i) (Some (ticked_on at one)) (cond (ends at one.group) None (Some (cond (still one i) (renewed at one) one)))) (all_end no_tick still kept i))
      ∙ of (ends at one.group)
    where
      of : (b : Bool) → cons_option (cond b None (Some one)) (going_on at.told at.marks kept) ≡ cond (not b) (one ∷ going_on at.told at.marks kept) (going_on at.told at.marks kept)
      of true = refl
      of false = refl

  pub ends_are : at.told.ticks ≡ false → registration_told at.told.call ≡ None → at.marks ≡ [] → ((group : Group) → is_some (txt_given at.told.call group) ≡ false) → (registered : ℕ) (kept : List Kept) →
      groups_told registered kept at ≡ going_on at.told at.marks kept
  ends_are no_tick none quiet still registered kept =
      (λ i. all_end no_tick (untouched quiet still) kept i ++ option_to_list (option_map (begun_kept registered kept at) (none i))) ∙ append-nil (going_on at.told at.marks kept)

  all_stay : ((group : Group) → ends at group ≡ false) → (kept : List Kept) → going_on at.told at.marks kept ≡ kept
  all_stay runs [] = refl
  all_stay runs (one ∷ kept) = (λ i. cond (not (runs one.group i)) (one ∷ going_on at.told at.marks kept) (going_on at.told at.marks kept)) ∙ ap (λ l. one ∷ l) (all_stay runs kept)

  -- an event that ends and touches no group: what it begins stands behind the others
  pub begins_are : at.told.ticks ≡ false → at.marks ≡ [] → ((group : Group) → is_some (txt_given at.told.call group) ≡ false) → ((group : Group) → ends at group ≡ false) → (registered : ℕ) (kept : List Kept) →
      groups_told registered kept at ≡ kept ++ option_to_list (option_map (begun_kept registered kept at) (registration_told at.told.call))
  begins_are no_tick quiet still runs registered kept =
      ap (λ (l : List Kept). l ++ option_to_list (option_map (begun_kept registered kept at) (registration_told at.told.call))) (all_end no_tick (untouched quiet still) kept ∙ all_stay runs kept)

  none_counted : registration_told at.told.call ≡ None → (registered : ℕ) → registered ≡ registered_told registered at
  none_counted none registered = ap (λ (o : Option Registration). cond (is_some o) (suc registered) registered) (sym none)

  -- of what happened
  module _ (h : Happened) (told : at.told ≡ told_by h) (kept : List Kept) (marks : at.marks ≡ disturbed_for at.told.heard kept) (registered : ℕ) where
    calm : is_some (registration_told at.told.call) ≡ true → (at.told.ticks ≡ false) × (at.marks ≡ []) × (at.told.detached ≡ None)
    calm e =
        let some : is_some (told_by h).call ≡ true = ap (λ (t : Told). is_some t.call) (sym told) ∙ registering at.told.call e in
        let only = alone h some in (
          ap (λ (t : Told). t.ticks) told ∙ only.0,
          marks ∙ ap (λ (t : Told). disturbed_for t.heard kept) told ∙ ap (λ (o : Option Heard). disturbed_for o kept) only.1,
          ap (λ (t : Told). t.detached) told ∙ only.2,
        )

    none_unless : (is_some (registration_told at.told.call) ≡ true → ⊥) → registration_told at.told.call ≡ None
    none_unless never = of (registration_told at.told.call) never
      where
        of : (o : Option Registration) → (is_some o ≡ true → ⊥) → o ≡ None
        of None n = refl
        of (Some r) n = absurd (n refl)

    pub ticks_done : at.told.ticks ≡ true → IsDone at registered kept Ticks
    ticks_done ticks =
        let none : registration_told at.told.call ≡ None = none_unless (λ e. true≢false (sym ticks ∙ (calm e).0)) in
        record { groups = sym (ticks_are ticks none registered kept); count = none_counted none registered }

    changes_none : (length at.marks == 0) ≡ false ⊎ (is_update at.told.call ≡ true) → registration_told at.told.call ≡ None
    changes_none (inr update) = none_updated at.told.call update
    changes_none (inl some) = none_unless (λ e. true≢false (sym (ap (λ (ms : List Mark). length ms == 0) (calm e).1) ∙ some))

    pub changes_done : at.told.ticks ≡ false → (length at.marks == 0) ≡ false ⊎ (is_update at.told.call ≡ true) → (deed : Deed) →
        kept_by (means_of at) kept deed ≡ going_on at.told at.marks (with_renewals (map (renewal_told at) kept) kept) → counted_by registered deed ≡ registered → IsDone at registered kept deed
    changes_done no_tick some deed are count =
        let none : registration_told at.told.call ≡ None = changes_none some in
        record { groups = are ∙ sym (changes_are no_tick none registered kept); count = count ∙ none_counted none registered }

    ends_none : ends_some at.told ≡ true → registration_told at.told.call ≡ None
    ends_none e = of (is_some at.told.detached) refl e
      where
        of : (b : Bool) → is_some at.told.detached ≡ b → (b || is_stopping at.told.call) ≡ true → registration_told at.told.call ≡ None
        of true f k = none_unless (λ r. true≢false (sym f ∙ ap is_some (calm r).2))
        of false f k = none_stopped at.told.call k

    pub ends_done : at.told.ticks ≡ false → (length at.marks == 0) ≡ true → is_update at.told.call ≡ false → ends_some at.told ≡ true → IsDone at registered kept Ends
    ends_done no_tick quiet still e =
        let none : registration_told at.told.call ≡ None = ends_none e in
        record { groups = sym (ends_are no_tick none (no_marks at.marks quiet) (no_txt at.told.call still) registered kept); count = none_counted none registered }

    pub begins_done : at.told.ticks ≡ false → (length at.marks == 0) ≡ true → is_update at.told.call ≡ false → ends_some at.told ≡ false → (o : Option Kept) →
        o ≡ option_map (begun_kept registered kept at) (registration_told at.told.call) → (deed : Deed) → deed ≡ option_map_or Begins o Nothing → IsDone at registered kept deed
    begins_done no_tick quiet still runs o is deed made =
        subst (IsDone at registered kept) (sym made) (of o refl)
      where
        all : groups_told registered kept at ≡ kept ++ option_to_list o
        all =
            begins_are no_tick (no_marks at.marks quiet) (no_txt at.told.call still)
            (λ group. (λ i. no_end at.told runs group i || list_any (is_failure_of group.id) (no_marks at.marks quiet i))) registered kept
            ∙ ap (λ (x : Option Kept). kept ++ option_to_list x) (sym is)

        same : (x : Option Registration) → is_some (option_map (begun_kept registered kept at) x) ≡ is_some x
        same None = refl
        same (Some r) = refl

        count : cond (is_some o) (suc registered) registered ≡ registered_told registered at
        count = ap (λ b. cond b (suc registered) registered) (ap is_some is ∙ same (registration_told at.told.call))

        of : (x : Option Kept) → o ≡ x → IsDone at registered kept (option_map_or Begins x Nothing)
        of None e = record { groups = sym (all ∙ ap (λ (y : Option Kept). kept ++ option_to_list y) e ∙ append-nil kept); count = sym (ap (λ (y : Option Kept). cond (is_some y) (suc registered) registered) e) ∙ count }
        of (Some one) e = record { groups = sym (all ∙ ap (λ (y : Option Kept). kept ++ option_to_list y) e); count = sym (ap (λ (y : Option Kept). cond (is_some y) (suc registered) registered) e) ∙ count }
