-- What the entry that follows a history says of operations, registrations and groups.
use Rattle.std.proofs.Common.{◌≡◌, ℕ, ◌+◌, true, false, cond, not, ◌||◌, List, [], ◌∷◌, ◌++◌, refl, ap, ◌∙◌, Option, Some, None}
use Rattle.std.specs.Prelude.{filter, slice_get}
use Rattle.std.specs.List.{list_any}
use Rattle.std.specs.Option.{option_or, option_map, option_and_then, option_to_list, unwrap_or}
use Rattle.mdns_history.specs.declared.config.Config.{Config}
use Rattle.mdns_history.specs.declared.event.Event.{Event}
use Rattle.mdns_history.specs.declared.mark.Mark.{Mark}
use Rattle.mdns_history.specs.declared.entry.Entry.{Entry}
use Rattle.mdns_history.specs.InForce.{Duties}
use Rattle.mdns_history.specs.History.{config_of, latest}
use Rattle.mdns_history.specs.Sessions.{Accepted, accepted_call, detached, is_number, stops, after_call, operations_of}
use Rattle.mdns_history.specs.Groups.{Group, groups, ends_group, group_of, host_group, names_of, renaming, is_failure_of, registration_in, registration_from, registered_count}
use Rattle.mdns_history.specs.Outcomes.{early_outcome}
use Rattle.mdns_history.specs.Fitting.{disturbed_marks, next_entry, is_boot}
use Rattle.mdns_history.proofs.Steps.{groups-cons}
use Rattle.mdns_asserts.proofs.Registered.{accepted-next}
use Rattle.mdns_probe.proofs.Legal.{entry_after, bare, not_booted}
use Rattle.mdns_renewals.specs.Occasions.{renaming_in, number_after, registration_told}
use Rattle.mdns_claims.proofs.Marks.{failures, any_claimed, numbers_claimed}
use Rattle.mdns_claims.proofs.Told.{detached-next}

given_first : (a b : Option ℕ) (n : ℕ) → unwrap_or (option_or a b) n ≡ unwrap_or a (unwrap_or b n)
given_first None b n = refl
given_first (Some m) b n = refl

module _ (duties : Duties) (past : List Entry) (moment word : ℕ) (ev : Event) where
  abbrev entry : Entry
  entry = entry_after duties past moment word ev

  -- the call that is accepted, and the session that ends
  abbrev pub call : Option Accepted
  call = accepted_call ev (early_outcome ev past)

  abbrev pub gone : Option ℕ
  gone = detached ev (early_outcome ev past)

  pub moment_next : entry.moment ≡ moment
  unfolding next_entry
  moment_next = refl

  pub word_next : entry.word ≡ word
  unfolding next_entry
  word_next = refl

  pub operations_next : (session : ℕ) → operations_of session (entry ∷ past) ≡ cond (is_number session gone) [] (after_call session call (operations_of session past))
  unfolding operations_of
  operations_next session =
      λ i. cond (is_number session (detached-next duties past moment word ev i)) [] (after_call session (accepted-next duties past moment word ev i) (operations_of session past))

  pub registration_next : registration_in entry ≡ registration_told call
  unfolding registration_in
  registration_next = ap (λ (o : Option Accepted). option_and_then (λ (c : Accepted). registration_from c.session c.op c.request) o) (accepted-next duties past moment word ev)

  -- the group that begins
  abbrev pub begun_next : Option Group
  begun_next = option_map (group_of (registered_count past + 1) (names_of (groups past) past)) (registration_told call)

  pub groups_next : is_boot ev ≡ false → groups (entry ∷ past) ≡ filter (λ group. not (ends_group entry group)) (groups past) ++ option_to_list begun_next
  groups_next no_boot =
      groups-cons entry past
      ∙ (λ i. filter (λ group. not (ends_group entry group)) (groups past)
      ++ option_to_list (option_or (option_map host_group (option_and_then (λ config. config.host) (not_booted duties past moment word ev no_boot i)))
      (option_map (group_of (registered_count past + 1) (names_of (groups past) past)) (registration_next i))))

  pub config_next : is_boot ev ≡ false → config_of (entry ∷ past) ≡ config_of past
  config_next no_boot = ap (λ (o : Option Config). option_or o (config_of past)) (not_booted duties past moment word ev no_boot)

  module _ (claiming : duties.claiming ≡ true) where
    abbrev marks : List Mark
    marks = disturbed_marks (bare duties past moment word ev) past

    pub ends_next : (group : Group) → ends_group entry group ≡ ((is_number group.session gone || stops group.session group.op call) || list_any (is_failure_of group.id) marks)
    ends_next group =
        λ i. (is_number group.session (detached-next duties past moment word ev i) || stops group.session group.op (accepted-next duties past moment word ev i))
        || any_claimed duties claiming past moment word ev (is_failure_of group.id) (failures group.id) i

    pub renaming_next : (id : ℕ) → renaming id entry ≡ renaming_in id marks
    renaming_next id = ap (λ (ns : List ℕ). slice_get ns 0) (numbers_claimed duties claiming past moment word ev id)

    -- the number of a group, told by the one before
    pub number_next : (id first : ℕ) → unwrap_or (latest (renaming id) (entry ∷ past)) first ≡ number_after id marks (unwrap_or (latest (renaming id) past) first)
    number_next id first =
        ap (λ (o : Option ℕ). unwrap_or (option_or o (latest (renaming id) past)) first) (renaming_next id)
        ∙ given_first (renaming_in id marks) (latest (renaming id) past) first
