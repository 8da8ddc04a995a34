-- The entry that follows a history: its marks of claims. And the live groups of a legal history have different numbers and names.
use Rattle.std.proofs.Common.{◌≡◌, ℕ, ◌==◌, Bool, true, false, not, ◌&&◌, ◌||◌, List, [], ◌∷◌, ◌++◌, map, refl, ap, sym, append_assoc, ◌∙◌, Option, Some, None}
use Rattle.std.specs.List.{list_any, list_all}
use Rattle.std.specs.Option.{option_or, option_map, option_and_then, option_to_list}
use Rattle.std.proofs.lemmas.Bool.{ne_eqb, eq-eqb, false≢true}
use Rattle.dns_name.specs.Names.{folded_eq}
use Rattle.mdns_history.specs.declared.config.Config.{Config}
use Rattle.mdns_history.specs.declared.event.Event.{Event}
use Rattle.mdns_history.specs.declared.event.Event.TheVariants as event
use Rattle.mdns_history.specs.declared.mark.Mark.{Mark}
use Rattle.mdns_history.specs.declared.entry.Entry.{Entry}
use Rattle.mdns_history.specs.InForce.{Duties, only_if}
use Rattle.mdns_history.specs.History.{booted}
use Rattle.mdns_history.specs.Hearings.{Heard, brought}
use Rattle.mdns_history.specs.Sessions.{Accepted, is_number, detached, stops, accepted_call, accepted_in, ends_operation}
use Rattle.mdns_history.specs.Groups.{Group, groups, group_name, is_taken, names_of, registration_in, registration_from, host_group}
use Rattle.mdns_history.specs.Claims.{holding_of, claim_marks, marks_in_turn}
use Rattle.mdns_history.specs.Items.{cut_marks}
use Rattle.mdns_history.specs.Outcomes.{early_outcome}
use Rattle.mdns_history.specs.Fitting.{bare_entry, refusal_marks, admitted, disturbed_marks, asked_marks, announced_marks, noted, next_entry, is_boot, boot_entry, IsLegal}
use Rattle.mdns_asserts.specs.Names.{are_apart, all_apart}
use Rattle.mdns_asserts.proofs.NamesApart.{names_apart}
use Rattle.mdns_asserts.proofs.Registered.{accepted-next, unbooted}
use Rattle.mdns_probe.proofs.Settling.{both_true}
use Rattle.mdns_probe.proofs.Distinct.{AreApart, AreOnce, has_id}

module _ (duties : Duties) (past : List Entry) (moment word : ℕ) (ev : Event) where
  abbrev pub entry_after : Entry
  entry_after = next_entry duties past moment word ev

  abbrev pub bare : Entry
  bare = bare_entry moment word ev past

  -- the marks of claims in the entry
  abbrev pub claimed : List Mark
  claimed = only_if duties.claiming (disturbed_marks bare past)

  pub event_is : entry_after.event ≡ ev
  unfolding next_entry
  event_is = refl

  pub marks_is : entry_after.marks ≡ refusal_marks bare past ev ++ (claimed ++ ((only_if duties.asking (asked_marks bare past ev) ++ only_if duties.announcing (announced_marks bare past ev)) ++ cut_marks (noted duties bare past) past))
  unfolding next_entry
  marks_is =
      append_assoc (refusal_marks bare past ev) (claimed ++ (only_if duties.asking (asked_marks bare past ev) ++ only_if duties.announcing (announced_marks bare past ev))) (cut_marks (noted duties bare past) past)
      ∙ ap (λ l. refusal_marks bare past ev ++ l) (append_assoc claimed (only_if duties.asking (asked_marks bare past ev) ++ only_if duties.announcing (announced_marks bare past ev)) (cut_marks (noted duties bare past) past))

  pub not_booted : is_boot ev ≡ false → booted entry_after.event ≡ None
  not_booted no_boot = ap booted event_is ∙ unbooted ev no_boot

  -- The marks of claims are those of all groups in turn, by a packet that was heard, or there are none.
  pub claimed_cases : (P : List Mark → Type 0) → P [] → ((heard : Heard) → registration_in entry_after ≡ None → ((session op : ℕ) → ends_operation session op entry_after ≡ false) →
      P (marks_in_turn heard past (groups past) (map (holding_of past) (groups past)))) → P claimed
  unfolding claim_marks next_entry registration_in
  claimed_cases P none some = of ev refl
    where
      nothing : (b : Bool) → P (only_if b [])
      nothing true = none
      nothing false = none

      of : (e : Event) → ev ≡ e → P (only_if duties.claiming (claim_marks (admitted bare past (brought e)) past))
      of (event.Boot config) h = nothing duties.claiming
      of event.Attach h = nothing duties.claiming
      of (event.Detach session) h = nothing duties.claiming
      of (event.Call session op request) h = nothing duties.claiming
      of event.Tick h = nothing duties.claiming
      of (event.Take session max) h = nothing duties.claiming
      of (event.Hear from bytes) h = at duties.claiming (admitted bare past (brought (event.Hear from bytes)))
        where
          not_registered : registration_in entry_after ≡ None
          not_registered = ap (λ (o : Option Accepted). option_and_then (λ (call : Accepted). registration_from call.session call.op call.request) o) (accepted-next duties past moment word ev ∙ ap (λ e. accepted_call e (early_outcome e past)) h)

          not_ended : (session op : ℕ) → ends_operation session op entry_after ≡ false
          not_ended session op = ap (λ (e : Event). is_number session (detached e entry_after.outcome) || stops session op (accepted_call e entry_after.outcome)) h

          at : (b : Bool) (o : Option Heard) → P (only_if b (claim_marks o past))
          at true None = none
          at true (Some heard) = some heard not_registered not_ended
          at false o = none

-- what a legal history's groups are like: each number is that of one group, and names lie apart
pub record Holds (history : List Entry) : Type 0 where
  pub once : AreOnce (groups history)
  pub apart : AreApart (names_of (groups history) history)

opposite : (b : Bool) → not b ≡ true → b ≡ false
opposite true e = absurd (cc)
opposite false e = refl

-- a group that is apart from others has a number and a name that none of them has
alone : (history : List Entry) (group : Group) (gs : List Group) → list_all (are_apart history group) gs ≡ true →
    (has_id group.id gs ≡ false) × (is_taken (names_of gs history) (group_name group history) ≡ false)
alone history group [] e = (refl, refl)
alone history group (one ∷ gs) e =
    let both = both_true (are_apart history group one) (list_all (are_apart history group) gs) e in
    let two = both_true (not (group.id == one.id)) (not (folded_eq (group_name group history) (group_name one history))) both.0 in
    let rest = alone history group gs both.1 in
    let other : (one.id == group.id) ≡ false = ne_eqb one.id group.id (λ k. absurd (false≢true (sym (opposite (group.id == one.id) two.0) ∙ eq-eqb group.id one.id (sym k)))) in
    ((λ i. other i || rest.0 i), (λ i. opposite (folded_eq (group_name group history) (group_name one history)) two.1 i || rest.1 i))

all_alone : (history : List Entry) (gs : List Group) → all_apart history gs ≡ true → AreOnce gs × AreApart (names_of gs history)
all_alone history [] e = (tt, tt)
all_alone history (group ∷ gs) e =
    let both = both_true (list_all (are_apart history group) gs) (all_apart history gs) e in
    let first = alone history group gs both.0 in
    let rest = all_alone history gs both.1 in
    ((first.0, rest.0), (first.1, rest.1))

pub holds_legal : (duties : Duties) (past : List Entry) → IsLegal duties past → Holds past
holds_legal duties past legal = let all = all_alone past (groups past) (names_apart duties past legal) in record { once = all.0; apart = all.1 }

pub boot_groups : (moment word : ℕ) (config : Config) → groups (boot_entry moment word config ∷ []) ≡ option_to_list (option_or (option_map host_group config.host) None)
unfolding groups registration_in
boot_groups moment word config = refl
