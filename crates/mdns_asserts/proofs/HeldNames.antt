-- The groups that an entry leaves hold different names behind it.
use Rattle.std.proofs.Common.{◌≡◌, ℕ, ◌+◌, ◌^◌, ◌<◌, ◌≤◌, ◌⊎◌, inl, inr, Bool, true, false, List, ◌∷◌, map, length, Option, Some, None, refl, ap, subst, ◌∙◌, sym, arith}
use Rattle.std.specs.Option.{option_or, unwrap_or}
use Rattle.dns_name.specs.Names.{folded_eq}
use Rattle.mdns_history.specs.declared.mark.Mark.{Mark}
use Rattle.mdns_history.specs.declared.mark.Mark.TheVariants as mark
use Rattle.mdns_history.specs.declared.entry.Entry.{Entry}
use Rattle.mdns_history.specs.InForce.{Duties}
use Rattle.mdns_history.specs.History.{latest, has_mark}
use Rattle.mdns_history.specs.Hearings.{Heard, brought}
use Rattle.mdns_history.specs.Groups.{Group, registered_count, groups, group_name, ends_group, is_failure_of, number_of, numbered_name, renaming}
use Rattle.mdns_history.specs.Claims.{Holding, holding_of, marks_in_turn, claim_marks}
use Rattle.mdns_history.specs.Fitting.{bare_entry, admitted, disturbed_marks, next_entry}
use Rattle.mdns_asserts.proofs.Elements.{In, in_map, of_map, any_in, or_two, both_no}
use Rattle.mdns_asserts.proofs.Quiet.{is_quiet, mark_cases, renaming_stands, renaming_none}
use Rattle.mdns_asserts.proofs.Turns.{AreApart, Turned, turned, turn_ids, id_in}
use Rattle.mdns_asserts.proofs.Disturbed.{disturbed_in}
use Rattle.mdns_asserts.proofs.Numbered.{HaveNumbers, length_map, some_eq, own_id}

-- what holds of the groups of a legal history
pub record AreDistinct (h : List Entry) : Type 0 where
  pub numbers : HaveNumbers (groups h)
  pub low : (group : Group) → In group (groups h) → group.id ≤ registered_count h
  pub names : (a b : Group) → In a (groups h) → In b (groups h) → folded_eq (group_name a h) (group_name b h) ≡ true → a.id ≡ b.id
  pub few : length (groups h) ≤ registered_count h + 1
  pub within : registered_count h ≤ 2 ^ 63
  pub unnamed : (id : ℕ) → registered_count h < id → latest (renaming id) h ≡ None

pub name_after : (group : Group) (entry : Entry) (past : List Entry) (o : Option ℕ) → renaming group.id entry ≡ o →
    group_name group (entry ∷ past) ≡ numbered_name group (unwrap_or (option_or o (latest (renaming group.id) past)) group.first)
unfolding group_name number_of
name_after group entry past o e = ap (λ x. numbered_name group (unwrap_or (option_or x (latest (renaming group.id) past)) group.first)) e

pub name_before : (group : Group) (past : List Entry) → group_name group past ≡ numbered_name group (unwrap_or (latest (renaming group.id) past) group.first)
unfolding group_name number_of
name_before group past = refl

module _ (duties : Duties) (entry : Entry) (past : List Entry) (determined : entry ≡ next_entry duties past entry.moment entry.word entry.event) (before : AreDistinct past) where
  -- the renaming of a packet
  from_packet : (id n : ℕ) → In (mark.Renamed id n) entry.marks →
      (duties.claiming ≡ true) × In (mark.Renamed id n) (disturbed_marks (bare_entry entry.moment entry.word entry.event past) past)
  from_packet id n m = of (mark_cases duties entry past determined (mark.Renamed id n) m)
    where
      of : (is_quiet (mark.Renamed id n) ≡ true) ⊎ ((duties.claiming ≡ true) × In (mark.Renamed id n) (disturbed_marks (bare_entry entry.moment entry.word entry.event past) past)) →
          (duties.claiming ≡ true) × In (mark.Renamed id n) (disturbed_marks (bare_entry entry.moment entry.word entry.event past) past)
      of (inl quiet) = cc
      of (inr k) = k

  no_marks : (o : Option Heard) → o ≡ None → (m : Mark) → In m (claim_marks o past) → ⊥
  unfolding claim_marks
  no_marks None e m k = k
  no_marks (Some heard) e m k = cc

  -- where nothing is taken in, or claiming is no duty, no group gets a number
  pub calm : (duties.claiming ≡ false) ⊎ (admitted (bare_entry entry.moment entry.word entry.event past) past (brought entry.event) ≡ None) → (id : ℕ) → renaming id entry ≡ None
  calm why id = of (renaming id entry) refl
    where
      by : (duties.claiming ≡ false) ⊎ (admitted (bare_entry entry.moment entry.word entry.event past) past (brought entry.event) ≡ None) → (n : ℕ) → In (mark.Renamed id n) entry.marks → ⊥
      by (inl idle) n m = let k : (duties.claiming ≡ true) × In (mark.Renamed id n) (disturbed_marks (bare_entry entry.moment entry.word entry.event past) past) = from_packet id n m in both_no duties.claiming k.0 idle
      by (inr none) n m =
          let k : (duties.claiming ≡ true) × In (mark.Renamed id n) (disturbed_marks (bare_entry entry.moment entry.word entry.event past) past) = from_packet id n m in
          no_marks (admitted (bare_entry entry.moment entry.word entry.event past) past (brought entry.event)) none (mark.Renamed id n) k.1

      of : (o : Option ℕ) → renaming id entry ≡ o → renaming id entry ≡ None
      of None e = e
      of (Some n) e = absurd (by why n (renaming_stands id n entry e))

  pub calm_name : (group : Group) → renaming group.id entry ≡ None → group_name group (entry ∷ past) ≡ group_name group past
  calm_name group e = name_after group entry past None e ∙ sym (name_before group past)

  -- The holdings of the groups that are left are of different names.
  abbrev pub AreHeld : Type 0
  AreHeld = (final : List Holding) × AreApart final × ((group : Group) → In group (groups past) → ends_group entry group ≡ false → In (record { id = group.id; name = group_name group (entry ∷ past) }) final)

  apart_before : AreApart (map (holding_of past) (groups past))
  apart_before a b m n e =
      let left : (x : Group) × In x (groups past) × (a ≡ holding_of past x) = of_map (holding_of past) a (groups past) m in
      let right : (x : Group) × In x (groups past) × (b ≡ holding_of past x) = of_map (holding_of past) b (groups past) n in
      ap (λ x. x.id) left.2
      ∙ before.names left.0 right.0 left.1 right.1 (sym (ap (λ x. folded_eq x.name (group_name right.0 past)) left.2) ∙ sym (ap (λ x. folded_eq a.name x.name) right.2) ∙ e)
      ∙ sym (ap (λ x. x.id) right.2)

  as_before : (duties.claiming ≡ false) ⊎ (admitted (bare_entry entry.moment entry.word entry.event past) past (brought entry.event) ≡ None) → AreHeld
  as_before why = (
    map (holding_of past) (groups past),
    apart_before,
    λ group m stays. subst (λ name. In (record { id = group.id; name = name }) (map (holding_of past) (groups past))) (sym (calm_name group (calm why group.id))) (in_map (holding_of past) group (groups past) m),
  )

  by_packet : duties.claiming ≡ true → (heard : Heard) → admitted (bare_entry entry.moment entry.word entry.event past) past (brought entry.event) ≡ Some heard → AreHeld
  unfolding claim_marks
  by_packet claiming heard e =
      let hs : List Holding = map (holding_of past) (groups past) in
      let same : length hs ≡ length (groups past) = length_map (holding_of past) (groups past) in
      let t : (final : List Holding) × Turned past (groups past) hs (marks_in_turn heard past (groups past) hs) final =
      turned heard past (groups past) hs before.numbers (λ group m. in_map (holding_of past) group (groups past) m) apart_before (omega (arith, same, before.few, before.within)) in
      (t.0, (t.1).apart, λ group m stays. of t.0 t.1 group m stays (renaming group.id entry) refl)
    where
      noticed : (m : Mark) → In m (marks_in_turn heard past (groups past) (map (holding_of past) (groups past))) → In m entry.marks
      noticed m k = disturbed_in duties entry past determined claiming m (subst (λ (o : Option Heard). In m (claim_marks o past)) (sym e) k)

      back : (id n : ℕ) → In (mark.Renamed id n) entry.marks → In (mark.Renamed id n) (marks_in_turn heard past (groups past) (map (holding_of past) (groups past)))
      back id n m = subst (λ (o : Option Heard). In (mark.Renamed id n) (claim_marks o past)) e (from_packet id n m).1

      of : (final : List Holding) → Turned past (groups past) (map (holding_of past) (groups past)) (marks_in_turn heard past (groups past) (map (holding_of past) (groups past))) final → (group : Group) → In group (groups past) →
          ends_group entry group ≡ false → (o : Option ℕ) → renaming group.id entry ≡ o → In (record { id = group.id; name = group_name group (entry ∷ past) }) final
      of final t group m stays (Some n) f =
          subst (λ name. In (record { id = group.id; name = name }) final) (sym (name_after group entry past (Some n) f)) (t.renamed group m n (back group.id n (renaming_stands group.id n entry f)))
      of final t group m stays None f =
          subst (λ name. In (record { id = group.id; name = name }) final) (sym (calm_name group f))
          (t.kept group m (λ n k. renaming_none group.id n entry f (noticed (mark.Renamed group.id n) k))
          (λ k. both_no (ends_group entry group) (or_two _ (has_mark (is_failure_of group.id) entry) (any_in (is_failure_of group.id) entry.marks (mark.Failed group.id) (noticed (mark.Failed group.id) k) (own_id group.id))) stays))

  pub are_held : AreHeld
  are_held = of duties.claiming refl (admitted (bare_entry entry.moment entry.word entry.event past) past (brought entry.event)) refl
    where
      of : (b : Bool) → duties.claiming ≡ b → (o : Option Heard) → admitted (bare_entry entry.moment entry.word entry.event past) past (brought entry.event) ≡ o → AreHeld
      of false e o f = as_before (inl e)
      of true e None f = as_before (inr f)
      of true e (Some heard) f = by_packet e heard f

  -- no number is given to a group that isn't there
  pub unnamed_next : (id : ℕ) → registered_count past < id → latest (renaming id) (entry ∷ past) ≡ None
  unfolding claim_marks
  unnamed_next id above = of (renaming id entry) refl
    where
      taken : (n : ℕ) → (o : Option Heard) → In (mark.Renamed id n) (claim_marks o past) → ⊥
      taken n None k = k
      taken n (Some heard) k =
          let found : (group : Group) × In group (groups past) × (id_in (mark.Renamed id n) ≡ Some group.id) = turn_ids heard past (groups past) (map (holding_of past) (groups past)) (mark.Renamed id n) k in
          let same : id ≡ (found.0).id = some_eq id (found.0).id found.2 in
          let low : (found.0).id ≤ registered_count past = before.low found.0 found.1 in
          no id (found.0).id (registered_count past) same low above
        where
          no : (a b c : ℕ) → a ≡ b → b ≤ c → c < a → ⊥
          no a b c e l g = omega (arith, e, l, g)

      of : (o : Option ℕ) → renaming id entry ≡ o → option_or (renaming id entry) (latest (renaming id) past) ≡ None
      of None e = ap (λ o. option_or o (latest (renaming id) past)) e ∙ before.unnamed id above
      of (Some n) e = absurd (taken n (admitted (bare_entry entry.moment entry.word entry.event past) past (brought entry.event)) (from_packet id n (renaming_stands id n entry e)).1)
