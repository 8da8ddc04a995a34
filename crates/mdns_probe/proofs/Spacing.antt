-- What keeps the probes of a group apart is kept up by each entry.
use Rattle.std.proofs.Common.{◌≡◌, ℕ, ◌<◌, ◌≤◌, Bool, true, false, not, ◌&&◌, List, [], ◌∷◌, length, nat_le, nat_lt, refl, ap, sym, subst, ◌∙◌, arith}
use Rattle.std.specs.List.{list_all}
use Rattle.std.proofs.lemmas.Bool.{le-leb, leb-true}
use Rattle.mdns_history.specs.declared.entry.Entry.{Entry}
use Rattle.mdns_history.specs.History.{now, is_tick}
use Rattle.mdns_history.specs.Groups.{Group, group_name}
use Rattle.mdns_history.specs.Sureness.{sets_back, probes, probe_moments, tick_moments, is_sure}
use Rattle.mdns_history.specs.Probing.{first_due, probe_due}
use Rattle.mdns_probe.specs.Claiming.{is_probe_due}
use Rattle.mdns_probe.specs.Standing.{claim_in, IsPaced, are_spaced}
use Rattle.mdns_probe.proofs.Settling.{both_true, all_up_to, spaced_more}
use Rattle.mdns_probe.proofs.Follows.{none_since, probes_step, ticks_step, due_is}

module _ (group : Group) (entry : Entry) (past : List Entry) where
  pub set_back_paced : sets_back group.id entry past ≡ true → IsPaced (entry ∷ past) group
  set_back_paced back =
      let none : probe_moments group (entry ∷ past) ≡ [] = none_since group entry past back in
      let no_ticks : tick_moments group (entry ∷ past) ≡ [] = ticks_step group entry past true _ back refl in
      record {
        few = subst (λ (l : List ℕ). length l ≤ 3) (sym none) (omega arith);
        spaced = ap are_spaced none;
        past = ap (list_all (λ tick. nat_le tick entry.moment)) no_ticks;
      }

  pub kept_paced : group_name group (entry ∷ past) ≡ group_name group past → sets_back group.id entry past ≡ false → now past ≤ entry.moment → IsPaced past group →
      (probes (group_name group past) entry ≡ true → is_probe_due entry.moment (claim_in past group) ≡ true) → IsPaced (entry ∷ past) group
  kept_paced named goes later paced due = record { few = few_of (probes (group_name group past) entry) refl; spaced = spaced_of (probes (group_name group past) entry) refl; past = past_of (is_tick entry.event) refl }
    where
      m : ℕ
      m = entry.moment

      ms : List ℕ
      ms = probe_moments group past

      parts : probes (group_name group past) entry ≡ true → (length ms < 3) × (probe_due group past ≤ m)
      parts e =
          let one = both_true (not (is_sure group past) && nat_lt (length ms) 3) (nat_le (probe_due group past) m) (due e) in
          let two = both_true (not (is_sure group past)) (nat_lt (length ms) 3) one.0 in
          let few : length ms < 3 = leb-true _ 3 two.1 in
          (few, leb-true (probe_due group past) m one.1)

      few_of : (b : Bool) → probes (group_name group past) entry ≡ b → length (probe_moments group (entry ∷ past)) ≤ 3
      few_of true e = let few : length ms < 3 = (parts e).0 in subst (λ (l : List ℕ). length l ≤ 3) (sym (probes_step group entry past false true named goes e)) (omega arith)
      few_of false e = subst (λ (l : List ℕ). length l ≤ 3) (sym (probes_step group entry past false false named goes e)) paced.few

      spaced_of : (b : Bool) → probes (group_name group past) entry ≡ b → are_spaced (probe_moments group (entry ∷ past)) ≡ true
      spaced_of true e =
          ap are_spaced (probes_step group entry past false true named goes e)
          ∙ spaced_more (first_due group past) m ms (subst (λ (t : ℕ). t ≤ m) (due_is group entry past past (first_due group past) ms refl refl) (parts e).1) paced.spaced
      spaced_of false e = ap are_spaced (probes_step group entry past false false named goes e) ∙ paced.spaced

      past_of : (b : Bool) → is_tick entry.event ≡ b → list_all (λ tick. nat_le tick m) (tick_moments group (entry ∷ past)) ≡ true
      past_of true e =
          ap (list_all (λ tick. nat_le tick m)) (ticks_step group entry past false true goes e)
          ∙ ap (λ b. b && list_all (λ tick. nat_le tick m) (tick_moments group past)) (le-leb m m (omega arith))
          ∙ all_up_to (now past) m (tick_moments group past) later paced.past
      past_of false e = ap (list_all (λ tick. nat_le tick m)) (ticks_step group entry past false false goes e) ∙ all_up_to (now past) m (tick_moments group past) later paced.past
