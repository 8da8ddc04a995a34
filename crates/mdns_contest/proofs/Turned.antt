-- The marks of a packet in turn: none where it disturbs no group, and those of the first group and of the rest.
use Rattle.std.proofs.Common.{◌≡◌, ℕ, Bool, true, false, cond, not, ◌||◌, nat_lt, List, [], ◌∷◌, refl, ap, ◌∙◌, Option, Some, None}
use Rattle.std.specs.List.{cons_option}
use Rattle.std.specs.Option.{option_map, is_some}
use Rattle.mdns_history.specs.declared.mark.Mark.{Mark}
use Rattle.mdns_history.specs.Hearings.{Heard}
use Rattle.mdns_history.specs.Claims.{Holding, held_by_others, holdings_after}
use Rattle.mdns_probe.specs.Kept.{Kept, mark_for, marks_for_turn}
use Rattle.mdns_contest.specs.declared.disturb.Disturbance.TheVariants.{Contested, GivenUp, Tied}
use Rattle.mdns_contest.specs.Turning.{is_clash, is_tie, disturbance, mark_of, disturbs_any}

-- a group's mark is that of what disturbs it
pub mark_is : (heard : Heard) (one : Kept) (others : List (List (List ℕ))) → mark_for heard one others ≡ option_map (mark_of one others) (disturbance heard one)
mark_is heard one others = of one.claim.sure (not (nat_lt 0 one.claim.probes)) (is_clash heard one) (is_tie heard one)
  where
    of : (sure unprobed clash tie : Bool) →
        cond sure (cond clash (Some (mark_of one others Contested)) None) (cond unprobed None (cond clash (Some (mark_of one others GivenUp)) (cond tie (Some (mark_of one others Tied)) None)))
        ≡ option_map (mark_of one others) (cond sure (cond clash (Some Contested) None) (cond unprobed None (cond clash (Some GivenUp) (cond tie (Some Tied) None))))
    of true unprobed true tie = refl
    of true unprobed false tie = refl
    of false true clash tie = refl
    of false false true tie = refl
    of false false false true = refl
    of false false false false = refl

none_of : {X : Type 0} (o : Option X) → is_some o ≡ false → o ≡ None
none_of None h = refl
none_of (Some x) h = absurd (cc)

either_false : (a b : Bool) → (a || b) ≡ false → (a ≡ false) × (b ≡ false)
either_false false false h = (refl, refl)
either_false true b h = absurd (cc)
either_false false true h = absurd (cc)

pub undisturbed : (heard : Heard) (kept : List Kept) (holdings : List Holding) → disturbs_any heard kept ≡ false → marks_for_turn heard kept holdings ≡ []
undisturbed heard [] holdings h = refl
undisturbed heard (one ∷ kept) holdings h =
    let parts = either_false (is_some (disturbance heard one)) (disturbs_any heard kept) h in
    let quiet : mark_for heard one (held_by_others one.group.id holdings) ≡ None =
    mark_is heard one (held_by_others one.group.id holdings) ∙ ap (option_map (mark_of one (held_by_others one.group.id holdings))) (none_of (disturbance heard one) parts.0) in
    ap (λ (v : Option Mark). cons_option v (marks_for_turn heard kept (holdings_after one.group v holdings))) quiet ∙ undisturbed heard kept holdings parts.1
