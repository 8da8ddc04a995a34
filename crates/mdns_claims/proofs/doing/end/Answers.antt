use Rattle.std.proofs.Common.{◌≡◌, ◌-◌, ◌<◌, ◌≤◌, ◌∙◌, ℕ, suc, Bool, true, false, List, length, get_or, not, ap, sym, arith}
use Rattle.std.specs.List.{remove}
use Rattle.mdns_happened.specs.declared.happened.Happened.{Happened}
use Rattle.mdns_happened.specs.Told.{told_by}
use Rattle.mdns_history.specs.declared.mark.Mark.{Mark}
use Rattle.mdns_probe.specs.Kept.{Kept}
use Rattle.mdns_renewals.specs.Occasions.{ends_by}
use Rattle.mdns_claims.proofs.Taking.{left_at, left_stays, left_goes, left_all, shorter}
use Rattle.mdns_claims.proofs.doing.end.Goals as goal

abbrev goes_on : Happened → List Mark → Kept → Bool
goes_on happened marks one = not (ends_by (told_by happened) marks one.group)

pub loop-place-init : goal.loop-place-init
loop-place-init c =
    let len : length c.as_slice-place.result.now ≡ length c.args.groups.now.kept = ap length c.as_slice-place.ensures in
    record {
      within = omega (arith, len);
      left = ap (left_at (goes_on c.args.happened.now c.args.marks.now) c.args.groups.now.kept) len ∙ left_all (goes_on c.args.happened.now c.args.marks.now) c.args.groups.now.kept;
    }

pub loop-place-preserved : goal.loop-place-preserved
loop-place-preserved c =
    let kept : List Kept = c.loop-place.groups.kept in
    let i : ℕ = c.loop-place.place - 1 in
    let one : Kept = c.index-as_slice-place.result in
    let inside : i < length kept = omega (arith, c.loop-place-test.true, c.loop-place.invariant.within) in
    let next : suc i ≡ c.loop-place.place = omega (arith, c.loop-place-test.true) in
    let runs : ends_by (told_by c.args.happened.now) c.args.marks.now one.group ≡ false =
    ap (ends_by (told_by c.args.happened.now) c.args.marks.now) (sym c.naming.ensures.naming) ∙ sym c.ends.ensures ∙ c.if-ends.false in
    record {
      within = omega (arith, inside);
      left = left_stays (goes_on c.args.happened.now c.args.marks.now) kept i one inside (c.index-as_slice-place.is ∙ ap (λ (l : List Kept). get_or l i one) c.as_slice.ensures) (ap not runs)
          ∙ ap (left_at (goes_on c.args.happened.now c.args.marks.now) kept) next
          ∙ c.loop-place.invariant.left;
    }

pub loop-place-preserved-then-ends : goal.loop-place-preserved-then-ends
loop-place-preserved-then-ends c =
    let kept : List Kept = c.loop-place.groups.kept in
    let i : ℕ = c.loop-place.place - 1 in
    let one : Kept = c.index-as_slice-place.result in
    let inside : i < length kept = omega (arith, c.loop-place-test.true, c.loop-place.invariant.within) in
    let next : suc i ≡ c.loop-place.place = omega (arith, c.loop-place-test.true) in
    let over : ends_by (told_by c.args.happened.now) c.args.marks.now one.group ≡ true =
    ap (ends_by (told_by c.args.happened.now) c.args.marks.now) (sym c.naming.ensures.naming) ∙ sym c.ends.ensures ∙ c.if-ends.true in
    let left : i ≤ length (remove kept i) = shorter kept i inside in
    let len : length c.remove.new.self.kept ≡ length (remove kept i) = ap length c.remove.ensures.kept in
    record {
      within = omega (arith, left, len);
      left = ap (λ (l : List Kept). left_at (goes_on c.args.happened.now c.args.marks.now) l i) c.remove.ensures.kept
          ∙ left_goes (goes_on c.args.happened.now c.args.marks.now) kept i one inside (c.index-as_slice-place.is ∙ ap (λ (l : List Kept). get_or l i one) c.as_slice.ensures) (ap not over)
          ∙ ap (left_at (goes_on c.args.happened.now c.args.marks.now) kept) next
          ∙ c.loop-place.invariant.left;
    }
