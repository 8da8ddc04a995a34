use Rattle.std.proofs.Common.{◌≡◌, ◌<◌, ◌+◌, ◌++◌, ◌∙◌, ℕ, List, [], length, get_or, take, sym, ap, subst, arith}
use Rattle.std.specs.List.{filter_map}
use Rattle.std.specs.List.Sorted.{IsNonDecreasing}
use Rattle.std.specs.Option.{option_map, option_to_list}
use Rattle.std.proofs.lemmas.List.{get_or_default}
use Rattle.mdns_happened.specs.Told.{Told, told_by}
use Rattle.mdns_question.specs.declared.tracked.Tracked.{Tracked}
use Rattle.mdns_asking.specs.ByWalks.{asked_by}
use Rattle.mdns_asking.specs.Places.{ArePut, is_near}
use Rattle.mdns_asking.proofs.Picked.{AreLeft, left_else, left_behind, asked_with, asked_next, all_asked}
use Rattle.mdns_asking.proofs.due.asked_questions.Goals as goal
use Rattle.mdns_asking.proofs.due.asked_questions.Goals.{in-Some+in_ok-cause+in_ok-put_asked, in_default}

pub loop-place-init : goal.loop-place-init
loop-place-init c = record { within = omega arith; rest = λ k behind below h. h; asked = c.new-asked.ensures.items }

pub loop-place-preserved : goal.loop-place-preserved
loop-place-preserved c =
    let told : Told = told_by c.args.happened.now in
    let questions : List Tracked = c.questions-questions.result.now in
    let places : List ℕ = c.deref-place-items.result.now in
    let index : ℕ = c.loop-place.place-index in
    let place : ℕ = get_or places index 0 in
    let inside : index < length places = c.loop-place-test.true in
    let is : place ≡ get_or places index place = get_or_default places index 0 place inside in
    let near : ArePut (is_near told c.args.when.moment c.args.walks.now) questions [] places =
    subst (λ (q : List Tracked). ArePut (is_near told c.args.when.moment c.args.walks.now) q [] places) (sym c.questions-questions.ensures)
    (subst (ArePut (is_near told c.args.when.moment c.args.walks.now) c.args.asker.now.questions []) (sym c.deref-place-items.ensures.value) c.in_ok-places.ensures.places) in
    let rises : IsNonDecreasing places = subst IsNonDecreasing (sym c.deref-place-items.ensures.value) c.in_ok-places.ensures.order in
    elim c.match-question_from.branch [
      | in-Some+in_ok-cause+in_ok-put_asked w ↦
          record {
            within = omega (arith, w.from-is, w.in-Some.ensures.within);
            rest = subst (AreLeft places (length questions) (index + 1)) (sym w.from-is) (left_behind places (length questions) index place inside is c.loop-place.from w.in-Some.ensures.behind c.loop-place.invariant.rest);
            asked =
                ap (λ v. v.items) w.asked-is
                ∙ asked_next told c.args.when.moment c.args.walks.now questions places index c.loop-place.from place w.in-Some.one.now c.loop-place.asked.items w.put_asked.new.asked.items near rises inside is
                w.in-Some.ensures.behind w.in-Some.ensures.within w.in-Some.ensures.is c.loop-place.invariant.rest c.loop-place.invariant.asked
                (w.in_ok-put_asked.ensures ∙ ap (λ cause. c.loop-place.asked.items ++ option_to_list (option_map (λ why. (w.in-Some.one.now.key, why)) cause)) w.in_ok-cause.ensures)
                ∙ ap (λ (k : ℕ). filter_map (asked_with told c.args.when.moment c.args.walks.now) (take k questions)) (sym w.from-is);
          }
      | in_default w ↦
          record {
            within = omega (arith, w.from-is, c.loop-place.invariant.within);
            rest = subst (AreLeft places (length questions) (index + 1)) (sym w.from-is) (left_else places (length questions) index place inside is c.loop-place.from w.in_default.ensures.none c.loop-place.invariant.rest);
            asked =
                ap (λ v. v.items) w.asked-is ∙ c.loop-place.invariant.asked
                ∙ ap (λ (k : ℕ). filter_map (asked_with told c.args.when.moment c.args.walks.now) (take k questions)) (sym w.from-is);
          }
    ]

pub returns : goal.returns
returns c =
    let told : Told = told_by c.args.happened.now in
    let questions : List Tracked = c.questions-questions.result.now in
    let places : List ℕ = c.deref-place-items.result.now in
    let near : ArePut (is_near told c.args.when.moment c.args.walks.now) questions [] places =
    subst (λ (q : List Tracked). ArePut (is_near told c.args.when.moment c.args.walks.now) q [] places) (sym c.questions-questions.ensures)
    (subst (ArePut (is_near told c.args.when.moment c.args.walks.now) c.args.asker.now.questions []) (sym c.deref-place-items.ensures.value) c.in_ok-places.ensures.places) in
    all_asked told c.args.when.moment c.args.walks.now questions places c.loop-place.place-index c.loop-place.from c.loop-place.asked.items near c.loop-place-test.false c.loop-place.invariant.within
    c.loop-place.invariant.rest c.loop-place.invariant.asked
    ∙ ap (λ (q : List Tracked). asked_by told.ticks told.heard q c.args.walks.now c.args.when.moment) c.questions-questions.ensures
