use Rattle.std.proofs.Common.{◌≡◌, ◌∙◌, ◌≤◌, ℕ, arith, length, ap, subst, sym, List}
use Rattle.std.proofs.lemmas.List.Sorted.{length_permutation}
use Rattle.mdns_history.specs.declared.held.Held.{Held}
use Rattle.mdns_asserts.proofs.Earned.{are_earned}
use Rattle.mdns_question.specs.Refreshing.{AreTimed}
use Rattle.mdns_cache.specs.Lifetimes.{AllHeard}
use Rattle.mdns_records.specs.Visits.{ended_in}
use Rattle.mdns_records.specs.After.{held_after}
use Rattle.mdns_records.proofs.Holding.{after-live}
use Rattle.mdns_asking.proofs.Timed.{are_timed}
use Rattle.mdns_core.proofs.records.HeldData.{data-moved}
use Rattle.mdns_core.specs.InForce.{in_force}
use Rattle.mdns_core.specs.State.{State, Stands}
use Rattle.mdns_core.proofs.records.Bounded.{few-visits}
use Rattle.mdns_core.proofs.step.Standing.{replayed-stands, queued-stands}
use Rattle.mdns_core.proofs.step.Moved.{timed-moved, heard-since}
use Rattle.mdns_core.specs.Kept.{state_of}
use Rattle.mdns_core.specs.Planned.{IsPlan}
use Rattle.mdns_core.specs.Made.{IsMade, asked_of_plan}
use Rattle.mdns_core.proofs.Plans.{carried-plan, ticked-plan}
use Rattle.mdns_core.proofs.Refused.{stays, on_err_refused}
use Rattle.mdns_core.proofs.daemon.Daemon.step.Goals as goal

pub invariant_of-self : goal.invariant_of-self
invariant_of-self g c =
    let kept = c.reserve.ensures.kept c.self.inside.last.moment in
    stays c.self.inside.last.moment c.self.inside.parts.records.held c.reserve.new.self.records.held c.self.inside.parts.asking.questions c.reserve.new.self.asking.questions
    (ap (λ (s : State). s.held) kept) (ap (λ (s : State). s.questions) kept) c.self.invariant

pub returns-in_err-reserve-clause-err : goal.returns-in_err-reserve-clause-err
returns-in_err-reserve-clause-err g c = on_err_refused _ c.from_residual-in_err-reserve.result (c.reserve.ensures.kept c.self.inside.last.moment ∙ c.self.view_is)

pub apply-marks-requires-clause-timed : goal.apply-marks-requires-clause-timed
apply-marks-requires-clause-timed g c =
    let kept = c.reserve.ensures.kept c.self.inside.last.moment in
    (stays c.self.inside.last.moment c.self.inside.parts.records.held c.reserve.new.self.records.held c.self.inside.parts.asking.questions c.reserve.new.self.asking.questions
    (ap (λ (s : State). s.held) kept) (ap (λ (s : State). s.questions) kept) c.self.invariant).3

pub apply-marks-requires-clause-planned : goal.apply-marks-requires-clause-planned
apply-marks-requires-clause-planned g c = (
  c.self.inside.last.moment,
  c.args.event,
  subst (λ (s : State). IsPlan s c.args.when.moment c.args.when.word c.args.event c.in_ok-plan.plan) (sym (c.reserve.ensures.kept c.self.inside.last.moment)) c.in_ok-plan.ensures.plan,
)

pub returns-clause-fits : goal.returns-clause-fits
returns-clause-fits g c = λ history stands.
    let last : ℕ = c.self.inside.last.moment in
    let kept : state_of last c.reserve.new.self ≡ state_of last c.self.inside.parts = c.reserve.ensures.kept last in
    let before : State = state_of last c.reserve.new.self in
    let later : List Held = held_after c.args.when.moment c.args.when.word c.in_ok-plan.plan.heard c.reserve.new.self.records.held in
    let is : IsPlan before c.args.when.moment c.args.when.word c.args.event c.in_ok-plan.plan = subst (λ (s : State). IsPlan s c.args.when.moment c.args.when.word c.args.event c.in_ok-plan.plan) (sym kept) c.in_ok-plan.ensures.plan in
    carried-plan before later c.args.when.moment c.args.when.word c.args.event c.in_ok-plan.plan is c.apply-marks.result (state_of c.args.when.moment c.apply-marks.new.self)
    (c.apply-marks.ensures.made last c.args.event is)
    (subst (λ (s : State). s.last ≤ c.args.when.moment) (sym c.self.view_is) c.requires.later) c.args.when.bound c.requires.no_boot history
    (subst (λ (s : State). Stands s history) (sym (kept ∙ c.self.view_is)) stands)

pub returns-clause-replayed : goal.returns-clause-replayed
returns-clause-replayed g c = λ history session stands attached uncut.
    let fits = returns-clause-fits g c history stands in
    replayed-stands _ _ fits.1 session attached uncut

pub returns-clause-queued : goal.returns-clause-queued
returns-clause-queued g c = λ history session stands uncut.
    let fits = returns-clause-fits g c history stands in
    queued-stands _ _ fits.1 session uncut

pub returns-clause-asserts : goal.returns-clause-asserts
returns-clause-asserts g c = λ history stands. are_earned in_force _ history (returns-clause-fits g c history stands).1.legal

pub invariant_of-self-2 : goal.invariant_of-self-2
invariant_of-self-2 g c =
    let last : ℕ = c.self.inside.last.moment in
    let kept : state_of last c.reserve.new.self ≡ state_of last c.self.inside.parts = c.reserve.ensures.kept last in
    let before : State = state_of last c.reserve.new.self in
    let held : List Held = c.reserve.new.self.records.held in
    let later : List Held = held_after c.args.when.moment c.args.when.word c.in_ok-plan.plan.heard held in
    let is : IsPlan before c.args.when.moment c.args.when.word c.args.event c.in_ok-plan.plan = subst (λ (s : State). IsPlan s c.args.when.moment c.args.when.word c.args.event c.in_ok-plan.plan) (sym kept) c.in_ok-plan.ensures.plan in
    let made : IsMade before later c.args.when.moment c.args.when.word c.in_ok-plan.plan c.apply-marks.result (state_of c.args.when.moment c.apply-marks.new.self) = c.apply-marks.ensures.made last c.args.event is in
    let heard : AllHeard last held = subst (AllHeard last) (sym (ap (λ (s : State). s.held) kept)) c.self.invariant.2 in (
      subst (λ (n : ℕ). n ≤ 32768) (length_permutation c.apply-marks.new.self.records.held later made.moved) is.within,
      c.apply-marks.ensures.live,
      c.apply-marks.ensures.heard (heard-since last c.args.when.moment (subst (λ (s : State). s.last ≤ c.args.when.moment) (sym c.self.view_is) c.requires.later) held heard),
      timed-moved c.apply-marks.new.self.records.held later made.moved c.apply-marks.new.self.asking.questions
          (subst (AreTimed later) (sym made.follow) (are_timed later (asked_of_plan c.args.when.moment c.args.when.word c.in_ok-plan.plan before.questions))),
      data-moved c.apply-marks.new.self.records.held later made.moved is.typed,
    )

pub returns-clause-ticked : goal.returns-clause-ticked
returns-clause-ticked g c = λ history stands tick.
    let last : ℕ = c.self.inside.last.moment in
    let kept : state_of last c.reserve.new.self ≡ state_of last c.self.inside.parts = c.reserve.ensures.kept last in
    let before : State = state_of last c.reserve.new.self in
    let held : List Held = c.reserve.new.self.records.held in
    let later : List Held = held_after c.args.when.moment c.args.when.word c.in_ok-plan.plan.heard held in
    let is : IsPlan before c.args.when.moment c.args.when.word c.args.event c.in_ok-plan.plan = subst (λ (s : State). IsPlan s c.args.when.moment c.args.when.word c.args.event c.in_ok-plan.plan) (sym kept) c.in_ok-plan.ensures.plan in
    ticked-plan before later c.args.when.moment c.args.when.word c.args.event c.in_ok-plan.plan is c.apply-marks.result (state_of c.args.when.moment c.apply-marks.new.self)
    (c.apply-marks.ensures.made last c.args.event is)
    (subst (λ (s : State). s.last ≤ c.args.when.moment) (sym c.self.view_is) c.requires.later) c.args.when.bound c.requires.no_boot history
    (subst (λ (s : State). Stands s history) (sym (kept ∙ c.self.view_is)) stands)
    (after-live c.args.when.moment c.args.when.word c.in_ok-plan.plan.heard held) tick

pub returns-in_err-plan-clause-visits : goal.returns-in_err-plan-clause-visits
returns-in_err-plan-clause-visits g c = λ history entry stands fits.
    let most = few-visits (state_of c.self.inside.last.moment c.self.inside.parts) history (subst (λ (s : State). Stands s history) (sym c.self.view_is) stands) c.args.when.moment c.args.when.word c.args.event
    (subst (λ (s : State). s.last ≤ c.args.when.moment) (sym c.self.view_is) c.requires.later) c.requires.no_boot c.self.invariant.3 entry fits c.args.steps.now c.make_plan.new.steps c.make_plan.ensures.visits in
    omega (arith, most)

pub returns-in_err-reserve-clause-visits : goal.returns-in_err-reserve-clause-visits
returns-in_err-reserve-clause-visits g c = λ history entry stands fits.
    let most = few-visits (state_of c.self.inside.last.moment c.self.inside.parts) history (subst (λ (s : State). Stands s history) (sym c.self.view_is) stands) c.args.when.moment c.args.when.word c.args.event
    (subst (λ (s : State). s.last ≤ c.args.when.moment) (sym c.self.view_is) c.requires.later) c.requires.no_boot c.self.invariant.3 entry fits c.args.steps.now c.make_plan.new.steps c.make_plan.ensures.visits in
    omega (arith, most)

pub returns-clause-visits : goal.returns-clause-visits
returns-clause-visits g c = λ history entry stands fits.
    let kept : state_of c.self.inside.last.moment c.reserve.new.self ≡ state_of c.self.inside.last.moment c.self.inside.parts = c.reserve.ensures.kept c.self.inside.last.moment in
    let same : length (ended_in c.args.when.moment c.reserve.new.self.records.held) ≡ length (ended_in c.args.when.moment c.self.inside.parts.records.held) = ap (λ (s : State). length (ended_in c.args.when.moment s.held)) kept in
    let most = few-visits (state_of c.self.inside.last.moment c.self.inside.parts) history (subst (λ (s : State). Stands s history) (sym c.self.view_is) stands) c.args.when.moment c.args.when.word c.args.event
    (subst (λ (s : State). s.last ≤ c.args.when.moment) (sym c.self.view_is) c.requires.later) c.requires.no_boot c.self.invariant.3 entry fits c.args.steps.now c.make_plan.new.steps c.make_plan.ensures.visits in
    omega (arith, most, same, c.apply-marks.ensures.visits)
