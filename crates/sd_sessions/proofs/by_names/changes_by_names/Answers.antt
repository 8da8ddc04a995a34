use Rattle.std.proofs.Common.{◌∙◌, ◌++◌, ◌∷◌, [], ℕ, List, ap, map, subst, sym}
use Rattle.std.proofs.lemmas.List.{take_all}
use Rattle.mdns_happened.specs.Told.{Told, told_by}
use Rattle.sd_sessions.specs.Answered.{answered}
use Rattle.sd_sessions.specs.declared.session.SessionState.{SessionState}
use Rattle.sd_sessions.specs.Settling.{own_call, change_told}
use Rattle.sd_sessions.specs.Kept.{session_of, sessions_of, HaveRising, HaveWellFormed}
use Rattle.sd_sessions.specs.Walked.{IsSeen}
use Rattle.std.specs.List.{AllByRecursion}
use Rattle.sd_sessions.specs.Concerned.{IsCovered, IsMet, IsOwnCovered}
use Rattle.sd_sessions.proofs.Covered.{call-covered, session-covered}
use Rattle.sd_sessions.proofs.Nexts.{all-at, drop-next, map_map-next}
use Rattle.sd_sessions.proofs.by_names.changes_by_names.Goals as goal

pub loop-session-preserved : goal.loop-session-preserved
loop-session-preserved c =
    let told : Told = told_by c.args.happened.now in
    record {
      made = λ earlier later seen.
          c.in_ok-push.ensures.items
          ∙ (λ i. c.loop-session.invariant.made earlier later seen i ++ c.in_ok-change_by_names.ensures earlier later
          (all-at (IsSeen told earlier later c.args.around.now) session_of c.args.sessions.now c.loop-session.session-index c.session-item.result c.loop-session-test.true c.session-item.is seen) i ∷ [])
          ∙ sym (map_map-next (change_told told (answered earlier) (answered later)) session_of c.args.sessions.now c.loop-session.session-index c.session-item.result c.loop-session-test.true c.session-item.is);
      met = (subst (λ (l : List SessionState). AllByRecursion (IsMet c.args.concerned.now c.args.around.now) (sessions_of l)) (drop-next c.args.sessions.now c.loop-session.session-index c.session-item.result c.loop-session-test.true c.session-item.is) c.loop-session.invariant.met).1;
      formed = (subst (λ (l : List SessionState). HaveWellFormed (sessions_of l)) (drop-next c.args.sessions.now c.loop-session.session-index c.session-item.result c.loop-session-test.true c.session-item.is) c.loop-session.invariant.formed).1;
      rising = (subst (λ (l : List SessionState). HaveRising (sessions_of l)) (drop-next c.args.sessions.now c.loop-session.session-index c.session-item.result c.loop-session-test.true c.session-item.is) c.loop-session.invariant.rising).1;
    }

pub change_by_names-requires-clause-covered : goal.change_by_names-requires-clause-covered
change_by_names-requires-clause-covered c =
    subst (λ (numbers : List ℕ). AllByRecursion (IsCovered numbers c.args.around.now c.session-item.result.operations.items) c.session-item.result.operations.items) (sym c.deref.ensures.value)
    (session-covered c.args.concerned.now c.args.around.now (session_of c.session-item.result) c.in_ok-numbers.numbers.items c.in_ok-numbers.ensures
    (subst (λ (l : List SessionState). AllByRecursion (IsMet c.args.concerned.now c.args.around.now) (sessions_of l))
    (drop-next c.args.sessions.now c.loop-session.session-index c.session-item.result c.loop-session-test.true c.session-item.is) c.loop-session.invariant.met).0)

pub change_by_names-requires-clause-called : goal.change_by_names-requires-clause-called
change_by_names-requires-clause-called c =
    subst (λ (numbers : List ℕ). IsOwnCovered numbers (own_call (told_by c.args.happened.now).call c.session-item.result.number)) (sym c.deref.ensures.value)
    (call-covered c.args.concerned.now c.args.around.now (session_of c.session-item.result) c.in_ok-numbers.numbers.items c.in_ok-numbers.ensures (told_by c.args.happened.now).call c.requires.called)

pub returns : goal.returns
returns c = λ earlier later seen.
    c.loop-session.invariant.made earlier later seen
    ∙ ap (λ (l : List SessionState). map (change_told (told_by c.args.happened.now) (answered earlier) (answered later)) (sessions_of l)) (take_all c.loop-session.session-index c.args.sessions.now c.loop-session-test.false)
