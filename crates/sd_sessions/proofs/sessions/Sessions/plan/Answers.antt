use Rattle.std.proofs.Common.{◌≡◌, ◌∙◌, List, ap, map, subst, sym}
use Rattle.std.specs.List.{AllByRecursion}
use Rattle.mdns_happened.specs.Told.{Told, told_by}
use Rattle.sd_index.specs.declared.asker.Asker.{Asker}
use Rattle.sd_sessions.specs.declared.session.SessionState.{SessionState}
use Rattle.sd_sessions.specs.Concerned.{IsCallMet, IsMet}
use Rattle.sd_sessions.proofs.Covered.{all-met}
use Rattle.sd_sessions.specs.Answered.{answered}
use Rattle.sd_sessions.specs.Sessions.{Session, State}
use Rattle.sd_sessions.specs.Settling.{change_told}
use Rattle.sd_sessions.specs.Kept.{sessions_of, AreKept, IsFresh}
use Rattle.sd_sessions.specs.Walked.{IsSeen}
use Rattle.sd_sessions.proofs.Fresh.{told-formed, told-fresh}
use Rattle.sd_sessions.proofs.Seen.{all-seen}
use Rattle.sd_sessions.proofs.sessions.Sessions.plan.Goals as goal

pub changes_by_names-requires-clause-call : goal.changes_by_names-requires-clause-call
changes_by_names-requires-clause-call c = told-formed (told_by c.args.happened.now) c.args.self.now c.requires

pub changes_by_names-requires-clause-met : goal.changes_by_names-requires-clause-met
changes_by_names-requires-clause-met c =
    subst (λ (states : List SessionState). AllByRecursion (IsMet c.deref-2.result.now c.args.around.now) (sessions_of states)) (sym c.deref.ensures.value)
    (subst (λ (concerned : List Asker). AllByRecursion (IsMet concerned c.args.around.now) (sessions_of c.self.inside.attached.items)) (sym c.deref-2.ensures.value)
    (all-met c.self.inside.askers.entries c.in_ok-concerned.concerned.items c.args.around.now c.in_ok-concerned.ensures.walked c.in_ok-concerned.ensures.told
    (sessions_of c.self.inside.attached.items) c.self.invariant.1 c.self.invariant.0.own))

pub changes_by_names-requires-clause-called : goal.changes_by_names-requires-clause-called
changes_by_names-requires-clause-called c =
    subst (λ (concerned : List Asker). IsCallMet concerned (told_by c.args.happened.now).call) (sym c.deref-2.ensures.value) c.in_ok-concerned.ensures.call

pub returns : goal.returns
returns c = λ earlier later are known called beside.
    let told : Told = told_by c.args.happened.now in
    let kept : AreKept c.args.self.now.opened c.args.self.now.sessions = subst (λ (s : State). AreKept s.opened s.sessions) c.self.view_is c.self.invariant.0 in
    let fresh : IsFresh told c.args.self.now.sessions = told-fresh told c.args.self.now c.requires kept in
    let seen : AllByRecursion (IsSeen told earlier later c.args.around.now) c.args.self.now.sessions = all-seen told earlier later c.args.around.now c.args.self.now.sessions are known called beside fresh.operation kept.rising in
    let same : sessions_of c.deref.result.now ≡ c.args.self.now.sessions = ap sessions_of c.deref.ensures.value ∙ ap (λ (s : State). s.sessions) c.self.view_is in
    record {
      changes = c.in_ok-changes.ensures earlier later (subst (AllByRecursion (IsSeen told earlier later c.args.around.now)) (sym same) seen)
          ∙ ap (λ (ss : List Session). map (change_told told (answered earlier) (answered later)) ss) same;
      call = told-formed told c.args.self.now c.requires;
      fresh = fresh;
      empty = c.in_ok-taken.ensures.items;
      room = c.in_ok-taken.ensures.room;
    }
