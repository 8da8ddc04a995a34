use Rattle.std.proofs.Common.{◌≡◌, ◌∙◌, ℕ, ◌<◌, List, IsPermutation, map, ap, subst, sym}
use Rattle.std.specs.Option.{unwrap_or}
use Rattle.mdns_happened.specs.Told.{Told, told_by}
use Rattle.sd_sessions.specs.Answered.{Answering}
use Rattle.sd_index.specs.Asked.{askers_of}
use Rattle.sd_sessions.specs.declared.session.SessionState.{SessionState}
use Rattle.sd_sessions.specs.declared.change.SessionChange.{SessionChange}
use Rattle.sd_sessions.specs.Sessions.{Session, State}
use Rattle.sd_sessions.specs.Settling.{change_told, sessions_told, shifted_told}
use Rattle.sd_sessions.specs.Kept.{sessions_of, numbers_of, AreKept, HasRoom, HavePlaces, HaveRising, HaveWellFormed, IsFresh, IsRising}
use Rattle.sd_sessions.specs.Indexed.{askers_in, askers_after, AreIndexed}
use Rattle.sd_sessions.proofs.IndexLeft.{askers-left}
use Rattle.sd_sessions.proofs.Rooms.{room-kept}
use Rattle.sd_sessions.proofs.Settled.{planned-fit}
use Rattle.sd_sessions.proofs.KeptOn.{kept-left}
use Rattle.sd_sessions.proofs.sessions.Sessions.apply.Goals as goal

pub carry_out-outcome-requires-clause-room : goal.carry_out-outcome-requires-clause-room
carry_out-outcome-requires-clause-room c =
    room-kept c.self.inside.attached.items c.args.plan.changes.items (subst (λ (s : State). HasRoom s.room c.args.plan.changes.items) (sym c.self.view_is) c.requires.ready.queues)
    (subst (λ (s : State). HavePlaces s.starts c.args.plan.changes.items) (sym c.self.view_is) c.requires.ready.starts)

pub carry_out-outcome-requires-clause-fit : goal.carry_out-outcome-requires-clause-fit
carry_out-outcome-requires-clause-fit c =
    let told : Told = told_by c.args.happened.now in
    planned-fit told c.requires.planned.0 c.requires.planned.1 (sessions_of c.self.inside.attached.items) c.args.plan.changes.items c.self.invariant.0.rising
    (c.requires.planned.2.changes ∙ ap (λ (s : State). map (change_told told c.requires.planned.0 c.requires.planned.1) s.sessions) (sym c.self.view_is))

pub invariant_of-self : goal.invariant_of-self
invariant_of-self c =
    let told : Told = told_by c.args.happened.now in
    let earlier : Answering = c.requires.planned.0 in
    let later : Answering = c.requires.planned.1 in
    let ss : List Session = sessions_of c.self.inside.attached.items in
    let changed : c.args.plan.changes.items ≡ map (change_told told earlier later) ss =
    c.requires.planned.2.changes ∙ ap (λ (s : State). map (change_told told earlier later) s.sessions) (sym c.self.view_is) in
    let fresh : IsFresh told ss = subst (λ (s : State). IsFresh told s.sessions) (sym c.self.view_is) c.requires.planned.2.fresh in
    let left : sessions_of c.carry_out-outcome.new.sessions.items ≡ sessions_told told.taking (shifted_told told ss (map (change_told told earlier later) ss)) =
    c.carry_out-outcome.ensures.sessions ∙ ap (λ (cs : List SessionChange). sessions_told told.taking (shifted_told told ss cs)) changed in
    let count : c.opened_after-self-inside.result ≡ unwrap_or told.opened c.self.inside.opened = c.opened_after-self-inside.ensures in
    let kept : AreKept c.opened_after-self-inside.result (sessions_of c.carry_out-outcome.new.sessions.items) =
    subst (λ (n : ℕ). AreKept n (sessions_of c.carry_out-outcome.new.sessions.items)) (sym count)
    (subst (AreKept (unwrap_or told.opened c.self.inside.opened)) (sym left) (kept-left told earlier later c.self.inside.opened ss c.requires.planned.2.call fresh c.self.invariant.0)) in
    let same : c.deref.result.now ≡ c.self.inside.attached.items = c.deref.ensures.value in
    let refiled : AreIndexed c.refile.new.askers.entries (sessions_of c.carry_out-outcome.new.sessions.items) =
    λ owner.
    subst (λ (xs : List Session). IsPermutation (askers_of owner c.refile.new.askers.entries) (askers_in owner xs)) (sym left)
    (subst (IsPermutation (askers_of owner c.refile.new.askers.entries)) (sym (askers-left told earlier later owner ss))
    (subst (λ (xs : List SessionState). IsPermutation (askers_of owner c.refile.new.askers.entries) (askers_after told owner (sessions_of xs))) same
    (c.refile.ensures owner (subst (λ (xs : List SessionState). IsPermutation (askers_of owner c.self.inside.askers.entries) (askers_in owner (sessions_of xs))) (sym same) (c.self.invariant.1 owner))))) in
    (kept, refiled)

pub refile-requires-clause-formed : goal.refile-requires-clause-formed
refile-requires-clause-formed c = subst (λ (xs : List SessionState). HaveWellFormed (sessions_of xs)) (sym c.deref.ensures.value) c.self.invariant.0.formed

pub refile-requires-clause-rising : goal.refile-requires-clause-rising
refile-requires-clause-rising c = subst (λ (xs : List SessionState). HaveRising (sessions_of xs)) (sym c.deref.ensures.value) c.self.invariant.0.rising

pub refile-requires-clause-numbers : goal.refile-requires-clause-numbers
refile-requires-clause-numbers c = subst (λ (xs : List SessionState). IsRising (numbers_of (sessions_of xs))) (sym c.deref.ensures.value) c.self.invariant.0.numbers

pub refile-requires-clause-call : goal.refile-requires-clause-call
refile-requires-clause-call c = c.requires.planned.2.call

pub refile-requires-clause-room : goal.refile-requires-clause-room
refile-requires-clause-room c = λ called. subst (λ (s : State). 0 < s.filing) (sym c.self.view_is) (c.requires.ready.filing called)
