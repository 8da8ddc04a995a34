use Rattle.std.proofs.Common.{◌++◌, List, IsPermutation, subst, sym}
use Rattle.mdns_history.specs.declared.operation.Operation.{Operation}
use Rattle.sd_index.specs.declared.asker.Asker.{Asker}
use Rattle.sd_index.specs.Asked.{askers_of}
use Rattle.sd_sessions.specs.Codes.{has_number}
use Rattle.sd_sessions.specs.Sessions.{Session}
use Rattle.sd_sessions.specs.Kept.{session_of, sessions_of, AreWellFormed}
use Rattle.sd_sessions.specs.Indexed.{asking_of, askers_in}
use Rattle.sd_sessions.proofs.Asking.{holds-found}
use Rattle.sd_sessions.proofs.IndexLeft.{end-filed, end-missed}
use Rattle.sd_sessions.proofs.index.take_session.Goals as goal

pub take_all-requires : goal.take_all-requires
take_all-requires c =
    subst AreWellFormed (sym c.as_slice.ensures.value)
    (holds-found (λ (s : Session). AreWellFormed s.operations) (has_number c.args.session) (sessions_of c.args.sessions.now) (session_of c.in-Some.state.now) c.requires.formed (sym c.in-Some.ensures))

pub returns-in-Some : goal.returns-in-Some
returns-in-Some c = λ owner h.
    end-filed c.args.session owner (sessions_of c.args.sessions.now) (session_of c.in-Some.state.now) (askers_of owner c.args.askers.now.entries) (askers_of owner c.take_all.new.askers.entries)
    c.requires.numbers (sym c.in-Some.ensures)
    (subst (λ (os : List Operation). (rest : List Asker) → IsPermutation (askers_of owner c.args.askers.now.entries) (asking_of owner os ++ rest) →
    IsPermutation (askers_of owner c.take_all.new.askers.entries) rest) c.as_slice.ensures.value (c.take_all.ensures owner)) h

pub returns-in_default : goal.returns-in_default
returns-in_default c = λ owner h.
    subst (λ (ss : List Session). IsPermutation (askers_of owner c.args.askers.now.entries) (askers_in owner ss)) (sym (end-missed c.args.session (sessions_of c.args.sessions.now) (sym c.in_default.ensures))) h
