use Rattle.std.proofs.Common.{◌++◌, List, IsPermutation, subst, sym}
use Rattle.mdns_history.specs.Sessions.{Accepted}
use Rattle.mdns_history.specs.declared.operation.Operation.{Operation}
use Rattle.sd_index.specs.declared.asker.Asker.{Asker}
use Rattle.sd_index.specs.Asked.{askers_of}
use Rattle.sd_sessions.specs.Codes.{has_number}
use Rattle.sd_sessions.specs.Sessions.{Session}
use Rattle.sd_sessions.specs.Kept.{session_of, sessions_of, AreWellFormed}
use Rattle.sd_operations.specs.Operations.{AreRising}
use Rattle.sd_sessions.specs.Indexed.{asking_of}
use Rattle.sd_sessions.proofs.Asking.{holds-found}
use Rattle.sd_sessions.proofs.IndexLeft.{call-filed, call-missed}
use Rattle.sd_sessions.proofs.index.file_call.Goals as goal

pub file_request-requires-clause-formed : goal.file_request-requires-clause-formed
file_request-requires-clause-formed c =
    subst AreWellFormed (sym c.as_slice.ensures.value)
    (holds-found (λ (s : Session). AreWellFormed s.operations) (has_number c.args.session) (sessions_of c.args.sessions.now) (session_of c.in-Some.state.now) c.requires.formed (sym c.in-Some.ensures))

pub file_request-requires-clause-rising : goal.file_request-requires-clause-rising
file_request-requires-clause-rising c =
    subst AreRising (sym c.as_slice.ensures.value)
    (holds-found (λ (s : Session). AreRising s.operations) (has_number c.args.session) (sessions_of c.args.sessions.now) (session_of c.in-Some.state.now) c.requires.rising (sym c.in-Some.ensures))

pub returns-in-Some : goal.returns-in-Some
returns-in-Some c = λ owner h.
    let call : Accepted = record { session = c.args.session; op = c.args.op; request = c.args.request.now } in
    call-filed call owner (sessions_of c.args.sessions.now) (session_of c.in-Some.state.now) (askers_of owner c.args.askers.now.entries) (askers_of owner c.file_request.new.askers.entries)
    c.requires.numbers (sym c.in-Some.ensures)
    (subst (λ (os : List Operation). (rest : List Asker) → IsPermutation (askers_of owner c.args.askers.now.entries) (asking_of owner os ++ rest) →
    IsPermutation (askers_of owner c.file_request.new.askers.entries) (asking_of owner (Rattle.mdns_history.specs.Sessions.after_request c.args.session c.args.op c.args.request.now os) ++ rest)) c.as_slice.ensures.value (c.file_request.ensures owner)) h

pub returns-in_default : goal.returns-in_default
returns-in_default c = λ owner h.
    let call : Accepted = record { session = c.args.session; op = c.args.op; request = c.args.request.now } in
    subst (IsPermutation (askers_of owner c.args.askers.now.entries)) (sym (call-missed call owner (sessions_of c.args.sessions.now) (sym c.in_default.ensures))) h
