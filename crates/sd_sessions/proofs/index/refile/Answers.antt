use Rattle.std.proofs.Common.{◌≡◌, Some, None, IsPermutation, ap, rules, subst, sym}
use Rattle.mdns_history.specs.Sessions.{Accepted}
use Rattle.mdns_happened.specs.declared.happened.Happened.{Happened}
use Rattle.mdns_happened.specs.Told.{told_by}
use Rattle.sd_index.specs.Asked.{askers_of}
use Rattle.sd_sessions.specs.Kept.{sessions_of}
use Rattle.sd_sessions.proofs.IndexLeft.{call-left}
use Rattle.sd_sessions.proofs.index.refile.Goals as goal

pub returns-in-Called-default-default-default-eq0 : goal.returns-in-Called-default-default-default-eq0
returns-in-Called-default-default-default-eq0 c = λ owner h.
    let call : Accepted = record { session = c.in-Called-default-default-default-eq0.session; op = c.in-Called-default-default-default-eq0.op; request = c.in-Called-default-default-default-eq0.request.now } in
    let called : (told_by c.args.happened.now).call ≡ Some call = search rules in
    let undetached : (told_by c.args.happened.now).detached ≡ None = ap (λ (h : Happened). (told_by h).detached) c.in-Called-default-default-default-eq0.is in
    subst (IsPermutation (askers_of owner c.file_call.new.askers.entries)) (sym (call-left (told_by c.args.happened.now) call owner (sessions_of c.args.sessions.now) called undetached)) (c.file_call.ensures owner h)
