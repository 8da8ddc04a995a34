use Rattle.std.proofs.Common.{◌∙◌, ◌++◌, List, ap, sym, append-nil}
use Rattle.mdns_history.specs.declared.entry.Sent.{Sent}
use Rattle.mdns_claims.specs.Later.{groups_behind}
use Rattle.mdns_responding.proofs.Ended.{no_responses}
use Rattle.mdns_responding.proofs.responder.Responder.put_responses.Goals as goal

pub returns-in_default : goal.returns-in_default
returns-in_default c =
    sym (append-nil c.args.sent.now)
    ∙ ap (λ (sent : List Sent). c.args.sent.now ++ sent)
    (sym (no_responses c.args.self.now.behind.now.means.happened.now c.args.self.now.behind.now.means.moment c.args.self.now.lasts.now.lasts c.args.self.now.owing.now.queries c.args.self.now.behind.now.groups.now
    (groups_behind c.args.self.now.behind.now) c.in_default.not-Ticked c.in_default.not-Called c.in_default.not-Detached))
