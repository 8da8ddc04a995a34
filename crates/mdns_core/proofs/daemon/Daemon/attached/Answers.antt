use Rattle.std.proofs.Common.{◌∙◌, ap}
use Rattle.std.specs.List.{find}
use Rattle.std.specs.Option.{is_some}
use Rattle.mdns_core.specs.State.{State}
use Rattle.sd_sessions.specs.Codes.{has_number}
use Rattle.mdns_core.proofs.step.Standing.{attached-stands}
use Rattle.mdns_core.proofs.daemon.Daemon.attached.Goals as goal

pub returns-clause-attached : goal.returns-clause-attached
returns-clause-attached c = λ history stands.
    c.attached.ensures ∙ ap (λ (s : State). is_some (find (has_number c.args.session) s.sessions)) c.self.view_is ∙ attached-stands c.args.self.now history stands c.args.session
