use Rattle.std.proofs.Common.{◌∙◌, map, ap}
use Rattle.lists.specs.Lists.{least}
use Rattle.mdns_question.specs.Refreshing.{moment_of}
use Rattle.mdns_asking.specs.State.{State}
use Rattle.mdns_asking.proofs.Timed.{moments_timed}
use Rattle.mdns_asking.proofs.asking.Asking.first_due.Goals as goal

pub returns-clause-due : goal.returns-clause-due
returns-clause-due c = λ held timed.
    c.first_due.ensures ∙ ap (λ (s : State). least (map moment_of s.questions)) c.self.view_is ∙ ap least (moments_timed held c.args.self.now.questions timed)
