use Rattle.mdns_core.proofs.step.Stepped.{stepped}
use Rattle.mdns_core.proofs.step.Standing.{due-stands}
use Rattle.mdns_core.proofs.law.steps_follow_the_history.Goals as goal

pub returns-clause-steps : goal.returns-clause-steps
returns-clause-steps c = stepped

pub returns-clause-due : goal.returns-clause-due
returns-clause-due c = due-stands
