use Rattle.std.proofs.Common.{rules, refl, true}
use Rattle.mdns_server.proofs.Counting.{faults_none}
use Rattle.mdns_server.proofs.Opened.{opens_none, opens_not}
use Rattle.mdns_server.proofs.accepting.accept_one.Goals as goal

pub returns-in-Ok-None-clause-opens : goal.returns-in-Ok-None-clause-opens
returns-in-Ok-None-clause-opens g c = opens_none _ _ _ true (λ _. search rules)

pub returns-in-Ok-None-clause-place : goal.returns-in-Ok-None-clause-place
returns-in-Ok-None-clause-place g c = faults_none _

pub returns-in-Err-clause-opens : goal.returns-in-Err-clause-opens
returns-in-Err-clause-opens g c = opens_not _ _ _ _ refl

pub returns-in-Err-clause-place : goal.returns-in-Err-clause-place
returns-in-Err-clause-place g c = faults_none _

pub returns-in-Some-clause-opens : goal.returns-in-Some-clause-opens
returns-in-Some-clause-opens g c = opens_not _ _ _ _ refl

pub returns-in-Some-clause-place : goal.returns-in-Some-clause-place
returns-in-Some-clause-place g c = faults_none _

pub returns-in-Link-clause-opens : goal.returns-in-Link-clause-opens
returns-in-Link-clause-opens g c = opens_not _ _ _ _ (search rules)
