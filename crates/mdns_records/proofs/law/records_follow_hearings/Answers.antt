use Rattle.mdns_records.proofs.Holding.{after-holds, after-live, after-heard, after-permuted}
use Rattle.mdns_records.proofs.law.records_follow_hearings.Goals as goal

pub returns-clause-holds : goal.returns-clause-holds
returns-clause-holds c = λ held past before moment word heard. after-holds moment word heard held past before

pub returns-clause-live : goal.returns-clause-live
returns-clause-live c = λ held moment word heard. after-live moment word heard held

pub returns-clause-heard : goal.returns-clause-heard
returns-clause-heard c = λ held moment word heard. after-heard moment word heard held

pub returns-clause-permuted : goal.returns-clause-permuted
returns-clause-permuted c = λ one other moment word heard. after-permuted moment word heard one other
