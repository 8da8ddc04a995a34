-- What each entry of a legal history asserts is earned.
use Rattle.mdns_asserts.specs.Earned.{AssertionsAreEarned}
use Rattle.mdns_asserts.proofs.Sure.{asserted_sure}
use Rattle.mdns_asserts.proofs.Unanswered.{sure_unanswered}
use Rattle.mdns_asserts.proofs.Whole.{probes_whole}
use Rattle.mdns_asserts.proofs.Goodbyes.{goodbyes_own}

pub are_earned : AssertionsAreEarned
are_earned duties entry past legal = record {
  sure = asserted_sure duties entry past legal;
  unanswered = sure_unanswered duties entry past legal;
  probes = probes_whole duties entry past legal;
  goodbyes = goodbyes_own duties entry past legal;
}
