use Rattle.std.proofs.Common.{◌≡◌, ◌++◌, drop}
use Rattle.std.specs.Option.{option_to_list}
use Rattle.mdns_claims.specs.Later.{begun_by, later_from}
use Rattle.mdns_claimants.specs.Owned.{registered_answers}
use Rattle.mdns_claims.specs.Seen.{means_in}
use Rattle.mdns_claims.proofs.behind.Behind.later_answer.Given as goal

abbrev pub invariant-loop-place : goal.invariant-loop-place
invariant-loop-place l =
    registered_answers l.session l.op (later_from (means_in l.self.means) l.self.deed.now l.place (drop l.place l.groups) ++ option_to_list (begun_by l.self.deed.now))
    ≡ registered_answers l.session l.op (later_from (means_in l.self.means) l.self.deed.now 0 l.groups ++ option_to_list (begun_by l.self.deed.now))
