use Rattle.std.proofs.Common.{◌∙◌, sym}
use Rattle.mdns_claims.specs.Seen.{means_in}
use Rattle.mdns_claims.proofs.Sure.{ours_stay}
use Rattle.mdns_claims.proofs.behind.Behind.keeps_own.Goals as goal

pub returns-clause-kept : goal.returns-clause-kept
returns-clause-kept c = λ yes. ours_stay (means_in c.args.self.now.means) c.args.self.now.groups.now c.args.self.now.deed.now (sym c.takes_none.ensures ∙ yes)
