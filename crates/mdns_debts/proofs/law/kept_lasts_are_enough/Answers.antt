-- The clauses are laws of the definitions.
use Rattle.mdns_debts.proofs.Kept.{lasts_tell_no_more}
use Rattle.mdns_debts.proofs.Ttls.{ours_have_own_ttls}
use Rattle.mdns_debts.proofs.law.kept_lasts_are_enough.Goals as goal

pub returns : goal.returns
returns c = record { enough = lasts_tell_no_more; ttls = ours_have_own_ttls }
