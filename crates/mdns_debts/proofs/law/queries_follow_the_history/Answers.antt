-- The clause is a law of the definitions.
use Rattle.mdns_debts.proofs.Followed.{are_followed}
use Rattle.mdns_debts.proofs.law.queries_follow_the_history.Goals as goal

pub returns : goal.returns
returns c = record { followed = are_followed }
