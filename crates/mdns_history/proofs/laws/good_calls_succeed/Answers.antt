-- The clause is a law of the definitions.
use Rattle.mdns_history.proofs.GoodCalls.{good_calls_succeed}
use Rattle.mdns_history.proofs.laws.good_calls_succeed.Goals as goal

pub returns : goal.returns
returns c = good_calls_succeed
