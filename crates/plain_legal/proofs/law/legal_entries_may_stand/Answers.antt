use Rattle.plain_legal.proofs.Standing.{stands}
use Rattle.plain_legal.proofs.law.legal_entries_may_stand.Goals as goal

pub returns : goal.returns
returns c = stands
