use Rattle.std.proofs.Common.{◌∙◌}
use Rattle.plain_items.proofs.LastEntries.{served_last}
use Rattle.plain_items.proofs.served.served_sessions.Goals as goal

pub returns : goal.returns
returns c = c.in_ok-served.ensures ∙ served_last c.args.history.now
