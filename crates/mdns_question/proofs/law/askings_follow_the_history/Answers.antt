use Rattle.mdns_question.proofs.Following.{due_follows, begun_follows, asked_follows, kept_follows}
use Rattle.mdns_question.proofs.law.askings_follow_the_history.Goals as goal

pub returns-clause-due : goal.returns-clause-due
returns-clause-due c = due_follows

pub returns-clause-begun : goal.returns-clause-begun
returns-clause-begun c = begun_follows

pub returns-clause-asked : goal.returns-clause-asked
returns-clause-asked c = asked_follows

pub returns-clause-kept : goal.returns-clause-kept
returns-clause-kept c = kept_follows
