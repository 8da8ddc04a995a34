use Rattle.sd_sessions.proofs.Follows.{sessions_follow}
use Rattle.sd_sessions.proofs.law.sessions_follow_the_history.Goals as goal

pub returns : goal.returns
returns c = sessions_follow
