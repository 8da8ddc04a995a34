use Rattle.mdns_question.proofs.FirstRefresh.{moment_kept, cause_kept}
use Rattle.mdns_question.proofs.law.kept_points_tell_what_is_due.Goals as goal

pub returns-clause-moment : goal.returns-clause-moment
returns-clause-moment c = moment_kept

pub returns-clause-cause : goal.returns-clause-cause
returns-clause-cause c = cause_kept
