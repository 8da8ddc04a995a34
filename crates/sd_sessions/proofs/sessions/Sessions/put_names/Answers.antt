use Rattle.std.proofs.Common.{subst}
use Rattle.sd_sessions.specs.Sessions.{State}
use Rattle.sd_sessions.specs.Kept.{sessions_of}
use Rattle.sd_sessions.specs.Walked.{AreNamed}
use Rattle.mdns_cache.specs.Ended.{is_among}
use Rattle.mdns_happened.specs.Told.{told_by}
use Rattle.sd_sessions.specs.Put.{is_called}
use Rattle.sd_sessions.proofs.PutOnly.{only-also}
use Rattle.sd_sessions.proofs.IndexNamed.{named-indexed}
use Rattle.sd_sessions.proofs.Named.{sessions-named-more}
use Rattle.sd_sessions.proofs.sessions.Sessions.put_names.Goals as goal

pub returns-clause-asked : goal.returns-clause-asked
returns-clause-asked c =
    sessions-named-more c.args.touched.now c.put_touched.new.names.items c.put_called.new.names.items c.in_ok-put_called.ensures.kept c.args.self.now.sessions
    (subst (λ (s : State). AreNamed c.args.touched.now c.put_touched.new.names.items s.sessions) c.self.view_is
    (named-indexed c.self.inside.askers.entries c.args.touched.now c.put_touched.new.names.items c.in_ok-put_touched.ensures.put (sessions_of c.self.inside.attached.items) c.self.invariant.1))

pub returns-clause-only : goal.returns-clause-only
returns-clause-only c =
    only-also (is_among c.args.touched.now) (is_called (told_by c.args.happened.now).call) c.args.names.now.items c.put_touched.new.names.items c.put_called.new.names.items
    c.in_ok-put_touched.ensures.only c.in_ok-put_called.ensures.only
