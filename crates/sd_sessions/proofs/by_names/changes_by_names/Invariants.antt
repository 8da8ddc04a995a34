use Rattle.std.proofs.Common.{◌≡◌, take, drop, map}
use Rattle.std.specs.List.{AllByRecursion}
use Rattle.mdns_happened.specs.Told.{told_by}
use Rattle.sd_sessions.specs.Answered.{answered, View}
use Rattle.sd_sessions.specs.Settling.{change_told}
use Rattle.sd_sessions.specs.Kept.{sessions_of, HaveRising, HaveWellFormed}
use Rattle.sd_sessions.specs.Walked.{IsSeen}
use Rattle.sd_sessions.specs.Concerned.{IsMet}
use Rattle.sd_sessions.proofs.by_names.changes_by_names.Given as goal

abbrev pub invariant-loop-session : goal.invariant-loop-session
invariant-loop-session l =
    record {
      made : (earlier later : View) → AllByRecursion (IsSeen (told_by l.happened) earlier later l.around) (sessions_of l.sessions) →
          l.changes.items ≡ map (change_told (told_by l.happened) (answered earlier) (answered later)) (sessions_of (take l.session-index l.sessions));
      met : AllByRecursion (IsMet l.concerned l.around) (sessions_of (drop l.session-index l.sessions));
      formed : HaveWellFormed (sessions_of (drop l.session-index l.sessions));
      rising : HaveRising (sessions_of (drop l.session-index l.sessions));
    }
