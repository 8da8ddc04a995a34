use Rattle.std.proofs.Common.{◌≡◌, ◌++◌, take}
use Rattle.sd_sessions.specs.Settling.{cuts_of}
use Rattle.sd_sessions.proofs.change.put_cuts.Given as goal

abbrev pub invariant-loop-change : goal.invariant-loop-change
invariant-loop-change l = l.marks ≡ l.initial.marks ++ cuts_of (take l.change-index l.changes)
