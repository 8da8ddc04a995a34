use denote.Text.{Utf8}
use denote.Shadow.{shadow}
use Rattle.play_tests.proofs.running.lines_with.Given as goal

-- The moment is text at each turn.
abbrev pub invariant-loop-line : goal.invariant-loop-line
invariant-loop-line l =
    (goal.iterator-loop-line).can_next l.line-iterator ×
    (goal.iterator-loop-line).is_finite l.line-iterator ×
    shadow (Utf8 l.moment)
