use Rattle.txt_record.proofs.Places.{HasPassed}
use Rattle.txt_record.proofs.txt.Txt.place_of.Given as goal

abbrev pub invariant-loop-string : goal.invariant-loop-string
invariant-loop-string l =
    (goal.iterator-loop-string).can_next l.string-iterator × (goal.iterator-loop-string).is_finite l.string-iterator
    × HasPassed l.key l.self l.string-iterator l.start
