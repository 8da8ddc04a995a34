-- What the type of the asked questions means.
use Rattle.std.specs.Prelude.{◌<◌, List}
use Rattle.std.specs.List.{AllByRecursion}
use Rattle.mdns_question.specs.declared.tracked.Tracked.{Tracked}

-- each question has a gap in its series
abbrev pub HaveGaps : List Tracked → Type 0
HaveGaps questions = AllByRecursion (λ (one : Tracked). 0 < one.gap) questions
