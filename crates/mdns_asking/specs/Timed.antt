-- Questions with the first refresh points of the records that are held. (RFC 6762 5.2)
use Rattle.std.specs.Prelude.{List, map}
use Rattle.mdns_history.specs.declared.held.Held.{Held}
use Rattle.mdns_question.specs.declared.tracked.Tracked.{Tracked}
use Rattle.mdns_question.specs.Refreshing.{first_refresh}

-- a question with the first refresh point of the records that are held
abbrev pub timed : List Held → Tracked → Tracked
timed held one = record one { refresh = first_refresh held one }

-- questions with the first refresh points of the records that are held
abbrev pub all_timed : List Held → List Tracked → List Tracked
all_timed held questions = map (timed held) questions
