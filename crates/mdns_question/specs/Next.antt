-- The first moment at which a question is due. (RFC 6762 5.2)
use Rattle.std.specs.Prelude.{ℕ, nat_lt, Bool, ◌&&◌, List, [], filter, if◌then◌else◌}
use Rattle.std.specs.List.{flat_map}
use Rattle.std.specs.Option.{option_to_list}
use Rattle.lists.specs.Lists.{least_of}
use Rattle.dns_record.specs.Records.{matches}
use Rattle.mdns_history.specs.declared.held.Held.{Held}
use Rattle.mdns_history.specs.Lifetimes.{is_uncut}
use Rattle.mdns_history.specs.Asking.{refresh_points, is_behind}
use Rattle.mdns_question.specs.declared.tracked.Tracked.{Tracked}

-- whether a record answers a question and may be refreshed
abbrev pub is_wanted : Tracked → Held → Bool
is_wanted one told = matches one.key told.rr && is_uncut told

-- whether a refresh point of a record lies in its life, behind the start and the last asking of a question
abbrev pub is_open : Tracked → Held → ℕ → Bool
is_open one told point = nat_lt point told.end && nat_lt one.start point && is_behind point (option_to_list one.last)

-- the refresh points of a record that call for an asking of a question, once they have come
abbrev pub open_in : Tracked → Held → List ℕ
open_in one told = if is_wanted one told then filter (is_open one told) (refresh_points told) else []

-- the first moment at which a question is due: in its series, or at such a point
abbrev pub next_of : List Held → Tracked → ℕ
next_of held one = least_of one.next (flat_map (open_in one) held)
