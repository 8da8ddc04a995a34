-- Which questions have users, how often each was asked, and which are due. (RFC 6762 5.2)
use Rattle.std.specs.Prelude.{ℕ, ◌+◌, ◌-◌, ◌*◌, ◌^◌, nat_le, nat_lt, min, Bool, ◌&&◌, List, [], map, filter, Option, Some, None, if◌then◌else◌}
use Rattle.std.specs.List.{list_any, flat_map, filter_map}
use Rattle.std.specs.Option.{option_map, option_to_list}
use Rattle.std.specs.Ordering.{is_lt}
use Rattle.std.specs.declared.cmp.Ordering.{Ordering}
use Rattle.lists.specs.Lists.{insert_by}
use Rattle.dns_record.specs.declared.record.Key.{Key}
use Rattle.dns_record.specs.Records.{key_eq, key_cmp, matches}
use Rattle.mdns_history.specs.declared.mark.Cause.{Cause}
use Rattle.mdns_history.specs.declared.mark.Cause.TheVariants as cause
use Rattle.mdns_history.specs.declared.held.Held.{Held}
use Rattle.mdns_history.specs.Lifetimes.{is_live_at, is_uncut}
use Rattle.mdns_history.specs.Questions.{Active}
use Rattle.mdns_history.specs.Asking.{is_counted, next_in_series, series_gap, refresh_points, calls_at}
use Rattle.mdns_question.specs.declared.tracked.Tracked.{Tracked}
use Rattle.mdns_question.specs.Contents.{Contents}

-- the question as the definitions of asking see it
abbrev pub active_of : Tracked → Active
active_of one = record { key = one.key; start = one.start; word = one.word }

-- whether a tracked question is this one
abbrev pub is_for : Key → Tracked → Bool
is_for question one = key_eq question one.key

-- the order of tracked questions: by folded name, then by type
abbrev pub tracked_cmp : Tracked → Tracked → Ordering
tracked_cmp left right = key_cmp left.key right.key

-- whether a tracked question comes before this one
abbrev pub is_before : Key → Tracked → Bool
is_before question one = is_lt (key_cmp one.key question)

-- a question with its first user, who gives moment, word and spelling; it was never asked, and no refresh point was told of it
abbrev pub begun : ℕ → ℕ → Key → Tracked
begun moment word question = record {
  key = question;
  start = moment;
  word = word;
  users = 1;
  next = next_in_series (record { key = question; start = moment; word = word }) [];
  gap = series_gap 1;
  last = None;
  refresh = None;
}

-- one user more: a count stays at its last value, which is past what a legal history reaches
abbrev pub one_more : ℕ → ℕ
one_more users = min (users + 1) (2 ^ 64 - 1)

-- a tracked question with one user more, if it is this one
abbrev pub used_more : Key → Tracked → Tracked
used_more question one = record one { users = if is_for question one then one_more one.users else one.users }

-- the same with one less
abbrev pub used_less : Key → Tracked → Tracked
used_less question one = record one { users = if is_for question one then one.users - 1 else one.users }

-- the questions after one user more of a question: what is there gets a user more, and what isn't begins, in its place
abbrev pub with_user : ℕ → ℕ → Key → List Tracked → List Tracked
with_user moment word question tracked =
    if list_any (is_for question) tracked then map (used_more question) tracked else insert_by tracked_cmp (begun moment word question) tracked

-- whether a tracked question has a user
abbrev pub is_used : Tracked → Bool
is_used one = nat_lt 0 one.users

-- the questions after one user less: a question ends with its last
abbrev pub without_user : Key → List Tracked → List Tracked
without_user question tracked = filter is_used (map (used_less question) tracked)

-- the longest gap of the series, an hour
abbrev pub longest_gap : ℕ
longest_gap = 3600000

-- a question that was asked at a moment: an asking that counts in the series puts its next one a gap later, and doubles the gap, up to an hour
abbrev pub asked_at : ℕ → Cause → Tracked → Tracked
asked_at moment cause one =
    if is_counted cause
    then record one { next = moment + min one.gap longest_gap; gap = 2 * min one.gap longest_gap; last = Some moment }
    else record one { last = Some moment }

-- a tracked question after an asking, if it is this one
abbrev pub noted : ℕ → Key → Cause → Tracked → Tracked
noted moment question cause one = if is_for question one then asked_at moment cause one else one

-- the questions after an asking of one
abbrev pub with_asking : ℕ → Key → Cause → List Tracked → List Tracked
with_asking moment question cause tracked = map (noted moment question cause) tracked

-- the records that match a question, are live at a moment and are uncut
abbrev pub fresh_of : Key → List Held → ℕ → List Held
fresh_of question held moment = filter (λ one. matches question one.rr && is_uncut one) (filter (is_live_at moment) held)

-- whether one of these is to be refreshed
abbrev pub is_refreshed : List Held → ℕ → Tracked → Bool
is_refreshed held moment one =
    list_any (calls_at (active_of one) (option_to_list one.last) moment) (flat_map refresh_points (fresh_of one.key held moment))

-- why a question is asked at a moment, if it is due: its turn in the series has come, or else a refresh
abbrev pub due_cause : List Held → ℕ → Tracked → Option Cause
due_cause held moment one =
    if nat_le one.next moment then Some cause.Series else if is_refreshed held moment one then Some cause.Refresh else None

-- a question with its cause, if it is due
abbrev pub due_with : List Held → ℕ → Tracked → Option (Key × Cause)
due_with held moment one = option_map (λ cause. (one.key, cause)) (due_cause held moment one)

-- the questions that are due at a moment, in their order, each with its cause
abbrev pub due_at : Contents → ℕ → List (Key × Cause)
due_at contents moment = filter_map (due_with contents.held moment) contents.questions
