-- What a history says of the questions that an asker keeps. (RFC 6762 5.2)
use Rattle.std.specs.Prelude.{◌≡◌, ℕ, suc, min, List, map, take, length}
use Rattle.std.specs.List.{flat_map, AllByRecursion}
use Rattle.std.specs.Option.{option_to_list}
use Rattle.lists.specs.Lists.{count_where}
use Rattle.dns_record.specs.declared.record.Key.{Key}
use Rattle.dns_record.specs.Records.{key_eq}
use Rattle.mdns_history.specs.declared.mark.Cause.{Cause}
use Rattle.mdns_history.specs.declared.mark.Mark.{Mark}
use Rattle.mdns_history.specs.declared.mark.Mark.TheVariants as mark
use Rattle.mdns_history.specs.declared.entry.Entry.{Entry}
use Rattle.mdns_history.specs.Sessions.{operations}
use Rattle.mdns_history.specs.Questions.{keys_of, active_questions}
use Rattle.mdns_history.specs.Asking.{series_due, series_gap, series_moments, asking_moments}
use Rattle.mdns_question.specs.declared.tracked.Tracked.{Tracked}
use Rattle.mdns_question.specs.Contents.{Contents}
use Rattle.mdns_question.specs.Tracking.{active_of, longest_gap}

-- how often the live operations ask a question
unfoldable pub uses : Key → List Entry → ℕ
uses question history = count_where (key_eq question) (flat_map (λ operation. keys_of operation.request) (operations history))

-- A tracked question is as the history says: its users are the uses by live operations, it is next due where the series is, the gap behind that is
-- the series' own, and it was last asked where a mark says so.
pub record IsTracked (history : List Entry) (one : Tracked) : Type 0 where
  pub users : one.users ≡ uses one.key history
  pub next : one.next ≡ series_due (active_of one) history
  pub gap : min one.gap longest_gap ≡ series_gap (suc (length (series_moments one.key history)))
  pub last : option_to_list one.last ≡ take 1 (asking_moments one.key history)

-- An asker's questions stand for a history: they are the active ones, in their order, and each is as the history says.
pub record Stands (contents : Contents) (history : List Entry) : Type 0 where
  pub questions : map active_of contents.questions ≡ active_questions history
  pub each : AllByRecursion (IsTracked history) contents.questions

-- the mark of a question that is asked, with its cause
abbrev pub mark_of : Key × Cause → Mark
mark_of due = mark.Asked due.0 due.1
