-- The refresh points that are kept of questions, so that no record is looked at to tell what is due. (RFC 6762 5.2)
use Rattle.std.specs.Prelude.{◌≡◌, ℕ, nat_le, List, map, slice_index_or, slice_set, Option, Some, None, if◌then◌else◌}
use Rattle.std.specs.List.{flat_map, filter_map, AllByRecursion}
use Rattle.std.specs.Option.{option_map, option_to_list}
use Rattle.lists.specs.Lists.{least, least_of}
use Rattle.dns_record.specs.declared.record.Key.{Key}
use Rattle.mdns_history.specs.declared.mark.Cause.{Cause}
use Rattle.mdns_history.specs.declared.mark.Cause.TheVariants as cause
use Rattle.mdns_history.specs.declared.held.Held.{Held}
use Rattle.mdns_question.specs.declared.tracked.Tracked.{Tracked}
use Rattle.mdns_question.specs.Tracking.{is_for}
use Rattle.mdns_question.specs.Next.{open_in}

-- the first refresh point of records that calls for an asking of a question, once it has come
abbrev pub first_refresh : List Held → Tracked → Option ℕ
first_refresh held one = least (flat_map (open_in one) held)

-- the point that is kept of a question is the first one of the records that are held
abbrev pub IsTimed : List Held → Tracked → Type 0
IsTimed held one = one.refresh ≡ first_refresh held one

abbrev pub AreTimed : List Held → List Tracked → Type 0
AreTimed held tracked = AllByRecursion (IsTimed held) tracked

-- a tracked question after a refresh point was told, if it is this one
abbrev pub told : Key → Option ℕ → Tracked → Tracked
told question point one = if is_for question one then record one { refresh = point } else one

-- the questions after a refresh point was told of one
abbrev pub with_refresh : Key → Option ℕ → List Tracked → List Tracked
with_refresh question point tracked = map (told question point) tracked

-- the question at a place has this refresh point, and all else is as before
abbrev pub IsToldAt : ℕ → Option ℕ → List Tracked → List Tracked → Type 0
IsToldAt place point before after = (one : Tracked) → one ≡ slice_index_or before place one → after ≡ slice_set before place (record one { refresh = point })

-- the first moment at which a question is due, by what is kept of it
abbrev pub moment_of : Tracked → ℕ
moment_of one = least_of one.next (option_to_list one.refresh)

-- why a question is asked at a moment, by what is kept of it
abbrev pub cause_of : ℕ → Tracked → Option Cause
cause_of moment one =
    if nat_le one.next moment then Some cause.Series else if nat_le (moment_of one) moment then Some cause.Refresh else None

-- a question with its cause, if it is due by what is kept of it
abbrev pub with_cause : ℕ → Tracked → Option (Key × Cause)
with_cause moment one = option_map (λ cause. (one.key, cause)) (cause_of moment one)

-- the questions that are due at a moment by what is kept of them, in their order, each with its cause
abbrev pub due_by_kept : ℕ → List Tracked → List (Key × Cause)
due_by_kept moment tracked = filter_map (with_cause moment) tracked
