-- What one more entry does to what is said of a history. Most of it holds by computation.
use Rattle.std.proofs.Common.{◌≡◌, ℕ, suc, ◌+◌, Bool, true, false, cond, not, List, [], ◌∷◌, ◌++◌, length, Option, refl}
use Rattle.std.specs.Prelude.{filter}
use Rattle.std.specs.List.{filter_map, cons_option}
use Rattle.std.specs.Option.{option_or, option_to_list}
use Rattle.mdns_history.specs.declared.entry.Entry.{Entry}
use Rattle.mdns_history.specs.History.{latest, last_at, since, from_place, moment_if, has_mark}
use Rattle.mdns_history.specs.Groups.{groups, ends_group, begun_in, registered_count, names_of}
use Rattle.mdns_history.specs.Questions.{Active, begins_asking}
use Rattle.mdns_history.specs.Asking.{is_series_asking, series_moments, series_due, series_gap}
use Rattle.mdns_history.specs.Debts.{standing_debts, stays_open, is_ours, debts_made}
use Rattle.mdns_history.specs.Items.{session_items, taken_items, item_for, handed_over}

-- the last entry comes first
pub latest-cons : {X : Type 0} (f : Entry → Option X) (entry : Entry) (past : List Entry) → latest f (entry ∷ past) ≡ option_or (f entry) (latest f past)
latest-cons f entry past = refl

pub last_at-cons : {X : Type 0} (f : Entry → List Entry → Option X) (entry : Entry) (past : List Entry) → last_at f (entry ∷ past) ≡ option_or (f entry past) (last_at f past)
last_at-cons f entry past = refl

-- an entry that passes the test leaves nothing behind it, any other adds what is said of it
pub since-cons : {X : Type 0} (test : Entry → List Entry → Bool) (f : Entry → Option X) (entry : Entry) (past : List Entry) →
    since test f (entry ∷ past) ≡ cond (test entry past) [] (cons_option (f entry) (since test f past))
since-cons test f entry past = refl

pub from_place-cons : {X : Type 0} (test : Entry → List Entry → Bool) (f : Entry → Option X) (entry : Entry) (past : List Entry) →
    from_place test f (entry ∷ past) ≡ cons_option (f entry) (cond (test entry past) [] (from_place test f past))
from_place-cons test f entry past = refl

pub groups-cons : (entry : Entry) (past : List Entry) →
    groups (entry ∷ past) ≡ filter (λ group. not (ends_group entry group)) (groups past) ++ option_to_list (begun_in entry (registered_count past + 1) (names_of (groups past) past))
unfolding groups
groups-cons entry past = refl

pub standing_debts-cons : (entry : Entry) (past : List Entry) →
    standing_debts (entry ∷ past) ≡ filter (λ debt. is_ours debt.rr (entry ∷ past)) (filter (stays_open entry) (standing_debts past) ++ debts_made entry past)
unfolding standing_debts
standing_debts-cons entry past = refl

pub session_items-cons : (session : ℕ) (entry : Entry) (past : List Entry) →
    session_items session (entry ∷ past) ≡ session_items session past ++ filter_map (item_for session) entry.given
unfolding session_items
session_items-cons session entry past = refl

pub taken_items-cons : (session : ℕ) (entry : Entry) (past : List Entry) →
    taken_items session (entry ∷ past) ≡ taken_items session past ++ handed_over session entry.event entry.outcome
unfolding taken_items
taken_items-cons session entry past = refl

-- an entry in which a question doesn't begin adds its asking in the series, if it has one
pub series_moments-cons : (active : Active) (entry : Entry) (past : List Entry) → begins_asking active.key entry past ≡ false →
    series_moments active.key (entry ∷ past) ≡ cons_option (moment_if (has_mark (is_series_asking active.key) entry) entry.moment) (series_moments active.key past)
unfolding series_moments
series_moments-cons active entry past old = rw old refl

-- an asking in the series puts the next one a gap later
pub series_due-asked : (active : Active) (entry : Entry) (past : List Entry) → begins_asking active.key entry past ≡ false →
    has_mark (is_series_asking active.key) entry ≡ true →
    series_due active (entry ∷ past) ≡ entry.moment + series_gap (suc (length (series_moments active.key past)))
unfolding series_due
series_due-asked active entry past old asked = rw (series_moments-cons active entry past old, asked)

-- every other entry leaves it
pub series_due-kept : (active : Active) (entry : Entry) (past : List Entry) → begins_asking active.key entry past ≡ false →
    has_mark (is_series_asking active.key) entry ≡ false → series_due active (entry ∷ past) ≡ series_due active past
unfolding series_due
series_due-kept active entry past old unasked = rw (series_moments-cons active entry past old, unasked)
