-- What is the same of questions that are told refresh points.
use Rattle.std.proofs.Common.{◌≡◌, List, [], ◌∷◌, map, refl, ap, ◌∙◌}
use Rattle.std.specs.List.{AllByRecursion}
use Rattle.mdns_history.specs.declared.held.Held.{Held}
use Rattle.mdns_history.specs.declared.entry.Entry.{Entry}
use Rattle.mdns_question.specs.declared.tracked.Tracked.{Tracked}
use Rattle.mdns_question.specs.Tracking.{active_of}
use Rattle.mdns_question.specs.Next.{next_of}
use Rattle.mdns_question.specs.Refreshing.{AreTimed, moment_of}
use Rattle.mdns_question.specs.Standing.{IsTracked, Stands}
use Rattle.mdns_question.proofs.FirstRefresh.{moment_kept}
use Rattle.mdns_asking.specs.State.{asker_of}
use Rattle.mdns_asking.specs.Timed.{timed, all_timed}

-- Questions that are told the first refresh points of records have them.
pub are_timed : (held : List Held) (questions : List Tracked) → AreTimed held (all_timed held questions)
are_timed held [] = tt
are_timed held (one ∷ questions) = (refl, are_timed held questions)

-- What is kept says when questions are first due.
pub moments_timed : (held : List Held) (questions : List Tracked) → AreTimed held questions → map moment_of questions ≡ map (next_of held) questions
moments_timed held [] timed = refl
moments_timed held (one ∷ questions) timed = λ i. moment_kept held one timed.0 i ∷ moments_timed held questions timed.1 i

actives_timed : (later : List Held) (questions : List Tracked) → map active_of (all_timed later questions) ≡ map active_of questions
actives_timed later [] = refl
actives_timed later (one ∷ questions) = ap (λ l. active_of one ∷ l) (actives_timed later questions)

tracked_timed : (history : List Entry) (later : List Held) (questions : List Tracked) → AllByRecursion (IsTracked history) questions → AllByRecursion (IsTracked history) (all_timed later questions)
tracked_timed history later [] each = tt
tracked_timed history later (one ∷ questions) each =
    (record { users = each.0.users; next = each.0.next; gap = each.0.gap; last = each.0.last }, tracked_timed history later questions each.1)

-- They stand for the same histories.
pub stands_timed : (history : List Entry) (questions : List Tracked) (held later other : List Held) → Stands (asker_of questions held) history → Stands (asker_of (all_timed later questions) other) history
stands_timed history questions held later other stands = record {
  questions = actives_timed later questions ∙ stands.questions;
  each = tracked_timed history later questions stands.each;
}
