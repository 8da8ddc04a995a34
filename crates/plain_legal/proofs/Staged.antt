-- The entry that follows a history, made in stages.
use Rattle.std.proofs.Common.{◌≡◌, ℕ, ◌≤◌, List, [], ◌∷◌, true, ap, ◌∙◌}
use Rattle.mdns_history.specs.declared.event.Event.{Event}
use Rattle.mdns_history.specs.declared.mark.Mark.{Mark}
use Rattle.mdns_history.specs.declared.entry.Sent.{Sent}
use Rattle.mdns_history.specs.declared.entry.Given.{Given}
use Rattle.mdns_history.specs.declared.entry.Outcome.{Outcome}
use Rattle.mdns_history.specs.declared.entry.Entry.{Entry}
use Rattle.mdns_history.specs.InForce.{all_duties}
use Rattle.mdns_history.specs.Outcomes.{early_outcome}
use Rattle.mdns_history.specs.Fitting.{bare_entry, noted, with_cuts, with_items, with_outcome, next_entry, last_moment}
use Rattle.plain_history.specs.Standing.{may_stand}
use Rattle.plain_legal.specs.Trial.{of_last, on_last}
use Rattle.plain_legal.proofs.Standing.{bare_stands, noted_stands, cutting_stands, giving_stands}

-- the entry of an event, of parts
abbrev pub made : ℕ → ℕ → Event → List Mark → List Sent → List Given → Outcome → Entry
made moment word ev marks sent given outcome = record { moment = moment; word = word; event = ev; marks = marks; sent = sent; given = given; outcome = outcome }

pub made_bare : (moment word : ℕ) (ev : Event) (past : List Entry) (marks : List Mark) (sent : List Sent) (given : List Given) (outcome : Outcome)
    → marks ≡ [] → sent ≡ [] → given ≡ [] → outcome ≡ early_outcome ev past → made moment word ev marks sent given outcome ≡ bare_entry moment word ev past
made_bare moment word ev past marks sent given outcome m s g o = λ i. made moment word ev (m i) (s i) (g i) (o i)

pub made_stands : (moment word : ℕ) (ev : Event) (past : List Entry) (e : Entry) → moment ≤ last_moment → e ≡ bare_entry moment word ev past → may_stand e ≡ true
made_stands moment word ev past e early is = ap may_stand is ∙ bare_stands all_duties past moment word ev early

-- the first element, where there is one
abbrev head_or : Entry → List Entry → Entry
head_or x [] = x
head_or x (y ∷ ys) = y

module _ (moment word : ℕ) (ev : Event) (past : List Entry) (e : Entry) (is : e ≡ bare_entry moment word ev past) (early : moment ≤ last_moment)
    (bare : List Entry) (bare_is : bare ≡ e ∷ past) where
  -- the stages of the history
  bare_history : bare ≡ bare_entry moment word ev past ∷ past
  bare_history = bare_is ∙ ap (λ x. x ∷ past) is

  pub may_note : of_last true (λ entry past. may_stand (noted all_duties entry past)) bare ≡ true
  may_note = ap (of_last true (λ entry past. may_stand (noted all_duties entry past))) bare_history ∙ noted_stands all_duties past moment word ev early

  module _ (marked : List Entry) (marked_is : marked ≡ on_last (noted all_duties) bare) where
    noted_history : marked ≡ noted all_duties (bare_entry moment word ev past) past ∷ past
    noted_history = marked_is ∙ ap (on_last (noted all_duties)) bare_history

    pub may_cut : of_last true (λ entry past. may_stand (with_cuts entry past)) marked ≡ true
    may_cut = ap (of_last true (λ entry past. may_stand (with_cuts entry past))) noted_history ∙ cutting_stands all_duties past moment word ev early

    module _ (cutting : List Entry) (cutting_is : cutting ≡ on_last with_cuts marked) where
      cut_history : cutting ≡ with_cuts (noted all_duties (bare_entry moment word ev past) past) past ∷ past
      cut_history = cutting_is ∙ ap (on_last with_cuts) noted_history

      pub may_give : of_last true (λ entry past. may_stand (with_items entry past)) cutting ≡ true
      may_give = ap (of_last true (λ entry past. may_stand (with_items entry past))) cut_history ∙ giving_stands all_duties past moment word ev early

      pub made_next : (giving left : List Entry) (entry : Entry) → giving ≡ on_last with_items cutting → entry ∷ left ≡ on_last with_outcome giving → entry ≡ next_entry all_duties past moment word ev
      unfolding next_entry
      made_next giving left entry giving_is ended = ap (head_or entry) (ended ∙ ap (on_last with_outcome) (giving_is ∙ ap (on_last with_items) cut_history))
