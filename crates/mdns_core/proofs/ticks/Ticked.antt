-- After a tick the next due moment is later than it: each question that was due has been asked, each held record is live, each group was probed or made sure
-- where that was due, and what was due to queries was sent.
use Rattle.std.proofs.Common.{◌≡◌, ◌<◌, ℕ, true, ◌&&◌, List, ◌++◌, IfSome, refl, ap, subst, ◌∙◌, sym, append-nil}
use Rattle.std.proofs.lemmas.List.Folds.{list_all-append}
use Rattle.std.specs.Prelude.{nat_lt}
use Rattle.std.specs.List.{list_all, flat_map, filter_map}
use Rattle.std.specs.List.Sorted.{IsPermutation}
use Rattle.mdns_history.specs.declared.event.Event.TheVariants as event
use Rattle.mdns_history.specs.declared.mark.Mark.{Mark}
use Rattle.mdns_history.specs.declared.held.Held.{Held}
use Rattle.mdns_history.specs.declared.entry.Outcome.{Outcome}
use Rattle.mdns_cache.specs.Lifetimes.{AllLive}
use Rattle.mdns_question.specs.declared.tracked.Tracked.{Tracked}
use Rattle.mdns_question.specs.Tracking.{due_at}
use Rattle.mdns_asking.specs.Asked.{asked_told, asked_for, questions_told, questions_after}
use Rattle.mdns_asking.specs.Kept.{HaveGaps}
use Rattle.mdns_asking.specs.State.{asker_of}
use Rattle.mdns_asking.specs.Timed.{all_timed}
use Rattle.mdns_asking.proofs.Settled.{none_due_timed, due-later}
use Rattle.sd_sessions.specs.Sessions.{Session}
use Rattle.mdns_happened.specs.Told.{told_of}
use Rattle.mdns_probe.specs.Kept.{Kept}
use Rattle.mdns_claims.specs.State.{Contents}
use Rattle.mdns_claims.specs.Behind.{Occasion, occasion_of, next_in, behind, contents_told}
use Rattle.mdns_core.specs.Enough.{claims_told}
use Rattle.mdns_core.specs.State.{State, reply_moments, due_of}
use Rattle.mdns_core.proofs.ticks.Quiet.{all_ticked, groups-later}
use Rattle.mdns_core.proofs.step.Moved.{due-moved}

pub due-ticked : (state : State) (later : List Held) (sessions : List Session) (word : ℕ) (outcome : Outcome) (refusal : List Mark) (questions : List Tracked) (contents : Contents) →
    IsPermutation state.held later → AllLive state.last later → HaveGaps questions →
    state.questions ≡ all_timed later (questions_after sessions state.last word event.Tick outcome (asked_for questions later state.last refusal event.Tick) questions) →
    state.claims ≡ claims_told contents (told_of event.Tick outcome refusal) state.last word →
    list_all (nat_lt state.last) (reply_moments state.multicasts state.queries) ≡ true →
    IfSome (due_of state) (λ due. state.last < due)
unfolding questions_told asked_told contents_told
due-ticked state later sessions word outcome refusal questions contents moved live gaps after claimed replies =
    subst (λ due. IfSome due (λ (moment : ℕ). state.last < moment)) (sym (due-moved state.held later moved state.last state.questions others))
    (due-later state.questions later state.last others live
    (ap (λ qs. due_at (asker_of qs later) state.last) after ∙ none_due_timed later state.last later questions gaps)
    beyond)
  where
    at : Occasion
    at = occasion_of contents (told_of event.Tick outcome refusal) state.last word

    waits : List ℕ
    waits = flat_map (next_in state.claims.announces) state.claims.kept

    others : List ℕ
    others = waits ++ reply_moments state.multicasts state.queries

    groups-beyond : list_all (nat_lt state.last) waits ≡ true
    groups-beyond =
        ap (λ (c : Contents). list_all (nat_lt state.last) (flat_map (next_in c.announces) c.kept)) claimed
        ∙ ap (λ (ks : List Kept). list_all (nat_lt state.last) (flat_map (next_in contents.announces) ks))
        (append-nil (filter_map (behind at) contents.kept) ∙ all_ticked at refl contents.kept)
        ∙ groups-later at contents.kept

    beyond : list_all (nat_lt state.last) others ≡ true
    beyond = list_all-append (nat_lt state.last) waits (reply_moments state.multicasts state.queries) ∙ (λ i. groups-beyond i && replies i)
