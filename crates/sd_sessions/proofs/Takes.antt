-- The outcome of an entry: that of a take sees what the entry brings, every other is known before.
use Rattle.std.proofs.Common.{◌≡◌, ℕ, ◌==◌, Bool, true, false, cond, not, ◌&&◌, ◌||◌, List, [], ◌∷◌, ◌++◌, take, refl, ap, ◌∙◌, sym, arith}
use Rattle.sd_call.specs.declared.item.Item.{Item}
use Rattle.mdns_history.specs.declared.event.Event.{Event}
use Rattle.mdns_history.specs.declared.event.Event.TheVariants as event
use Rattle.mdns_history.specs.declared.entry.Outcome.{Outcome}
use Rattle.mdns_history.specs.declared.entry.Outcome.TheVariants as outcome
use Rattle.mdns_history.specs.InForce.{Duties}
use Rattle.mdns_history.specs.declared.entry.Entry.{Entry}
use Rattle.mdns_history.specs.Sessions.{is_attached, is_cut}
use Rattle.mdns_history.specs.Items.{session_items, taken_items, handed_over, queue}
use Rattle.mdns_history.specs.Outcomes.{early_outcome, late_outcome, items_or_empty}
use Rattle.mdns_history.proofs.LegalReplay.{Holds}
use Rattle.mdns_history.proofs.LegalQueue.{Begins, handed_own, handed_other}
use Rattle.sd_sessions.proofs.NumberLists.{has}
use Rattle.sd_sessions.proofs.EntryParts.{cutting, giving, entry_after, entry_is}
use Rattle.sd_sessions.proofs.Attached.{is_attached-has, attached-kept}
use Rattle.sd_sessions.proofs.Shape.{attached, brought_to, passes_now, is_cut-attached, cut_whole, given_for}
use Rattle.sd_sessions.proofs.Queues.{queue-cons}

-- The outcome is that of the history before, but for a take.
pub outcome-next : (duties : Duties) (past : List Entry) (moment word : ℕ) (ev : Event) → (entry_after duties past moment word ev).outcome ≡ late_outcome ev (early_outcome ev past) (giving duties past moment word ev ∷ past)
outcome-next duties past moment word ev = ap (λ e. e.outcome) (entry_is duties past moment word ev)

-- whether an event is a take
abbrev pub is_take : Event → Bool
is_take (event.Take session max) = true
is_take _ = false

pub outcome-early : (duties : Duties) (past : List Entry) (moment word : ℕ) (ev : Event) → is_take ev ≡ false → (entry_after duties past moment word ev).outcome ≡ early_outcome ev past
outcome-early duties past moment word ev other = outcome-next duties past moment word ev ∙ of ev other
  where
    of : (e : Event) → is_take e ≡ false → late_outcome e (early_outcome e past) (giving duties past moment word ev ∷ past) ≡ early_outcome e past
    of (event.Boot config) h = refl
    of event.Attach h = refl
    of (event.Detach session) h = refl
    of (event.Call session op request) h = refl
    of (event.Hear from bytes) h = refl
    of event.Tick h = refl
    of (event.Take session max) h = cc

-- nothing is handed over but by a take, and to its own session
pub handed_over-untaken : (n : ℕ) (ev : Event) (o : Outcome) → is_take ev ≡ false → handed_over n ev o ≡ []
handed_over-untaken n (event.Boot config) o h = refl
handed_over-untaken n event.Attach o h = refl
handed_over-untaken n (event.Detach session) o h = refl
handed_over-untaken n (event.Call session op request) o h = refl
handed_over-untaken n (event.Hear from bytes) o h = refl
handed_over-untaken n event.Tick o h = refl
handed_over-untaken n (event.Take session max) o h = cc

pub handed_over-other : (n s max : ℕ) (o : Outcome) → (s == n) ≡ false → handed_over n (event.Take s max) o ≡ []
handed_over-other n s max o e = handed_other n s max e o

pub handed_over-own : (s max : ℕ) (items : List Item) → handed_over s (event.Take s max) (items_or_empty items) ≡ items
handed_over-own s max items = handed_own s s max itself items
  where
    itself : (s == s) ≡ true
    itself = grind arith

module _ (duties : Duties) (past : List Entry) (moment word s max : ℕ) (holds : Holds past)
    (begins : Begins (session_items s past) (taken_items s past)) where
  abbrev ev : Event
  ev = event.Take s max

  attached_same : is_attached s (giving duties past moment word ev ∷ past) ≡ is_attached s past
  unfolding is_attached early_outcome
  attached_same = refl

  has_attached : is_attached s past ≡ true → has s (attached duties past moment word ev) ≡ true
  unfolding early_outcome
  has_attached h = ap (has s) (attached-kept duties past moment word ev refl refl) ∙ sym (is_attached-has past holds s) ∙ h

  cut_same : is_cut s (giving duties past moment word ev ∷ past) ≡ is_cut s (cutting duties past moment word ev ∷ past)
  unfolding is_cut
  cut_same = refl

  cut_by_take : is_attached s past ≡ true → is_cut s (giving duties past moment word ev ∷ past) ≡ (is_cut s past || passes_now duties past moment word ev s)
  cut_by_take h = cut_same ∙ sym (cut_whole duties past moment word ev s) ∙ is_cut-attached duties past moment word ev s (has_attached h)

  queue_given : is_attached s past ≡ true → is_cut s past ≡ false → passes_now duties past moment word ev s ≡ false →
      queue s (giving duties past moment word ev ∷ past) ≡ queue s past ++ brought_to duties past moment word ev s
  unfolding early_outcome
  queue_given h e f =
      queue-cons s (giving duties past moment word ev) past begins e (cut_by_take h ∙ ap (λ b. b || passes_now duties past moment word ev s) e ∙ f)
      ∙ ap (λ xs. queue s past ++ xs) (
      given_for duties past moment word ev s
      ∙ ap (λ b. cond (b && (not (is_cut s past) && not (passes_now duties past moment word ev s))) (brought_to duties past moment word ev s) []) (has_attached h)
      ∙ ap (λ b. cond (not b && not (passes_now duties past moment word ev s)) (brought_to duties past moment word ev s) []) e
      ∙ ap (λ b. cond (not b) (brought_to duties past moment word ev s) []) f)

  -- The outcome of a take: of a session that isn't attached, of one that is cut with this entry, and else items of its queue with what the entry brings.
  pub outcome-take : (entry_after duties past moment word ev).outcome
      ≡ cond (not (is_attached s past)) outcome.Closed
      (cond (is_cut s past || passes_now duties past moment word ev s) outcome.Cut (items_or_empty (take max (queue s past ++ brought_to duties past moment word ev s))))
  outcome-take =
      outcome-next duties past moment word ev
      ∙ ap (λ b. cond (not b) outcome.Closed (cond (is_cut s (giving duties past moment word ev ∷ past)) outcome.Cut (items_or_empty (take max (queue s (giving duties past moment word ev ∷ past)))))) attached_same
      ∙ of (is_attached s past) refl (is_cut s past) refl (passes_now duties past moment word ev s) refl
    where
      of : (a : Bool) → is_attached s past ≡ a → (b : Bool) → is_cut s past ≡ b → (c : Bool) → passes_now duties past moment word ev s ≡ c →
          cond (not a) outcome.Closed (cond (is_cut s (giving duties past moment word ev ∷ past)) outcome.Cut (items_or_empty (take max (queue s (giving duties past moment word ev ∷ past)))))
          ≡ cond (not a) outcome.Closed (cond (b || c) outcome.Cut (items_or_empty (take max (queue s past ++ brought_to duties past moment word ev s))))
      of false h b e c f = refl
      of true h true e c f =
          ap (λ x. cond x outcome.Cut (items_or_empty (take max (queue s (giving duties past moment word ev ∷ past))))) (cut_by_take h ∙ ap (λ b. b || passes_now duties past moment word ev s) e)
      of true h false e true f =
          ap (λ x. cond x outcome.Cut (items_or_empty (take max (queue s (giving duties past moment word ev ∷ past))))) (cut_by_take h ∙ ap (λ b. b || passes_now duties past moment word ev s) e ∙ f)
      of true h false e false f =
          ap (λ x. cond x outcome.Cut (items_or_empty (take max (queue s (giving duties past moment word ev ∷ past))))) (cut_by_take h ∙ ap (λ b. b || passes_now duties past moment word ev s) e ∙ f)
          ∙ ap (λ xs. items_or_empty (take max xs)) (queue_given h e f)
