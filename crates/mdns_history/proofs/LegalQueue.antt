-- In every legal history the items of a session are those that it took and then those that are left.
use Rattle.std.proofs.Common.{◌≡◌, ℕ, ◌==◌, Bool, true, false, cond, not, List, [], ◌∷◌, ◌++◌, take, drop, length, refl, ap, subst, ◌∙◌, sym, append_assoc, append-nil, arith}
use Rattle.std.proofs.lemmas.List.{take-append-drop}
use Rattle.std.proofs.Math.Seq.{drop-append_seam}
use Rattle.std.specs.List.{filter_map}
use Rattle.sd_call.specs.declared.item.Item.{Item}
use Rattle.mdns_history.specs.declared.event.Event.{Event}
use Rattle.mdns_history.specs.declared.event.Event.TheVariants as event
use Rattle.mdns_history.specs.declared.entry.Outcome.{Outcome}
use Rattle.mdns_history.specs.declared.entry.Outcome.TheVariants as outcome
use Rattle.mdns_history.specs.declared.entry.Entry.{Entry}
use Rattle.mdns_history.specs.Sessions.{is_attached, is_cut}
use Rattle.mdns_history.specs.Items.{item_for, session_items, taken_items, handed_over, queue}
use Rattle.mdns_history.specs.Outcomes.{early_outcome, late_outcome, take_outcome, items_or_empty}
use Rattle.mdns_history.specs.InForce.{Duties}
use Rattle.mdns_history.specs.Fitting.{next_entry, bare_entry, noted, with_cuts, with_items, IsLegalFrom}
use Rattle.mdns_history.specs.Replays.{IsQueued}

-- xs begins with ys
abbrev pub Begins : List Item → List Item → Type 0
Begins xs ys = xs ≡ ys ++ drop (length ys) xs

pub begins_more : (ys rest : List Item) (k : ℕ) → Begins (ys ++ rest) (ys ++ take k rest)
begins_more ys rest k =
    let whole : ys ++ rest ≡ (ys ++ take k rest) ++ drop k rest = ap (λ zs. ys ++ zs) (sym (take-append-drop k rest)) ∙ sym (append_assoc ys (take k rest) (drop k rest)) in
    whole ∙ ap (λ zs. (ys ++ take k rest) ++ zs) (sym (ap (λ zs. drop (length (ys ++ take k rest)) zs) whole ∙ drop-append_seam (ys ++ take k rest) (drop k rest)))

-- a take hands over nothing to another session, and its items to its own
pub handed_other : (session s max : ℕ) → (s == session) ≡ false → (o : Outcome) → handed_over session (event.Take s max) o ≡ []
handed_other session s max e outcome.Done = refl
handed_other session s max e (outcome.Opened n) = refl
handed_other session s max e outcome.Full = refl
handed_other session s max e outcome.Ended = refl
handed_other session s max e outcome.Closed = refl
handed_other session s max e outcome.Cut = refl
handed_other session s max e (outcome.Code code) = refl
handed_other session s max e (outcome.Items items) = rw e refl
handed_other session s max e outcome.Empty = refl

pub handed_own : (session s max : ℕ) → (s == session) ≡ true → (items : List Item) → handed_over session (event.Take s max) (items_or_empty items) ≡ items
handed_own session s max e [] = refl
handed_own session s max e (item ∷ items) = rw e refl

-- the entry of a take took nothing yet
pub taken-early : (s max : ℕ) (past : List Entry) (other : Entry) → other.event ≡ event.Take s max → other.outcome ≡ outcome.Done → taken_items s (other ∷ past) ≡ taken_items s past
unfolding taken_items
taken-early s max past other a b =
    ap (λ e. taken_items s past ++ handed_over s e other.outcome) a ∙ ap (λ o. taken_items s past ++ handed_over s (event.Take s max) o) b ∙ append-nil (taken_items s past)

-- what is left of a session's items after an entry that takes
abbrev pub left : ℕ → List Entry → Entry → List Item
left session past other = drop (length (taken_items session past)) (session_items session (other ∷ past))

pub queue-left : (s max : ℕ) (past : List Entry) (other : Entry) → other.event ≡ event.Take s max → other.outcome ≡ outcome.Done → is_cut s (other ∷ past) ≡ false → queue s (other ∷ past) ≡ left s past other
unfolding queue
queue-left s max past other a b uncut =
    ap (λ c. cond c [] (drop (length (taken_items s (other ∷ past))) (session_items s (other ∷ past)))) uncut
    ∙ ap (λ zs. drop (length zs) (session_items s (other ∷ past))) (taken-early s max past other a b)

-- what a take hands over is a front of what is left
pub handed : (session : ℕ) (e : Event) (past : List Entry) (other : Entry) → other.event ≡ e → other.outcome ≡ early_outcome e past →
    (k : ℕ) × (handed_over session e (late_outcome e (early_outcome e past) (other ∷ past)) ≡ take k (left session past other))
unfolding early_outcome
handed session (event.Boot config) past other a b = (0, refl)
handed session event.Attach past other a b = (0, refl)
handed session (event.Detach s) past other a b = (0, refl)
handed session (event.Call s op request) past other a b = (0, refl)
handed session (event.Hear from bytes) past other a b = (0, refl)
handed session event.Tick past other a b = (0, refl)
handed session (event.Take s max) past other a b = of (s == session) refl
  where
    own : (s == session) ≡ true → (c : Bool) → (d : Bool) → is_cut s (other ∷ past) ≡ d →
        (k : ℕ) × (handed_over session (event.Take s max) (cond c outcome.Closed (cond d outcome.Cut (items_or_empty (take max (queue s (other ∷ past)))))) ≡ take k (left session past other))
    own e true d f = (0, refl)
    own e false true f = (0, refl)
    own e false false f = let here : s ≡ session = grind arith in
        (max, handed_own session s max e (take max (queue s (other ∷ past))) ∙ ap (take max) (queue-left s max past other a b f) ∙ ap (λ n. take max (left n past other)) here)

    of : (c : Bool) → (s == session) ≡ c → (k : ℕ) × (handed_over session (event.Take s max) (take_outcome s max (other ∷ past)) ≡ take k (left session past other))
    of true e = own e (not (is_attached s (other ∷ past))) (is_cut s (other ∷ past)) refl
    of false e = (0, handed_other session s max e (take_outcome s max (other ∷ past)))

module _ (duties : Duties) (past : List Entry) (moment word : ℕ) (ev : Event) (session : ℕ) where
  abbrev last_stage : Entry
  last_stage = with_items (with_cuts (noted duties (bare_entry moment word ev past) past) past) past

  begins_next : Begins (session_items session past) (taken_items session past) →
      Begins (session_items session (next_entry duties past moment word ev ∷ past)) (taken_items session (next_entry duties past moment word ev ∷ past))
  unfolding session_items taken_items next_entry
  begins_next before =
      let taken : List Item = taken_items session past in
      let rest : List Item = drop (length taken) (session_items session past) ++ filter_map (item_for session) last_stage.given in
      let whole : session_items session (last_stage ∷ past) ≡ taken ++ rest =
      ap (λ zs. zs ++ filter_map (item_for session) last_stage.given) before ∙ append_assoc taken (drop (length taken) (session_items session past)) (filter_map (item_for session) last_stage.given) in
      let front : (k : ℕ) × (handed_over session ev (late_outcome ev (early_outcome ev past) (last_stage ∷ past)) ≡ take k (left session past last_stage)) = handed session ev past last_stage refl refl in
      let is_rest : left session past last_stage ≡ rest = ap (λ zs. drop (length taken) zs) whole ∙ drop-append_seam taken rest in
      let P : List Item → List Item → Type 0 = λ xs hs. Begins xs (taken ++ hs) in
      subst (λ xs. P xs (handed_over session ev (late_outcome ev (early_outcome ev past) (last_stage ∷ past)))) (sym whole)
      (subst (λ hs. P (taken ++ rest) hs) (sym (front.1 ∙ ap (take front.0) is_rest)) (begins_more taken rest front.0))

pub begins_from : (duties : Duties) (session : ℕ) (entry : Entry) (past : List Entry) → IsLegalFrom duties entry past → Begins (session_items session (entry ∷ past)) (taken_items session (entry ∷ past))
unfolding session_items taken_items
begins_from duties session entry [] legal = subst (λ e. Begins (session_items session (e ∷ [])) (taken_items session (e ∷ []))) (sym legal.3) refl
begins_from duties session entry (before ∷ past) legal =
    subst (λ e. Begins (session_items session (e ∷ before ∷ past)) (taken_items session (e ∷ before ∷ past))) (sym (legal.0).determined)
    (begins_next duties (before ∷ past) entry.moment entry.word entry.event session (begins_from duties session before past legal.1))

-- A session's items are those that it took, and then those that are queued.
pub is_queued : IsQueued
unfolding queue
is_queued duties [] session legal uncut = absurd legal
is_queued duties (entry ∷ past) session legal uncut =
    begins_from duties session entry past legal
    ∙ ap (λ c. taken_items session (entry ∷ past) ++ cond c [] (drop (length (taken_items session (entry ∷ past))) (session_items session (entry ∷ past)))) (sym uncut)
