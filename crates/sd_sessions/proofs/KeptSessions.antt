-- The sessions behind an entry, by those that are kept and their changes, and the outcome of a take.
use Rattle.std.proofs.Common.{◌≡◌, ℕ, zero, suc, ◌+◌, ◌<◌, ◌==◌, Bool, true, false, cond, not, ◌&&◌, ◌||◌, List, [], ◌∷◌, ◌++◌, map, take, drop, length, Option, Some, None, refl, ap, ◌∙◌, sym, arith, append-nil}
use Rattle.std.specs.Prelude.{filter}
use Rattle.std.specs.List.{find}
use Rattle.std.specs.Option.{option_to_list}
use Rattle.sd_call.specs.declared.item.Item.{Item}
use Rattle.mdns_history.specs.declared.operation.Operation.{Operation}
use Rattle.mdns_history.specs.declared.event.Event.{Event}
use Rattle.mdns_history.specs.declared.event.Event.TheVariants as event
use Rattle.mdns_history.specs.declared.entry.Outcome.{Outcome}
use Rattle.mdns_history.specs.declared.entry.Outcome.TheVariants as outcome
use Rattle.mdns_history.specs.declared.entry.Entry.{Entry}
use Rattle.mdns_history.specs.InForce.{Duties}
use Rattle.mdns_history.specs.Sessions.{opened, opened_count, detached, is_number, accepted_call, attached_sessions, is_cut, operations_of}
use Rattle.mdns_history.specs.Items.{handed_over, queue}
use Rattle.mdns_history.specs.Outcomes.{early_outcome, items_or_empty}
use Rattle.mdns_history.specs.Fitting.{IsLegal}
use Rattle.sd_sessions.specs.declared.change.SessionChange.{SessionChange}
use Rattle.sd_sessions.specs.Sessions.{Session, session_in, sessions_in}
use Rattle.sd_sessions.specs.Codes.{has_number}
use Rattle.sd_sessions.specs.Settling.{change_for, settled, all_settled, remaining, opened_session, with_opened, handed_to}
use Rattle.sd_sessions.proofs.NumberLists.{has, has-filter, map-same}
use Rattle.sd_sessions.proofs.EntryParts.{marked, entry_after}
use Rattle.sd_sessions.proofs.Attached.{holds_legal, is_attached-has, opened-number}
use Rattle.sd_sessions.proofs.Brought.{operations_of-opened, change_items-opened}
use Rattle.sd_sessions.proofs.Shape.{brought_to, passes_now}
use Rattle.sd_sessions.proofs.Queues.{begins_legal}
use Rattle.sd_sessions.proofs.Takes.{is_take, outcome-take, handed_over-untaken}
use Rattle.sd_sessions.proofs.Limits.{unopened}
use Rattle.sd_sessions.proofs.Operations.{operations_of-attached}
use Rattle.sd_sessions.proofs.After.{session_after, sessions-next}
use Rattle.sd_sessions.proofs.KeptChanges.{earlier_answers, later_answers, change, stays, attached-is, stays-attached, called-is, brought-kept, cuts-kept, new_fits}

map-append : (f : ℕ → Session) (ms ns : List ℕ) → map f (ms ++ ns) ≡ map f ms ++ map f ns
map-append f [] ns = refl
map-append f (m ∷ ms) ns = ap (λ zs. f m ∷ zs) (map-append f ms ns)

sessions-append : (f : Session → Session) (xs ys : List Session) → map f (xs ++ ys) ≡ map f xs ++ map f ys
sessions-append f [] ys = refl
sessions-append f (x ∷ xs) ys = ap (λ zs. f x ∷ zs) (sessions-append f xs ys)

map-map : (f : Session → Session) (g : ℕ → Session) (ns : List ℕ) → map (λ n. f (g n)) ns ≡ map f (map g ns)
map-map f g [] = refl
map-map f g (n ∷ ns) = ap (λ zs. f (g n) ∷ zs) (map-map f g ns)

pub drop-empty : (k : ℕ) → ◌≡◌ {A = List Item} [] (drop k [])
drop-empty zero = refl
drop-empty (suc k) = refl

-- what is left behind the first items, however many of them there are
pub drop-taken : (k : ℕ) (items : List Item) → drop (length (take k items)) items ≡ drop k items
drop-taken zero items = refl
drop-taken (suc k) [] = refl
drop-taken (suc k) (item ∷ items) = drop-taken k items

-- a session without what an outcome hands over to it
abbrev pub without_handed : Event → Outcome → Session → Session
without_handed event outcome session = record session { queue = drop (length (handed_over session.number event outcome)) session.queue }

abbrev made : ℕ → List Operation → Bool → List Item → Session
made n os c q = record { number = n; operations = os; cut = c; queue = q }

module _ (duties : Duties) (past : List Entry) (moment word : ℕ) (ev : Event) where
  abbrev early : Outcome
  early = early_outcome ev past

  abbrev changes : List SessionChange
  changes = map (change_for ev early (earlier_answers duties past moment word ev) (later_answers duties past moment word ev)) (sessions_in past)

  -- the sessions that are kept, with their changes
  abbrev pub settled_sessions : List Session
  settled_sessions = all_settled (sessions_in past) changes

  abbrev pub settled_one : ℕ → Session
  settled_one n = settled (session_in past n) (change duties past moment word ev n)

  pub settled_map : (ns : List ℕ) →
      all_settled (map (session_in past) ns) (map (change_for ev early (earlier_answers duties past moment word ev) (later_answers duties past moment word ev)) (map (session_in past) ns)) ≡ map settled_one ns
  settled_map [] = refl
  settled_map (n ∷ ns) = ap (λ zs. settled_one n ∷ zs) (settled_map ns)

  remaining_map : (ns : List ℕ) → remaining ev early (map settled_one ns) ≡ map settled_one (filter (stays duties past moment word ev) ns)
  remaining_map [] = refl
  remaining_map (n ∷ ns) = of (stays duties past moment word ev n) (remaining_map ns)
    where
      of : (b : Bool) → remaining ev early (map settled_one ns) ≡ map settled_one (filter (stays duties past moment word ev) ns) →
          cond b (settled_one n ∷ remaining ev early (map settled_one ns)) (remaining ev early (map settled_one ns))
          ≡ map settled_one (cond b (n ∷ filter (stays duties past moment word ev) ns) (filter (stays duties past moment word ev) ns))
      of true e = ap (λ zs. settled_one n ∷ zs) e
      of false e = e

  with_opened-is : (o : Option ℕ) (xs : List Session) → with_opened o xs ≡ xs ++ map opened_session (option_to_list o)
  with_opened-is None xs = sym (append-nil xs)
  with_opened-is (Some k) xs = refl

  -- the session of a number among those with their changes
  pub found_settled : (n : ℕ) (ns : List ℕ) → find (has_number n) (map settled_one ns) ≡ cond (has n ns) (Some (settled_one n)) None
  found_settled n [] = refl
  found_settled n (m ∷ ns) = of (m == n) refl (found_settled n ns)
    where
      of : (b : Bool) → (m == n) ≡ b → find (has_number n) (map settled_one ns) ≡ cond (has n ns) (Some (settled_one n)) None →
          cond b (Some (settled_one m)) (find (has_number n) (map settled_one ns)) ≡ cond (b || has n ns) (Some (settled_one n)) None
      of true e rest = let here : m ≡ n = grind arith in ap (λ k. Some (settled_one k)) here
      of false e rest = rest

  module _ (legal : IsLegal duties past) where
    settled_cut : (n : ℕ) → has n (attached_sessions past) ≡ true → is_number n (detached ev early) ≡ false → (settled_one n).cut ≡ (is_cut n past || passes_now duties past moment word ev n)
    settled_cut n h undetached =
        ap (λ b. is_cut n past || b) (cuts-kept duties past moment word ev legal n h ∙ ap (λ b. not b && (not (is_cut n past) && passes_now duties past moment word ev n)) undetached)
        ∙ of (is_cut n past) (passes_now duties past moment word ev n)
      where
        of : (c p : Bool) → (c || (not c && p)) ≡ (c || p)
        of true p = refl
        of false p = refl

    settled_queue : (n : ℕ) → has n (attached_sessions past) ≡ true → is_number n (detached ev early) ≡ false →
        (settled_one n).queue ≡ cond (is_cut n past || passes_now duties past moment word ev n) [] (queue n past ++ brought_to duties past moment word ev n)
    settled_queue n h undetached =
        ap (λ b. cond b [] (queue n past ++ (change duties past moment word ev n).brought)) (settled_cut n h undetached) ∙ of (is_cut n past) refl (passes_now duties past moment word ev n)
      where
        of : (b : Bool) → is_cut n past ≡ b → (c : Bool) →
            cond (b || c) [] (queue n past ++ (change duties past moment word ev n).brought) ≡ cond (b || c) [] (queue n past ++ brought_to duties past moment word ev n)
        of true e c = refl
        of false e true = refl
        of false e false = ap (λ items. queue n past ++ items) (brought-kept duties past moment word ev legal n h e undetached)

    abbrev pub left_by : Session → Session
    left_by session = without_handed ev (entry_after duties past moment word ev).outcome session

    abbrev handed_many : ℕ → ℕ
    handed_many n = length (handed_over n ev (entry_after duties past moment word ev).outcome)

    each_kept : (n : ℕ) → has n (filter (stays duties past moment word ev) (attached_sessions past)) ≡ true → session_after duties past moment word ev n ≡ left_by (settled_one n)
    each_kept n h =
        let both : (stays duties past moment word ev n && has n (attached_sessions past)) ≡ true = sym (has-filter n (stays duties past moment word ev) (attached_sessions past)) ∙ h in
        let there : has n (attached_sessions past) ≡ true = second (stays duties past moment word ev n) (has n (attached_sessions past)) both in
        let undetached : is_number n (detached ev early) ≡ false = unless (is_number n (detached ev early)) (has n (attached_sessions past)) both in
        let os : List Operation = operations_of n (marked duties past moment word ev ∷ past) in
        let c : Bool = is_cut n past || passes_now duties past moment word ev n in
        ap (λ q. made n os c q) (dropped c (queue n past ++ brought_to duties past moment word ev n))
        ∙ ap (λ q. made n os c (drop (handed_many n) q)) (sym (settled_queue n there undetached))
        ∙ ap (λ b. made n os b (drop (handed_many n) (settled_one n).queue)) (sym (settled_cut n there undetached))
        ∙ ap (λ xs. made n xs (settled_one n).cut (drop (handed_many n) (settled_one n).queue))
        (operations_of-attached duties past moment word ev n (stays-attached duties past moment word ev n there undetached) ∙ sym (called-is (accepted_call ev early) n (operations_of n past)))
      where
        second : (a b : Bool) → (a && b) ≡ true → b ≡ true
        second true b g = g
        second false b g = cc

        unless : (a b : Bool) → (not a && b) ≡ true → a ≡ false
        unless true b g = cc
        unless false b g = refl

        dropped : (c : Bool) (items : List Item) → cond c [] (drop (handed_many n) items) ≡ drop (handed_many n) (cond c [] items)
        dropped true items = drop-empty (handed_many n)
        dropped false items = refl

    each_opened : (o : Option ℕ) → opened early ≡ o → map (session_after duties past moment word ev) (option_to_list o) ≡ map left_by (map opened_session (option_to_list o))
    each_opened None e = refl
    each_opened (Some k) e =
        let number : k ≡ opened_count past + 1 = opened-number duties past moment word ev k e in
        let high : opened_count past < k = omega arith in
        let uncut : is_cut k past ≡ false = (unopened duties past legal k high).uncut in
        let empty : queue k past ≡ [] = (unopened duties past legal k high).nothing_queued in
        let p : Bool = passes_now duties past moment word ev k in
        let items : List Item = queue k past ++ brought_to duties past moment word ev k in
        ap (λ (s : Session). s ∷ []) (
        ap (λ os. made k os (is_cut k past || p) (cond (is_cut k past || p) [] (drop (handed_many k) items))) (operations_of-opened duties past moment word ev k (holds_legal duties past legal) e)
        ∙ ap (λ b. made k [] (b || p) (cond (b || p) [] (drop (handed_many k) items))) uncut
        ∙ ap (λ b. made k [] b (cond b [] (drop (handed_many k) items))) (new_fits duties past moment word ev legal k e)
        ∙ ap (λ q. made k [] false (drop (handed_many k) (q ++ brought_to duties past moment word ev k))) empty
        ∙ ap (λ q. made k [] false (drop (handed_many k) q)) (change_items-opened duties past moment word ev k (holds_legal duties past legal) e))

    -- The sessions behind the entry: those that are kept and stay, with their changes and without what is handed over, and the one that is opened.
    pub sessions-kept : sessions_in (entry_after duties past moment word ev ∷ past) ≡ map left_by (with_opened (opened early) (remaining ev early settled_sessions))
    sessions-kept =
        let kept : List ℕ = filter (stays duties past moment word ev) (attached_sessions past) in
        let after : ℕ → Session = session_after duties past moment word ev in
        sessions-next duties past moment word ev legal
        ∙ ap (map after) (attached-is duties past moment word ev)
        ∙ map-append after kept (option_to_list (opened early))
        ∙ ap (λ zs. map after kept ++ zs) (each_opened (opened early) refl)
        ∙ ap (λ zs. zs ++ map left_by (map opened_session (option_to_list (opened early)))) (map-same after (λ n. left_by (settled_one n)) kept each_kept ∙ map-map left_by settled_one kept)
        ∙ sym (sessions-append left_by (map settled_one kept) (map opened_session (option_to_list (opened early))))
        ∙ ap (map left_by) (
        ap (λ xs. xs ++ map opened_session (option_to_list (opened early))) (sym (ap (remaining ev early) (settled_map (attached_sessions past)) ∙ remaining_map (attached_sessions past)))
        ∙ sym (with_opened-is (opened early) (remaining ev early settled_sessions)))

    -- Nothing is handed over but by a take.
    pub sessions-untaken : is_take ev ≡ false → sessions_in (entry_after duties past moment word ev ∷ past) ≡ with_opened (opened early) (remaining ev early settled_sessions)
    sessions-untaken other = sessions-kept ∙ same (with_opened (opened early) (remaining ev early settled_sessions))
      where
        same : (xs : List Session) → map left_by xs ≡ xs
        same [] = refl
        same (x ∷ xs) =
            ap (λ (items : List Item). record x { queue = drop (length items) x.queue } ∷ map left_by xs) (handed_over-untaken x.number ev (entry_after duties past moment word ev).outcome other)
            ∙ ap (λ zs. x ∷ zs) (same xs)

module _ (duties : Duties) (past : List Entry) (moment word s max : ℕ) (legal : IsLegal duties past) where
  abbrev taking : Event
  taking = event.Take s max

  -- The outcome of a take is told by the session of its number, once that has what the entry brings.
  pub take-kept : (entry_after duties past moment word taking).outcome ≡ handed_to max (find (has_number s) (settled_sessions duties past moment word taking))
  take-kept =
      outcome-take duties past moment word s max (holds_legal duties past legal) (begins_legal duties past legal s)
      ∙ ap (λ a. cond (not a) outcome.Closed (cond (is_cut s past || passes_now duties past moment word taking s) outcome.Cut (items_or_empty (take max (queue s past ++ brought_to duties past moment word taking s)))))
      (is_attached-has past (holds_legal duties past legal) s)
      ∙ of (has s (attached_sessions past)) refl
      ∙ ap (handed_to max) (sym (ap (find (has_number s)) (settled_map duties past moment word taking (attached_sessions past)) ∙ found_settled duties past moment word taking s (attached_sessions past)))
    where
      of : (a : Bool) → has s (attached_sessions past) ≡ a →
          cond (not a) outcome.Closed (cond (is_cut s past || passes_now duties past moment word taking s) outcome.Cut (items_or_empty (take max (queue s past ++ brought_to duties past moment word taking s))))
          ≡ handed_to max (cond a (Some (settled_one duties past moment word taking s)) None)
      of false h = refl
      of true h =
          kept (is_cut s past || passes_now duties past moment word taking s)
          ∙ ap (λ items. cond (is_cut s past || passes_now duties past moment word taking s) outcome.Cut (items_or_empty (take max items))) (sym (settled_queue duties past moment word taking legal s h refl))
          ∙ ap (λ b. cond b outcome.Cut (items_or_empty (take max (settled_one duties past moment word taking s).queue))) (sym (settled_cut duties past moment word taking legal s h refl))
        where
          kept : (c : Bool) →
              cond c outcome.Cut (items_or_empty (take max (queue s past ++ brought_to duties past moment word taking s)))
              ≡ cond c outcome.Cut (items_or_empty (take max (cond c [] (queue s past ++ brought_to duties past moment word taking s))))
          kept true = refl
          kept false = refl
