-- The marks and the items of an entry, by the changes of the sessions that are kept.
use Rattle.std.proofs.Common.{◌≡◌, ℕ, ◌+◌, ◌<◌, ◌≤◌, ◌==◌, Bool, true, false, cond, not, ◌&&◌, ◌||◌, List, [], ◌∷◌, ◌++◌, map, Option, Some, None, refl, ap, ◌∙◌, sym, arith, append-nil, append_assoc}
use Rattle.std.specs.Prelude.{filter, nat_lt}
use Rattle.std.specs.List.{flat_map}
use Rattle.std.specs.Option.{option_to_list}
use Rattle.sd_call.specs.declared.item.Item.{Item}
use Rattle.sd_call.specs.Answers.{frames_len}
use Rattle.mdns_history.specs.declared.operation.Operation.{Operation}
use Rattle.mdns_history.specs.declared.event.Event.{Event}
use Rattle.mdns_history.specs.declared.mark.Mark.TheVariants as mark
use Rattle.mdns_history.specs.declared.entry.Given.{Given}
use Rattle.mdns_history.specs.declared.entry.Outcome.{Outcome}
use Rattle.mdns_history.specs.declared.entry.Entry.{Entry}
use Rattle.mdns_history.specs.InForce.{Duties}
use Rattle.mdns_history.specs.Sessions.{Accepted, opened, opened_count, detached, is_number, accepted_call, after_request, after_call, attached_sessions, is_cut, operations_of}
use Rattle.mdns_history.specs.Items.{reply_of, given_to, queue}
use Rattle.mdns_history.specs.Outcomes.{early_outcome}
use Rattle.mdns_history.specs.Fitting.{IsLegal}
use Rattle.sd_sessions.specs.declared.change.SessionChange.{SessionChange}
use Rattle.sd_sessions.specs.Sessions.{session_in, sessions_in}
use Rattle.sd_sessions.specs.Answered.{Answering}
use Rattle.sd_sessions.specs.Changes.{items_between, passes}
use Rattle.sd_sessions.specs.Settling.{left_to, change_for, cuts_of, gifts_of}
use Rattle.sd_operations.specs.Operations.{after_own}
use Rattle.sd_sessions.proofs.NumberLists.{has, has-filter, filter-same, filter-filter, filter-append, flat_map-same}
use Rattle.sd_sessions.proofs.EntryParts.{noted_marks, entry_after}
use Rattle.sd_sessions.proofs.Attached.{holds_legal, opens_alone, opened-number, attached-opened, attached-ended, attached-kept}
use Rattle.sd_sessions.proofs.Brought.{change_items-marked, change_items-opened}
use Rattle.sd_sessions.specs.Laws.{answers_in}
use Rattle.sd_sessions.proofs.Shape.{attached, brought_to, passes_now, marks-next, given-next}
use Rattle.sd_sessions.proofs.Limits.{queue-within}
use Rattle.sd_sessions.proofs.Operations.{operations_of-attached}

filter-true : (ns : List ℕ) → filter (λ n. true) ns ≡ ns
filter-true [] = refl
filter-true (n ∷ ns) = ap (λ zs. n ∷ zs) (filter-true ns)

has-append : (n : ℕ) (ms ns : List ℕ) → has n (ms ++ ns) ≡ (has n ms || has n ns)
has-append n [] ns = refl
has-append n (m ∷ ms) ns = of (m == n) (has-append n ms ns)
  where
    of : (b : Bool) → has n (ms ++ ns) ≡ (has n ms || has n ns) → (b || has n (ms ++ ns)) ≡ ((b || has n ms) || has n ns)
    of true e = refl
    of false e = e

flat_map-append : (f : ℕ → List Given) (ms ns : List ℕ) → flat_map f (ms ++ ns) ≡ flat_map f ms ++ flat_map f ns
flat_map-append f [] ns = refl
flat_map-append f (m ∷ ms) ns = ap (λ zs. f m ++ zs) (flat_map-append f ms ns) ∙ sym (append_assoc (f m) (flat_map f ms) (flat_map f ns))

flat_map-filter : (f : ℕ → List Given) (p : ℕ → Bool) (ns : List ℕ) → flat_map f (filter p ns) ≡ flat_map (λ n. cond (p n) (f n) []) ns
flat_map-filter f p [] = refl
flat_map-filter f p (n ∷ ns) = of (p n) (flat_map-filter f p ns)
  where
    of : (b : Bool) → flat_map f (filter p ns) ≡ flat_map (λ m. cond (p m) (f m) []) ns → flat_map f (cond b (n ∷ filter p ns) (filter p ns)) ≡ cond b (f n) [] ++ flat_map (λ m. cond (p m) (f m) []) ns
    of true e = ap (λ zs. f n ++ zs) e
    of false e = e

pub called-is : (call : Option Accepted) (n : ℕ) (os : List Operation) → left_to call n os ≡ after_call n call os
called-is None n os = refl
called-is (Some call) n os = of (call.session == n)
  where
    of : (b : Bool) → after_own n (cond b (Some (record { op = call.op; request = call.request })) None) os ≡ cond b (after_request n call.op call.request os) os
    of true = refl
    of false = refl

module _ (duties : Duties) (past : List Entry) (moment word : ℕ) (ev : Event) where
  abbrev early : Outcome
  early = early_outcome ev past

  -- the answers of operations before the entry, and with it
  abbrev pub earlier_answers : Answering
  earlier_answers = answers_in past

  abbrev pub later_answers : Answering
  later_answers = answers_in (entry_after duties past moment word ev ∷ past)

  abbrev pub change : ℕ → SessionChange
  change n = change_for ev early earlier_answers later_answers (session_in past n)

  -- whether a session that was attached stays so
  abbrev pub stays : ℕ → Bool
  stays n = not (is_number n (detached ev early))

  -- The attached sessions behind the entry: those that stay, and the one that it opens.
  pub attached-is : attached duties past moment word ev ≡ filter stays (attached_sessions past) ++ option_to_list (opened early)
  attached-is = of (opened early) refl (detached ev early) refl
    where
      of : (o : Option ℕ) → opened early ≡ o → (d : Option ℕ) → detached ev early ≡ d →
          attached duties past moment word ev ≡ filter (λ n. not (is_number n d)) (attached_sessions past) ++ option_to_list o
      of (Some k) e None f = attached-opened duties past moment word ev k e ∙ ap (λ ns. ns ++ k ∷ []) (sym (filter-true (attached_sessions past)))
      of (Some k) e (Some s) f = let none : detached ev early ≡ None = opens_alone ev past k e in cc
      of None e None f = attached-kept duties past moment word ev e f ∙ sym (filter-true (attached_sessions past)) ∙ sym (append-nil (filter (λ n. true) (attached_sessions past)))
      of None e (Some s) f =
          attached-ended duties past moment word ev s e f
          ∙ filter-same (λ n. not (n == s)) (λ n. not (s == n)) (attached_sessions past) (λ n h. ap not (turned n))
          ∙ sym (append-nil (filter (λ n. not (s == n)) (attached_sessions past)))
        where
          turned : (n : ℕ) → (n == s) ≡ (s == n)
          turned n = grind arith

  pub stays-attached : (n : ℕ) → has n (attached_sessions past) ≡ true → is_number n (detached ev early) ≡ false → has n (attached duties past moment word ev) ≡ true
  stays-attached n h e =
      ap (has n) attached-is
      ∙ has-append n (filter stays (attached_sessions past)) (option_to_list (opened early))
      ∙ ap (λ b. b || has n (option_to_list (opened early))) (has-filter n stays (attached_sessions past) ∙ ap (λ b. not b && has n (attached_sessions past)) e ∙ h)

  module _ (legal : IsLegal duties past) where
    none_passes : (n : ℕ) → passes (queue n past) [] ≡ false
    none_passes n =
        let few : frames_len (queue n past) ≤ 16777216 = queue-within duties past legal n in
        let within : nat_lt 16777216 (frames_len (queue n past)) ≡ false = grind arith in
        ap (λ items. nat_lt 16777216 (frames_len items)) (append-nil (queue n past)) ∙ within

    -- what a session is brought that stays and isn't cut
    pub brought-kept : (n : ℕ) → has n (attached_sessions past) ≡ true → is_cut n past ≡ false → is_number n (detached ev early) ≡ false → (change n).brought ≡ brought_to duties past moment word ev n
    brought-kept n h uncut undetached =
        let os : List Operation = operations_of n past in
        let items : List Operation → List Item = λ after. items_between earlier_answers later_answers (reply_of n ev early) os after in
        ap (λ b. cond (b || is_number n (detached ev early)) [] (items (left_to (accepted_call ev early) n os))) uncut
        ∙ ap (λ b. cond b [] (items (left_to (accepted_call ev early) n os))) undetached
        ∙ ap items (called-is (accepted_call ev early) n os ∙ sym (operations_of-attached duties past moment word ev n (stays-attached n h undetached)))
        ∙ sym (change_items-marked duties past moment word ev n)

    -- nothing is brought to one that is cut or detached
    brought-none : (n : ℕ) → (is_cut n past || is_number n (detached ev early)) ≡ true → (change n).brought ≡ []
    brought-none n h = ap (λ b. cond b [] (items_between earlier_answers later_answers (reply_of n ev early) (operations_of n past) (left_to (accepted_call ev early) n (operations_of n past)))) h

    -- a change cuts a session where it stays, isn't cut by now, and its queue would pass its limit
    pub cuts-kept : (n : ℕ) → has n (attached_sessions past) ≡ true → (change n).cuts ≡ (stays n && (not (is_cut n past) && passes_now duties past moment word ev n))
    cuts-kept n h = of (is_cut n past) refl (is_number n (detached ev early)) refl
      where
        of : (b : Bool) → is_cut n past ≡ b → (c : Bool) → is_number n (detached ev early) ≡ c → (change n).cuts ≡ (not c && (not b && passes_now duties past moment word ev n))
        of true e true f = ap (passes (queue n past)) (brought-none n (ap (λ b. b || is_number n (detached ev early)) e)) ∙ none_passes n
        of true e false f = ap (passes (queue n past)) (brought-none n (ap (λ b. b || is_number n (detached ev early)) e)) ∙ none_passes n
        of false e true f = ap (passes (queue n past)) (brought-none n (ap (λ b. b || is_number n (detached ev early)) e ∙ f)) ∙ none_passes n
        of false e false f = ap (passes (queue n past)) (brought-kept n h e f)

    cuts_of-map : (ns : List ℕ) → cuts_of (map (change_for ev early earlier_answers later_answers) (map (session_in past) ns)) ≡ map (λ n. mark.Cut n) (filter (λ n. (change n).cuts) ns)
    cuts_of-map [] = refl
    cuts_of-map (n ∷ ns) = of (change n).cuts (cuts_of-map ns)
      where
        rest : List SessionChange
        rest = map (change_for ev early earlier_answers later_answers) (map (session_in past) ns)

        of : (b : Bool) → cuts_of rest ≡ map (λ m. mark.Cut m) (filter (λ m. (change m).cuts) ns) →
            map (λ c. mark.Cut c.session) (cond b (change n ∷ filter (λ c. c.cuts) rest) (filter (λ c. c.cuts) rest)) ≡ map (λ m. mark.Cut m) (cond b (n ∷ filter (λ m. (change m).cuts) ns) (filter (λ m. (change m).cuts) ns))
        of true e = ap (λ zs. mark.Cut n ∷ zs) e
        of false e = e

    gifts_of-map : (ns : List ℕ) → gifts_of (map (change_for ev early earlier_answers later_answers) (map (session_in past) ns)) ≡ flat_map (λ n. cond (not (change n).cuts) (map (given_to n) (change n).brought) []) ns
    gifts_of-map [] = refl
    gifts_of-map (n ∷ ns) = of (not (change n).cuts) (gifts_of-map ns)
      where
        rest : List SessionChange
        rest = map (change_for ev early earlier_answers later_answers) (map (session_in past) ns)

        of : (b : Bool) → gifts_of rest ≡ flat_map (λ m. cond (not (change m).cuts) (map (given_to m) (change m).brought) []) ns →
            flat_map (λ c. map (given_to c.session) c.brought) (cond b (change n ∷ filter (λ c. not c.cuts) rest) (filter (λ c. not c.cuts) rest))
            ≡ cond b (map (given_to n) (change n).brought) [] ++ flat_map (λ m. cond (not (change m).cuts) (map (given_to m) (change m).brought) []) ns
        of true e = ap (λ zs. map (given_to n) (change n).brought ++ zs) e
        of false e = e

    new_number : (k : ℕ) → opened early ≡ Some k → opened_count past < k
    new_number k e = let number : k ≡ opened_count past + 1 = opened-number duties past moment word ev k e in omega arith

    new_brought : (k : ℕ) → opened early ≡ Some k → brought_to duties past moment word ev k ≡ []
    new_brought k e = change_items-opened duties past moment word ev k (holds_legal duties past legal) e

    pub new_fits : (k : ℕ) → opened early ≡ Some k → passes_now duties past moment word ev k ≡ false
    new_fits k e = ap (passes (queue k past)) (new_brought k e) ∙ none_passes k

    -- the session that is opened is neither cut nor given anything
    new_uncut : (o : Option ℕ) → opened early ≡ o → filter (λ n. not (is_cut n past) && passes_now duties past moment word ev n) (option_to_list o) ≡ []
    new_uncut None e = refl
    new_uncut (Some k) e =
        ap (λ b. cond (not (is_cut k past) && b) (k ∷ []) []) (new_fits k e) ∙ off (not (is_cut k past))
      where
        off : (b : Bool) → ◌≡◌ {A = List ℕ} (cond (b && false) (k ∷ []) []) []
        off true = refl
        off false = refl

    new_ungiven : (o : Option ℕ) → opened early ≡ o →
        flat_map (λ n. map (given_to n) (brought_to duties past moment word ev n)) (filter (λ n. not (is_cut n past) && not (passes_now duties past moment word ev n)) (option_to_list o)) ≡ []
    new_ungiven None e = refl
    new_ungiven (Some k) e =
        flat_map-filter (λ n. map (given_to n) (brought_to duties past moment word ev n)) (λ n. not (is_cut n past) && not (passes_now duties past moment word ev n)) (k ∷ [])
        ∙ ap (λ items. cond (not (is_cut k past) && not (passes_now duties past moment word ev k)) (map (given_to k) items) [] ++ []) (new_brought k e)
        ∙ off (not (is_cut k past) && not (passes_now duties past moment word ev k))
      where
        off : (b : Bool) → ◌≡◌ {A = List Given} (cond b [] [] ++ []) []
        off true = refl
        off false = refl

    -- The marks are that of a refusal, those of the duties, and the cuts of the sessions' changes.
    pub marks-kept : (entry_after duties past moment word ev).marks
        ≡ noted_marks duties past moment word ev ++ cuts_of (map (change_for ev early earlier_answers later_answers) (sessions_in past))
    marks-kept =
        let cutting : ℕ → Bool = λ n. not (is_cut n past) && passes_now duties past moment word ev n in
        let kept : List ℕ = filter stays (attached_sessions past) in
        marks-next duties past moment word ev
        ∙ ap (λ ns. noted_marks duties past moment word ev ++ map (λ n. mark.Cut n) ns) (
        ap (filter cutting) attached-is
        ∙ filter-append cutting kept (option_to_list (opened early))
        ∙ ap (λ zs. filter cutting kept ++ zs) (new_uncut (opened early) refl)
        ∙ append-nil (filter cutting kept)
        ∙ filter-filter cutting stays (attached_sessions past)
        ∙ filter-same (λ n. stays n && cutting n) (λ n. (change n).cuts) (attached_sessions past) (λ n h. sym (cuts-kept n h)))
        ∙ ap (λ ms. noted_marks duties past moment word ev ++ ms) (sym (cuts_of-map (attached_sessions past)))

    -- what a session is given, by its change
    given_each : (n : ℕ) → has n (attached_sessions past) ≡ true →
        cond (stays n && (not (is_cut n past) && not (passes_now duties past moment word ev n))) (map (given_to n) (brought_to duties past moment word ev n)) [] ≡ cond (not (change n).cuts) (map (given_to n) (change n).brought) []
    given_each n h = of (is_cut n past) refl (is_number n (detached ev early)) refl
      where
        off : (b : Bool) → ◌≡◌ {A = List Given} [] (cond b [] [])
        off true = refl
        off false = refl

        nothing : (change n).brought ≡ [] → ◌≡◌ {A = List Given} [] (cond (not (change n).cuts) (map (given_to n) (change n).brought) [])
        nothing none = off (not (change n).cuts) ∙ ap (λ items. cond (not (change n).cuts) (map (given_to n) items) []) (sym none)

        of : (b : Bool) → is_cut n past ≡ b → (c : Bool) → is_number n (detached ev early) ≡ c →
            cond (not c && (not b && not (passes_now duties past moment word ev n))) (map (given_to n) (brought_to duties past moment word ev n)) [] ≡ cond (not (change n).cuts) (map (given_to n) (change n).brought) []
        of true e true f = nothing (brought-none n (ap (λ b. b || is_number n (detached ev early)) e))
        of true e false f = nothing (brought-none n (ap (λ b. b || is_number n (detached ev early)) e))
        of false e true f = nothing (brought-none n (ap (λ b. b || is_number n (detached ev early)) e ∙ f))
        of false e false f = ap (λ items. cond (not (passes (queue n past) items)) (map (given_to n) items) []) (sym (brought-kept n h e f))

    -- The entry gives what the sessions' changes bring.
    pub given-kept : (entry_after duties past moment word ev).given ≡ gifts_of (map (change_for ev early earlier_answers later_answers) (sessions_in past))
    given-kept =
        let serving : ℕ → Bool = λ n. not (is_cut n past) && not (passes_now duties past moment word ev n) in
        let gifts : ℕ → List Given = λ n. map (given_to n) (brought_to duties past moment word ev n) in
        let kept : List ℕ = filter stays (attached_sessions past) in
        given-next duties past moment word ev
        ∙ ap (λ ns. flat_map gifts (filter serving ns)) attached-is
        ∙ ap (flat_map gifts) (filter-append serving kept (option_to_list (opened early)))
        ∙ flat_map-append gifts (filter serving kept) (filter serving (option_to_list (opened early)))
        ∙ ap (λ zs. flat_map gifts (filter serving kept) ++ zs) (new_ungiven (opened early) refl)
        ∙ append-nil (flat_map gifts (filter serving kept))
        ∙ ap (flat_map gifts) (filter-filter serving stays (attached_sessions past))
        ∙ flat_map-filter gifts (λ n. stays n && serving n) (attached_sessions past)
        ∙ flat_map-same (λ n. cond (stays n && serving n) (gifts n) []) (λ n. cond (not (change n).cuts) (map (given_to n) (change n).brought) []) (attached_sessions past) given_each
        ∙ sym (gifts_of-map (attached_sessions past))
