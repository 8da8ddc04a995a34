-- What is queued for sessions behind an entry, what a take hands over, and that no queue passes its limit.
use Rattle.std.proofs.Common.{◌≡◌, ℕ, zero, suc, ◌≤◌, Bool, true, false, cond, not, ◌&&◌, ◌||◌, List, [], ◌∷◌, ◌++◌, drop, length, refl, ap, subst, ◌∙◌, sym, arith, append_assoc, append-nil, length-append}
use Rattle.std.proofs.Math.Seq.{drop-append-add}
use Rattle.std.specs.List.{filter_map}
use Rattle.sd_call.specs.declared.item.Item.{Item}
use Rattle.sd_call.specs.Answers.{frames_len}
use Rattle.mdns_history.specs.declared.event.Event.{Event}
use Rattle.mdns_history.specs.declared.entry.Entry.{Entry}
use Rattle.mdns_history.specs.InForce.{Duties}
use Rattle.mdns_history.specs.Sessions.{is_cut}
use Rattle.mdns_history.specs.Items.{item_for, session_items, taken_items, handed_over, queue}
use Rattle.mdns_history.specs.Fitting.{IsLegal}
use Rattle.mdns_history.proofs.LegalQueue.{Begins, begins_from}
use Rattle.sd_sessions.proofs.NumberLists.{has}
use Rattle.sd_sessions.proofs.EntryParts.{entry_after, entry_is}
use Rattle.sd_sessions.proofs.Shape.{attached, brought_to, passes_now, is_cut-attached, is_cut-next, given_for}

-- The items that a session was given begin with those that it took.
pub begins_legal : (duties : Duties) (past : List Entry) → IsLegal duties past → (n : ℕ) → Begins (session_items n past) (taken_items n past)
begins_legal duties [] legal n = absurd legal
begins_legal duties (entry ∷ past) legal n = begins_from duties n entry past legal

-- the queue of a session that isn't cut, behind any entry: what it gives is put behind, what it hands over taken off
pub queue-cons : (n : ℕ) (entry : Entry) (past : List Entry) → Begins (session_items n past) (taken_items n past) → is_cut n past ≡ false → is_cut n (entry ∷ past) ≡ false →
    queue n (entry ∷ past) ≡ drop (length (handed_over n entry.event entry.outcome)) (queue n past ++ filter_map (item_for n) entry.given)
unfolding queue session_items taken_items
queue-cons n entry past begins before after =
    let taken : List Item = taken_items n past in
    let rest : List Item = drop (length taken) (session_items n past) in
    let handed : List Item = handed_over n entry.event entry.outcome in
    let given : List Item = filter_map (item_for n) entry.given in
    ap (λ c. cond c [] (drop (length (taken ++ handed)) (session_items n past ++ given))) after
    ∙ ap (λ xs. drop (length (taken ++ handed)) (xs ++ given)) begins
    ∙ ap (drop (length (taken ++ handed))) (append_assoc taken rest given)
    ∙ ap (λ k. drop k (taken ++ (rest ++ given))) (length-append taken handed)
    ∙ drop-append-add taken (rest ++ given) (length handed)
    ∙ ap (λ c. drop (length handed) (cond c [] rest ++ given)) (sym before)

-- nothing is queued for a cut session
pub queue-cut : (n : ℕ) (history : List Entry) → is_cut n history ≡ true → queue n history ≡ []
unfolding queue
queue-cut n history cut = rw cut refl

frames_len-drop : (k : ℕ) (items : List Item) → frames_len (drop k items) ≤ frames_len items
frames_len-drop zero items = omega arith
frames_len-drop (suc k) [] = omega arith
frames_len-drop (suc k) (item ∷ items) = let rest : frames_len (drop k items) ≤ frames_len items = frames_len-drop k items in omega arith

module _ (duties : Duties) (past : List Entry) (moment word : ℕ) (ev : Event)
    (begins : (n : ℕ) → Begins (session_items n past) (taken_items n past)) where
  -- what the entry hands over to a session
  abbrev pub handed_to : ℕ → List Item
  handed_to n = handed_over n ev (entry_after duties past moment word ev).outcome

  abbrev test_given : ℕ → Bool
  test_given n = has n (attached duties past moment word ev) && (not (is_cut n past) && not (passes_now duties past moment word ev n))

  given_part : (n : ℕ) → filter_map (item_for n) (entry_after duties past moment word ev).given ≡ cond (test_given n) (brought_to duties past moment word ev n) []
  given_part n = ap (λ e. filter_map (item_for n) e.given) (entry_is duties past moment word ev) ∙ given_for duties past moment word ev n

  event_part : (entry_after duties past moment word ev).event ≡ ev
  event_part = ap (λ e. e.event) (entry_is duties past moment word ev)

  uncut_before : (n : ℕ) → is_cut n (entry_after duties past moment word ev ∷ past) ≡ false → is_cut n past ≡ false
  uncut_before n after = of (is_cut n past) (has n (attached duties past moment word ev) && passes_now duties past moment word ev n) (sym (is_cut-next duties past moment word ev n) ∙ after)
    where
      of : (b c : Bool) → (b || c) ≡ false → b ≡ false
      of true c h = h
      of false c h = refl

  queue_uncut : (n : ℕ) → is_cut n (entry_after duties past moment word ev ∷ past) ≡ false →
      queue n (entry_after duties past moment word ev ∷ past) ≡ drop (length (handed_to n)) (queue n past ++ cond (test_given n) (brought_to duties past moment word ev n) [])
  queue_uncut n after =
      queue-cons n (entry_after duties past moment word ev) past (begins n) (uncut_before n after) after
      ∙ ap (λ e. drop (length (handed_over n e (entry_after duties past moment word ev).outcome)) (queue n past ++ filter_map (item_for n) (entry_after duties past moment word ev).given)) event_part
      ∙ ap (λ xs. drop (length (handed_to n)) (queue n past ++ xs)) (given_part n)

  -- The queue of a session that is attached behind the entry: none where it is cut, else what was queued and what is brought, but for what is handed over.
  pub queue-next : (n : ℕ) → has n (attached duties past moment word ev) ≡ true →
      queue n (entry_after duties past moment word ev ∷ past)
      ≡ cond (is_cut n past || passes_now duties past moment word ev n) [] (drop (length (handed_to n)) (queue n past ++ brought_to duties past moment word ev n))
  queue-next n h = of (is_cut n past) refl (passes_now duties past moment word ev n) refl
    where
      of : (b : Bool) → is_cut n past ≡ b → (c : Bool) → passes_now duties past moment word ev n ≡ c →
          queue n (entry_after duties past moment word ev ∷ past) ≡ cond (b || c) [] (drop (length (handed_to n)) (queue n past ++ brought_to duties past moment word ev n))
      of true e c f = queue-cut n (entry_after duties past moment word ev ∷ past) (is_cut-attached duties past moment word ev n h ∙ ap (λ b. b || passes_now duties past moment word ev n) e)
      of false e true f = queue-cut n (entry_after duties past moment word ev ∷ past) (is_cut-attached duties past moment word ev n h ∙ ap (λ b. b || passes_now duties past moment word ev n) e ∙ f)
      of false e false f =
          queue_uncut n (is_cut-attached duties past moment word ev n h ∙ ap (λ b. b || passes_now duties past moment word ev n) e ∙ f)
          ∙ ap (λ b. drop (length (handed_to n)) (queue n past ++ cond (b && (not (is_cut n past) && not (passes_now duties past moment word ev n))) (brought_to duties past moment word ev n) [])) h
          ∙ ap (λ b. drop (length (handed_to n)) (queue n past ++ cond (not b && not (passes_now duties past moment word ev n)) (brought_to duties past moment word ev n) [])) e
          ∙ ap (λ b. drop (length (handed_to n)) (queue n past ++ cond (not b) (brought_to duties past moment word ev n) [])) f

  -- no queue passes its limit behind the entry, where none did before it
  pub queue_within : (n : ℕ) → frames_len (queue n past) ≤ 16777216 → frames_len (queue n (entry_after duties past moment word ev ∷ past)) ≤ 16777216
  queue_within n before = of (is_cut n (entry_after duties past moment word ev ∷ past)) refl
    where
      kept : (a b : Bool) → passes_now duties past moment word ev n ≡ b → frames_len (queue n past ++ cond (a && (true && not b)) (brought_to duties past moment word ev n) []) ≤ 16777216
      kept true true e = subst (λ xs. frames_len xs ≤ 16777216) (sym (append-nil (queue n past))) before
      kept true false e = grind (arith, e)
      kept false b e = subst (λ xs. frames_len xs ≤ 16777216) (sym (append-nil (queue n past))) before

      of : (b : Bool) → is_cut n (entry_after duties past moment word ev ∷ past) ≡ b → frames_len (queue n (entry_after duties past moment word ev ∷ past)) ≤ 16777216
      of true e = subst (λ xs. frames_len xs ≤ 16777216) (sym (queue-cut n (entry_after duties past moment word ev ∷ past) e)) (omega arith)
      of false e =
          let whole : List Item = queue n past ++ cond (test_given n) (brought_to duties past moment word ev n) [] in
          let few : frames_len whole ≤ 16777216 = subst (λ b. frames_len (queue n past ++ cond (has n (attached duties past moment word ev) && (not b && not (passes_now duties past moment word ev n))) (brought_to duties past moment word ev n) []) ≤ 16777216)
          (sym (uncut_before n e)) (kept (has n (attached duties past moment word ev)) (passes_now duties past moment word ev n) refl) in
          let less : frames_len (drop (length (handed_to n)) whole) ≤ frames_len whole = frames_len-drop (length (handed_to n)) whole in
          let small : frames_len (drop (length (handed_to n)) whole) ≤ 16777216 = omega arith in
          subst (λ xs. frames_len xs ≤ 16777216) (sym (queue_uncut n e)) small
