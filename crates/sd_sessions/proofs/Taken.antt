-- The outcome of a take, and the sessions after it, by what is kept.
use Rattle.std.proofs.Common.{◌≡◌, ℕ, ◌==◌, Bool, true, false, cond, ◌&&◌, List, [], ◌∷◌, map, take, drop, length, Some, None, refl, ap, ◌∙◌, sym, arith}
use Rattle.std.specs.Prelude.{filter, nat_lt}
use Rattle.std.specs.List.{find, list_all}
use Rattle.sd_call.specs.declared.item.Item.{Item}
use Rattle.mdns_history.specs.declared.event.Event.{Event}
use Rattle.mdns_history.specs.declared.event.Event.TheVariants as event
use Rattle.mdns_history.specs.declared.entry.Outcome.{Outcome}
use Rattle.mdns_history.specs.declared.entry.Outcome.TheVariants as outcome
use Rattle.mdns_history.specs.declared.entry.Entry.{Entry}
use Rattle.mdns_history.specs.InForce.{Duties}
use Rattle.mdns_history.specs.Sessions.{opened, attached_sessions}
use Rattle.mdns_history.specs.Items.{handed_over}
use Rattle.mdns_history.specs.Outcomes.{early_outcome, items_or_empty}
use Rattle.mdns_history.specs.Fitting.{IsLegal}
use Rattle.sd_sessions.specs.Sessions.{Session, sessions_in}
use Rattle.sd_sessions.specs.Codes.{has_number}
use Rattle.sd_sessions.specs.Settling.{remaining, with_opened, handed_to, outcome_then, taken_from, sessions_after}
use Rattle.sd_sessions.proofs.NumberLists.{has, has-first, has-later, IsRising}
use Rattle.sd_sessions.proofs.EntryParts.{entry_after}
use Rattle.sd_sessions.proofs.Attached.{attached_sessions-rising}
use Rattle.sd_sessions.proofs.Takes.{handed_over-other, handed_over-own}
use Rattle.sd_sessions.proofs.KeptSessions.{settled_sessions, settled_one, settled_map, found_settled, sessions-kept, take-kept, without_handed, drop-taken, drop-empty}

filter-all_sessions : (xs : List Session) → filter (λ x. true) xs ≡ xs
filter-all_sessions [] = refl
filter-all_sessions (x ∷ xs) = ap (λ zs. x ∷ zs) (filter-all_sessions xs)

-- the sessions after a take, by rising numbers
module _ (s max : ℕ) (o : Outcome) (f : ℕ → Session) (numbered : (n : ℕ) → (f n).number ≡ n) where
  abbrev left : Session → Session
  left session = without_handed (event.Take s max) o session

  left_other : (n : ℕ) → (s == n) ≡ false → left (f n) ≡ f n
  left_other n other =
      ap (λ k. record (f n) { queue = drop (length (handed_over k (event.Take s max) o)) (f n).queue }) (numbered n)
      ∙ ap (λ (items : List Item). record (f n) { queue = drop (length items) (f n).queue }) (handed_over-other n s max o other)

  untouched : (ns : List ℕ) → list_all (nat_lt s) ns ≡ true → map left (map f ns) ≡ map f ns
  untouched [] above = refl
  untouched (n ∷ ns) above = of (nat_lt s n) refl above (untouched ns)
    where
      of : (b : Bool) → nat_lt s n ≡ b → (b && list_all (nat_lt s) ns) ≡ true → (list_all (nat_lt s) ns ≡ true → map left (map f ns) ≡ map f ns) → left (f n) ∷ map left (map f ns) ≡ f n ∷ map f ns
      of true e h rest = let other : (s == n) ≡ false = grind arith in ap (λ x. x ∷ map left (map f ns)) (left_other n other) ∙ ap (λ xs. f n ∷ xs) (rest h)
      of false e h rest = cc

  taken_from-is : (ns : List ℕ) → IsRising ns → (has s ns ≡ true → drop (length (handed_over s (event.Take s max) o)) (f s).queue ≡ drop max (f s).queue) → map left (map f ns) ≡ taken_from s max (map f ns)
  taken_from-is [] rising own = refl
  taken_from-is (n ∷ ns) rising own =
      of (n == s) refl (taken_from-is ns rising.1 (λ h. own (has-later s n ns h)))
      ∙ ap (λ k. cond (k == s) (record (f n) { queue = drop max (f n).queue } ∷ map f ns) (f n ∷ taken_from s max (map f ns))) (sym (numbered n))
    where
      of : (b : Bool) → (n == s) ≡ b → map left (map f ns) ≡ taken_from s max (map f ns) →
          left (f n) ∷ map left (map f ns) ≡ cond b (record (f n) { queue = drop max (f n).queue } ∷ map f ns) (f n ∷ taken_from s max (map f ns))
      of true e rest =
          let here : n ≡ s = grind arith in
          let above : list_all (nat_lt s) ns ≡ true = ap (λ k. list_all (nat_lt k) ns) (sym here) ∙ rising.0 in
          let there : has s (n ∷ ns) ≡ true = ap (λ k. has k (n ∷ ns)) (sym here) ∙ has-first n ns in
          ap (λ xs. left (f n) ∷ xs) (untouched ns above)
          ∙ ap (λ k. left (f k) ∷ map f ns) here
          ∙ ap (λ k. record (f s) { queue = drop (length (handed_over k (event.Take s max) o)) (f s).queue } ∷ map f ns) (numbered s)
          ∙ ap (λ q. record (f s) { queue = q } ∷ map f ns) (own there)
          ∙ ap (λ k. record (f k) { queue = drop max (f k).queue } ∷ map f ns) (sym here)
      of false e rest =
          let other : (s == n) ≡ false = grind arith in
          ap (λ x. x ∷ map left (map f ns)) (left_other n other) ∙ ap (λ xs. f n ∷ xs) rest

module _ (duties : Duties) (history : List Entry) (moment word s max : ℕ) (legal : IsLegal duties history) where
  abbrev taking : Event
  taking = event.Take s max

  abbrev settled_now : List Session
  settled_now = settled_sessions duties history moment word taking

  -- The outcome of a take is told by the session of its number.
  pub taken-outcome : (entry_after duties history moment word taking).outcome
      ≡ outcome_then taking (early_outcome taking history) (with_opened (opened (early_outcome taking history)) (remaining taking (early_outcome taking history) settled_now))
  unfolding early_outcome
  taken-outcome =
      take-kept duties history moment word s max legal
      ∙ ap (λ xs. handed_to max (find (has_number s) xs)) (sym (filter-all_sessions settled_now))

  -- what is handed over to the session is the front of its queue
  front : (one : Session) → (one.cut ≡ true → one.queue ≡ []) → drop (length (handed_over s taking (handed_to max (Some one)))) one.queue ≡ drop max one.queue
  front one emptied = of one.cut refl
    where
      of : (b : Bool) → one.cut ≡ b → drop (length (handed_over s taking (cond b outcome.Cut (items_or_empty (take max one.queue))))) one.queue ≡ drop max one.queue
      of true e = emptied e ∙ drop-empty max ∙ ap (drop max) (sym (emptied e))
      of false e = ap (λ (items : List Item). drop (length items) one.queue) (handed_over-own s max (take max one.queue)) ∙ drop-taken max one.queue

  -- The sessions after a take: that of its number is without the front of its queue.
  pub taken-sessions : sessions_in (entry_after duties history moment word taking ∷ history)
      ≡ sessions_after taking (with_opened (opened (early_outcome taking history)) (remaining taking (early_outcome taking history) settled_now))
  unfolding early_outcome
  taken-sessions =
      let o : Outcome = (entry_after duties history moment word taking).outcome in
      let ns : List ℕ = attached_sessions history in
      let one : ℕ → Session = settled_one duties history moment word taking in
      sessions-kept duties history moment word taking legal
      ∙ ap (map (without_handed taking o)) (filter-all_sessions settled_now ∙ settled_map duties history moment word taking ns)
      ∙ taken_from-is s max o one (λ n. refl) ns (attached_sessions-rising history) own
      ∙ ap (taken_from s max) (sym (filter-all_sessions settled_now ∙ settled_map duties history moment word taking ns))
    where
      own : has s (attached_sessions history) ≡ true →
          drop (length (handed_over s taking (entry_after duties history moment word taking).outcome)) (settled_one duties history moment word taking s).queue ≡ drop max (settled_one duties history moment word taking s).queue
      own h =
          ap (λ o. drop (length (handed_over s taking o)) (settled_one duties history moment word taking s).queue)
          (take-kept duties history moment word s max legal
          ∙ ap (handed_to max) (ap (find (has_number s)) (settled_map duties history moment word taking (attached_sessions history)) ∙ found_settled duties history moment word taking s (attached_sessions history)
          ∙ ap (λ b. cond b (Some (settled_one duties history moment word taking s)) None) h))
          ∙ front (settled_one duties history moment word taking s) (λ e. rw e refl)
