-- The parts of the entry that follows: its marks, what it gives, and which sessions it cuts.
use Rattle.std.proofs.Common.{◌≡◌, ℕ, ◌==◌, Bool, true, false, cond, not, ◌&&◌, ◌||◌, List, [], ◌∷◌, ◌++◌, map, refl, ap, ◌∙◌, sym, arith, append-nil}
use Rattle.std.proofs.lemmas.List.Elements.{filter_map-append}
use Rattle.std.specs.Prelude.{filter, nat_lt}
use Rattle.std.specs.List.{list_any, list_all, flat_map, filter_map}
use Rattle.std.proofs.lemmas.List.Folds.{list_any-append}
use Rattle.sd_call.specs.declared.item.Item.{Item}
use Rattle.mdns_history.specs.declared.event.Event.{Event}
use Rattle.mdns_history.specs.declared.mark.Mark.TheVariants as mark
use Rattle.mdns_history.specs.InForce.{Duties}
use Rattle.mdns_history.specs.declared.entry.Entry.{Entry}
use Rattle.mdns_history.specs.History.{has_mark}
use Rattle.mdns_history.specs.Sessions.{is_attached, attached_sessions, is_cut, is_cut_of}
use Rattle.mdns_history.specs.Items.{given_to, item_for, change_items, served_sessions, given_items, queue, would_pass, cut_marks}
use Rattle.mdns_history.proofs.SessionLists.{items_for}
use Rattle.sd_sessions.specs.Changes.{passes}
use Rattle.sd_sessions.proofs.NumberLists.{has, has-filter, filter-same, filter-filter, flat_map-same, IsRising, IsRising-filter}
use Rattle.sd_sessions.proofs.EntryParts.{noted_marks, marked, cutting, entry_after, entry_is}
use Rattle.sd_sessions.proofs.EntryMarks.{noted_cuts_none}
use Rattle.sd_sessions.proofs.Attached.{attached_sessions-rising}
use Rattle.sd_sessions.proofs.Brought.{change_items-cutting}

any-cuts : (n : ℕ) (ns : List ℕ) → list_any (is_cut_of n) (map (λ m. mark.Cut m) ns) ≡ has n ns
any-cuts n [] = refl
any-cuts n (m ∷ ns) = ap (λ b. (m == n) || b) (any-cuts n ns)

-- the items of a session among those that are given, by rising numbers
absent : (n : ℕ) (ns : List ℕ) → list_all (nat_lt n) ns ≡ true → has n ns ≡ false
absent n [] h = refl
absent n (m ∷ ns) h = of (nat_lt n m) refl h (absent n ns)
  where
    of : (b : Bool) → nat_lt n m ≡ b → (b && list_all (nat_lt n) ns) ≡ true → (list_all (nat_lt n) ns ≡ true → has n ns ≡ false) → ((m == n) || has n ns) ≡ false
    of true e g rest = let other : (m == n) ≡ false = grind arith in ap (λ b. b || has n ns) other ∙ rest g
    of false e g rest = cc

given-one : (n : ℕ) (items : ℕ → List Item) (ns : List ℕ) → IsRising ns → filter_map (item_for n) (flat_map (λ m. map (given_to m) (items m)) ns) ≡ cond (has n ns) (items n) []
given-one n items [] rising = refl
given-one n items (m ∷ ns) rising =
    filter_map-append (item_for n) (map (given_to m) (items m)) (flat_map (λ k. map (given_to k) (items k)) ns)
    ∙ ap (λ xs. xs ++ filter_map (item_for n) (flat_map (λ k. map (given_to k) (items k)) ns)) (items_for n m (items m))
    ∙ ap (λ ys. cond (m == n) (items m) [] ++ ys) (given-one n items ns rising.1)
    ∙ of (m == n) refl
  where
    of : (b : Bool) → (m == n) ≡ b → cond b (items m) [] ++ cond (has n ns) (items n) [] ≡ cond (b || has n ns) (items n) []
    of true e =
        let here : m ≡ n = grind arith in
        let gone : has n ns ≡ false = ap (λ k. has k ns) (sym here) ∙ absent m ns rising.0 in
        ap (λ b. items m ++ cond b (items n) []) gone ∙ append-nil (items m) ∙ ap items here
    of false e = refl

module _ (duties : Duties) (past : List Entry) (moment word : ℕ) (ev : Event) where
  -- the sessions that are attached behind the entry, and what it brings each
  abbrev pub attached : List ℕ
  attached = attached_sessions (marked duties past moment word ev ∷ past)

  abbrev pub brought_to : ℕ → List Item
  brought_to n = change_items n (marked duties past moment word ev) past

  -- whether the entry would pass the limit of a session's queue
  abbrev pub passes_now : ℕ → Bool
  passes_now n = passes (queue n past) (brought_to n)

  is_cut-marked : (n : ℕ) → is_cut n (marked duties past moment word ev ∷ past) ≡ is_cut n past
  unfolding is_cut
  is_cut-marked n = ap (λ b. b || list_any (has_mark (is_cut_of n)) past) (noted_cuts_none duties past moment word ev n)

  cut_marks-is : cut_marks (marked duties past moment word ev) past ≡ map (λ n. mark.Cut n) (filter (λ n. not (is_cut n past) && passes_now n) attached)
  unfolding cut_marks served_sessions
  cut_marks-is = ap (map (λ n. mark.Cut n)) (
      filter-filter (would_pass (marked duties past moment word ev) past) (λ n. not (is_cut n (marked duties past moment word ev ∷ past))) attached
      ∙ filter-same (λ n. not (is_cut n (marked duties past moment word ev ∷ past)) && passes_now n) (λ n. not (is_cut n past) && passes_now n) attached
      (λ n h. ap (λ b. not b && passes_now n) (is_cut-marked n)))

  cut_by : (n : ℕ) → has_mark (is_cut_of n) (cutting duties past moment word ev) ≡ ((not (is_cut n past) && passes_now n) && has n attached)
  cut_by n =
      list_any-append (is_cut_of n) (noted_marks duties past moment word ev) (cut_marks (marked duties past moment word ev) past)
      ∙ ap (λ b. b || list_any (is_cut_of n) (cut_marks (marked duties past moment word ev) past)) (noted_cuts_none duties past moment word ev n)
      ∙ ap (list_any (is_cut_of n)) cut_marks-is
      ∙ any-cuts n (filter (λ m. not (is_cut m past) && passes_now m) attached)
      ∙ has-filter n (λ m. not (is_cut m past) && passes_now m) attached

  cut_step : (n : ℕ) → is_cut n (cutting duties past moment word ev ∷ past) ≡ (has_mark (is_cut_of n) (cutting duties past moment word ev) || is_cut n past)
  unfolding is_cut
  cut_step n = refl

  pub cut_whole : (n : ℕ) → is_cut n (entry_after duties past moment word ev ∷ past) ≡ is_cut n (cutting duties past moment word ev ∷ past)
  unfolding is_cut
  cut_whole n = ap (λ e. is_cut n (e ∷ past)) (entry_is duties past moment word ev)

  -- A session is cut with the entry if it was cut before, or is attached and its queue would pass its limit.
  pub is_cut-next : (n : ℕ) → is_cut n (entry_after duties past moment word ev ∷ past) ≡ (is_cut n past || (has n attached && passes_now n))
  is_cut-next n = cut_whole n ∙ cut_step n ∙ ap (λ b. b || is_cut n past) (cut_by n) ∙ turned (is_cut n past) (passes_now n) (has n attached)
    where
      turned : (c p a : Bool) → (((not c && p) && a) || c) ≡ (c || (a && p))
      turned true true true = refl
      turned true true false = refl
      turned true false true = refl
      turned true false false = refl
      turned false true true = refl
      turned false true false = refl
      turned false false true = refl
      turned false false false = refl

  pub is_cut-attached : (n : ℕ) → has n attached ≡ true → is_cut n (entry_after duties past moment word ev ∷ past) ≡ (is_cut n past || passes_now n)
  is_cut-attached n h = is_cut-next n ∙ ap (λ b. is_cut n past || (b && passes_now n)) h

  -- The marks are that of a refusal, those of the duties, and those of the sessions that are cut.
  pub marks-next : (entry_after duties past moment word ev).marks ≡ noted_marks duties past moment word ev ++ map (λ n. mark.Cut n) (filter (λ n. not (is_cut n past) && passes_now n) attached)
  marks-next = ap (λ e. e.marks) (entry_is duties past moment word ev) ∙ ap (λ ms. noted_marks duties past moment word ev ++ ms) cut_marks-is

  same_attached : attached_sessions (cutting duties past moment word ev ∷ past) ≡ attached
  unfolding attached_sessions is_attached
  same_attached = refl

  served : served_sessions (cutting duties past moment word ev) past ≡ filter (λ n. not (is_cut n past) && not (passes_now n)) attached
  unfolding served_sessions
  served =
      ap (filter (λ n. not (is_cut n (cutting duties past moment word ev ∷ past)))) same_attached
      ∙ filter-same (λ n. not (is_cut n (cutting duties past moment word ev ∷ past))) (λ n. not (is_cut n past) && not (passes_now n)) attached
      (λ n h. ap not (sym (cut_whole n) ∙ is_cut-attached n h) ∙ nor (is_cut n past) (passes_now n))
    where
      nor : (c p : Bool) → not (c || p) ≡ (not c && not p)
      nor true p = refl
      nor false p = refl

  given-is : given_items (cutting duties past moment word ev) past ≡ flat_map (λ n. map (given_to n) (brought_to n)) (filter (λ n. not (is_cut n past) && not (passes_now n)) attached)
  unfolding given_items
  given-is =
      ap (flat_map (λ n. map (given_to n) (change_items n (cutting duties past moment word ev) past))) served
      ∙ flat_map-same (λ n. map (given_to n) (change_items n (cutting duties past moment word ev) past)) (λ n. map (given_to n) (brought_to n)) (filter (λ n. not (is_cut n past) && not (passes_now n)) attached)
      (λ n h. ap (map (given_to n)) (change_items-cutting duties past moment word ev n))

  -- Each attached session that isn't cut is given what the entry brings it.
  pub given-next : (entry_after duties past moment word ev).given ≡ flat_map (λ n. map (given_to n) (brought_to n)) (filter (λ n. not (is_cut n past) && not (passes_now n)) attached)
  given-next = ap (λ e. e.given) (entry_is duties past moment word ev) ∙ given-is

  -- what one session is given
  pub given_for : (n : ℕ) → filter_map (item_for n) (given_items (cutting duties past moment word ev) past) ≡ cond (has n attached && (not (is_cut n past) && not (passes_now n))) (brought_to n) []
  given_for n =
      ap (filter_map (item_for n)) given-is
      ∙ given-one n brought_to (filter (λ m. not (is_cut m past) && not (passes_now m)) attached)
      (IsRising-filter (λ m. not (is_cut m past) && not (passes_now m)) attached (attached_sessions-rising (marked duties past moment word ev ∷ past)))
      ∙ ap (λ b. cond b (brought_to n) []) (has-filter n (λ m. not (is_cut m past) && not (passes_now m)) attached ∙ and_swap (not (is_cut n past) && not (passes_now n)) (has n attached))
    where
      and_swap : (a b : Bool) → (a && b) ≡ (b && a)
      and_swap true true = refl
      and_swap true false = refl
      and_swap false true = refl
      and_swap false false = refl
