-- What is kept stands for the same histories whatever the order of the held records; and the next due moment doesn't look at that order.
use Rattle.std.proofs.Common.{◌≡◌, ℕ, ◌+◌, ◌≤◌, min, max, List, [], ◌∷◌, ◌++◌, map, Some, refl, ap, subst, ◌∙◌, sym, arith, append_assoc}
use Rattle.std.specs.List.{flat_map, list_all}
use Rattle.std.specs.List.Sorted.{IsPermutation}
use Rattle.std.specs.Option.{option_map}
use Rattle.std.proofs.lemmas.List.Sorted.{IsPermutation-map, IsPermutation-trans}
use Rattle.lists.specs.Lists.{least, least_of}
use Rattle.lists.proofs.Least.{least_of-min, least_of-append}
use Rattle.dns_message.specs.Writing.{is_spellable_data}
use Rattle.dns_record.specs.declared.record.Rr.{Rr}
use Rattle.lists.proofs.Permutations.{along_permutation}
use Rattle.mdns_history.specs.declared.held.Held.{Held}
use Rattle.mdns_history.specs.declared.entry.Entry.{Entry}
use Rattle.mdns_history.specs.History.{now}
use Rattle.mdns_history.specs.Lifetimes.{live_records}
use Rattle.mdns_question.specs.declared.tracked.Tracked.{Tracked}
use Rattle.mdns_cache.specs.Lifetimes.{AllHeard}
use Rattle.mdns_question.specs.Next.{open_in, next_of}
use Rattle.mdns_question.specs.Refreshing.{first_refresh, AreTimed}
use Rattle.mdns_core.specs.State.{State, Stands}
use Rattle.mdns_core.proofs.ticks.Due.{list_all-IsPermutation}

-- the least of a number and of two lists, in either order
least_of-turned : (xs ys : List ℕ) (n : ℕ) → least_of (least_of n xs) ys ≡ least_of (least_of n ys) xs
least_of-turned [] ys n = refl
least_of-turned (x ∷ xs) ys n =
    ap (λ k. least_of k ys) (turned x (least_of n xs))
    ∙ least_of-min (least_of n xs) x ys
    ∙ ap (λ k. min x k) (least_of-turned xs ys n)
  where
    turned : (a b : ℕ) → min a b ≡ min b a
    turned a b = omega arith

-- the numbers of elements in another order have the same least
module _ {X : Type 0} (f : X → List ℕ) where
  abbrev HaveLeast : List X → List X → Type 0
  HaveLeast xs ys = (n : ℕ) → least_of n (flat_map f xs) ≡ least_of n (flat_map f ys)

  least_of-moved : (xs ys : List X) → IsPermutation xs ys → HaveLeast xs ys
  least_of-moved = along_permutation HaveLeast (λ xs n. refl) skip turn (λ xs ys zs one other n. one n ∙ other n)
    where
      skip : (x : X) (xs ys : List X) → HaveLeast xs ys → HaveLeast (x ∷ xs) (x ∷ ys)
      skip x xs ys same n =
          least_of-append n (f x) (flat_map f xs) ∙ same (least_of n (f x)) ∙ sym (least_of-append n (f x) (flat_map f ys))

      split : (x y : X) (xs : List X) (n : ℕ) → least_of n (flat_map f (x ∷ y ∷ xs)) ≡ least_of (least_of (least_of n (f x)) (f y)) (flat_map f xs)
      split x y xs n = least_of-append n (f x) (f y ++ flat_map f xs) ∙ least_of-append (least_of n (f x)) (f y) (flat_map f xs)

      turn : (x y : X) (xs : List X) → HaveLeast (x ∷ y ∷ xs) (y ∷ x ∷ xs)
      turn x y xs n = split x y xs n ∙ ap (λ k. least_of k (flat_map f xs)) (least_of-turned (f x) (f y) n) ∙ sym (split y x xs n)

-- the least of a number and of a list that isn't empty
least_of-first : (n m : ℕ) (ms : List ℕ) → least_of n (m ∷ ms) ≡ min n (least_of m ms)
least_of-first n m ms = sym (least_of-min n m ms) ∙ ap (λ k. least_of k ms) (turned n m) ∙ least_of-min m n ms
  where
    turned : (a b : ℕ) → min a b ≡ min b a
    turned a b = omega arith

some_least : (m : ℕ) (ms : List ℕ) → ((n : ℕ) → n ≡ least_of n (m ∷ ms)) → ⊥
some_least m ms same = none (least_of m ms) (same (least_of m ms + 1) ∙ least_of-first (least_of m ms + 1) m ms)
  where
    none : (k : ℕ) → k + 1 ≡ min (k + 1) k → ⊥
    none k e = omega (arith, e)

-- lists that have the same least with each number have the same least
least-same : (xs ys : List ℕ) → ((n : ℕ) → least_of n xs ≡ least_of n ys) → least xs ≡ least ys
least-same [] [] same = refl
least-same [] (y ∷ ys) same = absurd (some_least y ys same)
least-same (x ∷ xs) [] same = absurd (some_least x xs (λ n. sym (same n)))
least-same (x ∷ xs) (y ∷ ys) same =
    ap Some (only (least_of x xs) (least_of y ys) (λ n. sym (least_of-first n x xs) ∙ same n ∙ least_of-first n y ys))
  where
    only : (a b : ℕ) → ((n : ℕ) → min n a ≡ min n b) → a ≡ b
    only a b h = let one : min (a + b) a ≡ min (a + b) b = h (a + b) in omega (arith, one)

one_each : {X : Type 0} (g : X → ℕ) (xs : List X) → flat_map (λ x. g x ∷ []) xs ≡ map g xs
one_each g [] = refl
one_each g (x ∷ xs) = ap (λ l. g x ∷ l) (one_each g xs)

module _ (held later : List Held) (moved : IsPermutation held later) where
  refresh-moved : (one : Tracked) → first_refresh held one ≡ first_refresh later one
  refresh-moved one = least-same (flat_map (open_in one) held) (flat_map (open_in one) later) (least_of-moved (open_in one) held later moved)

  -- The refresh points that are kept are those of the same records in another order.
  pub timed-moved : (questions : List Tracked) → AreTimed later questions → AreTimed held questions
  timed-moved [] each = tt
  timed-moved (one ∷ questions) each = (each.0 ∙ sym (refresh-moved one), timed-moved questions each.1)

  nexts-moved : (questions : List Tracked) → map (next_of held) questions ≡ map (next_of later) questions
  nexts-moved [] = refl
  nexts-moved (one ∷ questions) =
      ap (λ n. n ∷ map (next_of held) questions) (least_of-moved (open_in one) held later moved one.next) ∙ ap (λ ns. next_of later one ∷ ns) (nexts-moved questions)

  ends-moved : (n : ℕ) → least_of n (map (λ (one : Held). one.end) held) ≡ least_of n (map (λ (one : Held). one.end) later)
  ends-moved n =
      ap (least_of n) (sym (one_each (λ (one : Held). one.end) held))
      ∙ least_of-moved (λ (one : Held). one.end ∷ []) held later moved n
      ∙ ap (least_of n) (one_each (λ (one : Held). one.end) later)

  -- So is the next due moment, whatever else is due.
  pub due-moved : (last : ℕ) (questions : List Tracked) (others : List ℕ) →
      option_map (max last) (least (map (λ (one : Held). one.end) held ++ map (next_of held) questions ++ others))
      ≡ option_map (max last) (least (map (λ (one : Held). one.end) later ++ map (next_of later) questions ++ others))
  due-moved last questions others =
      ap (λ ns. option_map (max last) (least (map (λ (one : Held). one.end) held ++ ns ++ others))) (nexts-moved questions)
      ∙ ap (λ ns. option_map (max last) (least ns)) (append_assoc (map (λ (one : Held). one.end) held) nexts others)
      ∙ ap (option_map (max last))
      (least-same (map (λ (one : Held). one.end) held ++ (nexts ++ others)) (map (λ (one : Held). one.end) later ++ (nexts ++ others))
      (λ n. least_of-append n (map (λ (one : Held). one.end) held) (nexts ++ others) ∙ ap (λ k. least_of k (nexts ++ others)) (ends-moved n) ∙ sym (least_of-append n (map (λ (one : Held). one.end) later) (nexts ++ others))))
      ∙ ap (λ ns. option_map (max last) (least ns)) (sym (append_assoc (map (λ (one : Held). one.end) later) nexts others))
    where
      nexts : List ℕ
      nexts = map (next_of later) questions

  -- What a state stands for doesn't depend on the order of its records.
  pub stands-moved : (state : State) → state.held ≡ later → (history : List Entry) → Stands state history → Stands (record state { held = held }) history
  stands-moved state is history stands = record {
    legal = stands.legal;
    last = stands.last;
    opened = stands.opened;
    sessions = stands.sessions;
    asking = record { questions = stands.asking.questions; each = stands.asking.each };
    claims = stands.claims;
    announces = stands.announces;
    multicasts = stands.multicasts;
    queries = stands.queries;
    records = IsPermutation-trans held later (live_records history (now history)) moved (subst (λ (l : List Held). IsPermutation l (live_records history (now history))) is stands.records);
    typed = list_all-IsPermutation (λ (rr : Rr). is_spellable_data rr.rdata) (map (λ (one : Held). one.rr) held) (map (λ (one : Held). one.rr) later) (IsPermutation-map (λ (one : Held). one.rr) held later moved)
        ∙ ap (λ (l : List Held). list_all (λ (rr : Rr). is_spellable_data rr.rdata) (map (λ (one : Held). one.rr) l)) (sym is) ∙ stands.typed;
  }

-- What was heard by a moment was heard by a later one.
pub heard-since : (last moment : ℕ) → last ≤ moment → (held : List Held) → AllHeard last held → AllHeard moment held
heard-since last moment later [] all = tt
heard-since last moment later (one ∷ held) all = (let here : one.heard ≤ last = all.0 in omega arith, heard-since last moment later held all.1)
