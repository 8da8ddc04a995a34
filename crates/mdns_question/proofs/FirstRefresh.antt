-- What is due by the refresh points that are kept is what is due over the records that are held.
use Rattle.std.proofs.Common.{◌≡◌, ℕ, ◌<◌, ◌≤◌, ◌+◌, Bool, true, false, cond, ◌&&◌, ◌||◌, List, [], ◌∷◌, ◌++◌, length, get_or, drop, append_assoc, min, nat_le, nat_lt, refl, ap, sym, subst, ◌∙◌, arith, Option, Some, None}
use Rattle.std.specs.Prelude.{filter}
use Rattle.std.specs.List.{list_any, flat_map, AllByRecursion}
use Rattle.std.specs.Option.{option_to_list}
use Rattle.std.proofs.lemmas.Bool.{ltb-true, leb-true, leb-false}
use Rattle.lists.specs.Lists.{least, least_of}
use Rattle.lists.proofs.Least.{least_of-min, least_of-append}
use Rattle.mdns_history.specs.declared.mark.Cause.TheVariants as cause
use Rattle.mdns_history.specs.declared.held.Held.{Held}
use Rattle.mdns_history.specs.Lifetimes.{is_live_at}
use Rattle.mdns_history.specs.Asking.{refresh_points, is_behind}
use Rattle.mdns_question.specs.declared.tracked.Tracked.{Tracked}
use Rattle.mdns_question.specs.Tracking.{is_refreshed, due_cause}
use Rattle.mdns_question.specs.Next.{is_wanted, is_open, open_in, next_of}
use Rattle.mdns_question.specs.Refreshing.{IsTimed, moment_of, cause_of}
use Rattle.mdns_question.proofs.Loops.{left}
use Rattle.mdns_question.proofs.Refreshes.{refreshed_by}
use Rattle.mdns_question.proofs.Earliest.{calls, called, not_due}

-- the first number of a list, if it has one, among a number and others
first_among : (n : ℕ) (xs : List ℕ) → least_of n (option_to_list (least xs)) ≡ least_of n xs
first_among n [] = refl
first_among n (x ∷ xs) = of xs
  where
    of : (ys : List ℕ) → min (least_of x ys) n ≡ min x (least_of n ys)
    of [] = refl
    of (y ∷ ys) = let rest : min (least_of x ys) n ≡ min x (least_of n ys) = of ys in omega (arith, rest)

least-joined : (xs ys : List ℕ) → least (option_to_list (least xs) ++ ys) ≡ least (xs ++ ys)
least-joined [] ys = refl
least-joined (x ∷ xs) ys = ap Some (sym (least_of-append x xs ys))

-- the first of a number that may be there and of what is left, one element more
pub least-given : {X : Type 0} (f : X → List ℕ) (xs : List X) (i : ℕ) (x : X) (first next : Option ℕ) → i < length xs → x ≡ get_or xs i x →
    next ≡ least (option_to_list first ++ f x) →
    least (option_to_list next ++ flat_map f (drop (i + 1) xs)) ≡ least (option_to_list first ++ flat_map f (drop i xs))
least-given f xs i x first next within is e =
    ap (λ n. least (option_to_list n ++ flat_map f (drop (i + 1) xs))) e
    ∙ least-joined (option_to_list first ++ f x) (flat_map f (drop (i + 1) xs))
    ∙ ap least (append_assoc (option_to_list first) (f x) (flat_map f (drop (i + 1) xs)))
    ∙ ap (λ l. least (option_to_list first ++ flat_map f l)) (sym (left xs i x within is))

-- the open points of a record lie before its end
pub first_of_record : (one : Tracked) (told : Held) →
    least (open_in one told) ≡ cond (nat_lt (least_of told.end (open_in one told)) told.end) (Some (least_of told.end (open_in one told))) None
first_of_record one told = within (is_wanted one told)
  where
    end : ℕ
    end = told.end

    not_itself : nat_lt end end ≡ false
    not_itself = grind arith

    IsFirst : List ℕ → Type 0
    IsFirst xs = least xs ≡ cond (nat_lt (least_of end xs) end) (Some (least_of end xs)) None

    none : IsFirst []
    none = ap (λ b. cond b (Some end) None) (sym not_itself)

    some : (p : ℕ) (xs : List ℕ) → nat_lt p end ≡ true → IsFirst (p ∷ xs)
    some p xs before =
        let below : p < end = ltb-true p end before in
        let smaller : min end p ≡ p = omega arith in
        let same : least_of end (p ∷ xs) ≡ least_of p xs = sym (least_of-min end p xs) ∙ ap (λ n. least_of n xs) smaller in
        let bounded : least_of p xs ≤ p = bound p xs in
        let inside : nat_lt (least_of p xs) end ≡ true = grind arith in
        subst (λ n. Some (least_of p xs) ≡ cond (nat_lt n end) (Some n) None) (sym same) (ap (λ b. cond b (Some (least_of p xs)) None) (sym inside))
      where
        bound : (n : ℕ) (ms : List ℕ) → least_of n ms ≤ n
        bound n [] = omega arith
        bound n (m ∷ ms) = let rest : least_of n ms ≤ n = bound n ms in omega arith

    of : (ps : List ℕ) → IsFirst (filter (is_open one told) ps)
    of [] = none
    of (p ∷ ps) = step (nat_lt p end) refl (nat_lt one.start p) (is_behind p (option_to_list one.last)) (of ps)
      where
        step : (lt : Bool) → nat_lt p end ≡ lt → (s b : Bool) → IsFirst (filter (is_open one told) ps) →
            IsFirst (cond (lt && s && b) (p ∷ filter (is_open one told) ps) (filter (is_open one told) ps))
        step true e true true ih = some p (filter (is_open one told) ps) e
        step true e true false ih = ih
        step true e false b ih = ih
        step false e s b ih = ih

    within : (w : Bool) → IsFirst (cond w (filter (is_open one told) (refresh_points told)) [])
    within true = of (refresh_points told)
    within false = none

-- what is kept says when a question is first due
pub moment_kept : (held : List Held) (one : Tracked) → IsTimed held one → moment_of one ≡ next_of held one
moment_kept held one timed = ap (λ r. least_of one.next (option_to_list r)) timed ∙ first_among one.next (flat_map (open_in one) held)

-- each of these records is live
abbrev pub AreLive : ℕ → List Held → Type 0
AreLive moment held = AllByRecursion (λ (told : Held). moment < told.end) held

-- an open point that has come calls
module _ (one : Tracked) (moment : ℕ) where
  point_calls : (told : Held) (n : ℕ) (ps : List ℕ) → moment < n → least_of n (filter (is_open one told) ps) ≤ moment → list_any (calls one moment) ps ≡ true
  point_calls told n [] late h = absurd (omega (arith, late, h))
  point_calls told n (p ∷ ps) late h = of (nat_lt p told.end) (nat_lt one.start p) (is_behind p (option_to_list one.last)) h (nat_le p moment) refl (point_calls told n ps late)
    where
      rest : List ℕ
      rest = filter (is_open one told) ps

      or_true : (b : Bool) → (b || true) ≡ true
      or_true true = refl
      or_true false = refl

      of : (lt s b : Bool) → least_of n (cond (lt && s && b) (p ∷ rest) rest) ≤ moment → (le : Bool) → nat_le p moment ≡ le →
          (least_of n rest ≤ moment → list_any (calls one moment) ps ≡ true) → ((le && s && b) || list_any (calls one moment) ps) ≡ true
      of true true true k true e ih = refl
      of true true true k false e ih = let late_point : moment < p = leb-false p moment e in ih (omega (arith, k))
      of true true false k le e ih = ap (λ x. (le && true && false) || x) (ih k) ∙ or_true (le && true && false)
      of true false b k le e ih = ap (λ x. (le && false && b) || x) (ih k) ∙ or_true (le && false && b)
      of false s b k le e ih = ap (λ x. (le && s && b) || x) (ih k) ∙ or_true (le && s && b)

  record_calls : (held : List Held) (n : ℕ) → AreLive moment held → moment < n → least_of n (flat_map (open_in one) held) ≤ moment → list_any (called one moment) held ≡ true
  record_calls [] n live late h = absurd (omega (arith, late, h))
  record_calls (told ∷ held) n live late h = split (nat_le m moment) refl (λ after. record_calls held m live.1 after later)
    where
      m : ℕ
      m = least_of n (open_in one told)

      or_true : (b : Bool) → (b || true) ≡ true
      or_true true = refl
      or_true false = refl

      later : least_of m (flat_map (open_in one) held) ≤ moment
      later = subst (λ k. k ≤ moment) (least_of-append n (open_in one told) (flat_map (open_in one) held)) h

      lives : is_live_at moment told ≡ true
      lives = let before : moment < told.end = live.0 in grind arith

      inner : (w : Bool) → least_of n (cond w (filter (is_open one told) (refresh_points told)) []) ≤ moment → (w && list_any (calls one moment) (refresh_points told)) ≡ true
      inner true k = point_calls told n (refresh_points told) late k
      inner false k = absurd (omega (arith, late, k))

      split : (c : Bool) → nat_le m moment ≡ c → (moment < m → list_any (called one moment) held ≡ true) → list_any (called one moment) (told ∷ held) ≡ true
      split true e rest =
          let come : m ≤ moment = leb-true m moment e in
          ap (λ l. (l && is_wanted one told && list_any (calls one moment) (refresh_points told)) || list_any (called one moment) held) lives
          ∙ ap (λ b. b || list_any (called one moment) held) (inner (is_wanted one told) come)
      split false e rest =
          let after : moment < m = leb-false m moment e in
          ap (λ b. called one moment told || b) (rest after) ∙ or_true (called one moment told)

-- what is kept says why a question is due
pub cause_kept : (held : List Held) (moment : ℕ) (one : Tracked) → AreLive moment held → IsTimed held one → cause_of moment one ≡ due_cause held moment one
cause_kept held moment one live timed = of (nat_le one.next moment) refl (nat_le (moment_of one) moment) refl
  where
    same : moment_of one ≡ next_of held one
    same = moment_kept held one timed

    of : (s : Bool) → nat_le one.next moment ≡ s → (r : Bool) → nat_le (moment_of one) moment ≡ r →
        cond s (Some cause.Series) (cond r (Some cause.Refresh) None) ≡ cond s (Some cause.Series) (cond (is_refreshed held moment one) (Some cause.Refresh) None)
    of true e r f = refl
    of false e true f =
        let later : moment < one.next = leb-false one.next moment e in
        let come : moment_of one ≤ moment = leb-true (moment_of one) moment f in
        let first : next_of held one ≤ moment = omega (arith, same, come) in
        ap (λ b. cond b (Some cause.Refresh) None) (sym (refreshed_by held moment one ∙ record_calls one moment held one.next live later first))
    of false e false f =
        let early : moment < moment_of one = leb-false (moment_of one) moment f in
        let quiet : due_cause held moment one ≡ None = not_due held one moment (omega (arith, same, early)) in
        sym (ap (λ s. cond s (Some cause.Series) (cond (is_refreshed held moment one) (Some cause.Refresh) None)) (sym e) ∙ quiet)
