-- What is asked of a question, and when, is seen on the records of its name, so on the walk of that name. (RFC 6762 5.2 and 7.1)
use Rattle.std.proofs.Common.{◌≡◌, ℕ, Bool, true, false, cond, ◌&&◌, ◌||◌, List, [], ◌∷◌, ◌++◌, map, filter, Option, Some, None, refl, sym, ap, ◌∙◌, true≢false}
use Rattle.std.specs.List.{flat_map}
use Rattle.std.proofs.lemmas.Bool.{and_left, and_parts, false_from_ne_true}
use Rattle.dns_name.specs.Names.{folded_eq}
use Rattle.lists.specs.Lists.{least, sorted_by}
use Rattle.dns_name.proofs.Folding.{folded_eq-equivalence}
use Rattle.dns_record.specs.declared.record.Rr.{Rr}
use Rattle.dns_record.specs.declared.record.Key.{Key}
use Rattle.dns_record.specs.Records.{matches, record_cmp}
use Rattle.mdns_history.specs.declared.held.Held.{Held}
use Rattle.mdns_history.specs.Lifetimes.{is_live_at, is_uncut}
use Rattle.mdns_history.specs.Asking.{refresh_points, is_half_fresh, listed, fits_alone}
use Rattle.mdns_cache.specs.Lifetimes.{is_of, held_of, AllHeard}
use Rattle.mdns_cache.proofs.ListLemmas.{filter_less}
use Rattle.mdns_happened.specs.declared.walk.Walk.{Walk}
use Rattle.mdns_happened.specs.Walks.{is_for, is_walked, walk_of, AreWalks, IsKnown}
use Rattle.mdns_question.specs.declared.tracked.Tracked.{Tracked}
use Rattle.mdns_question.specs.Next.{open_in, is_open}
use Rattle.mdns_question.specs.Refreshing.{first_refresh, IsTimed}
use Rattle.mdns_known.specs.Known.{known_of, is_listed}
use Rattle.mdns_asking.specs.Timed.{timed}
use Rattle.mdns_asking.specs.Walked.{AreHeard}
use Rattle.mdns_asking.specs.ByWalks.{later_in, later_of, timed_in, timed_by}

-- a record that matches a question has its name
matched_name : (key : Key) (rr : Rr) → matches key rr ≡ true → folded_eq key.name rr.owner ≡ true
unfolding matches
matched_name key rr e = (and_parts (folded_eq key.name rr.owner) _ e).0

flat_map-kept : {X Y : Type 0} (q : X → Bool) (f : X → List Y) → ((x : X) → q x ≡ false → f x ≡ []) → (xs : List X) → flat_map f (filter q xs) ≡ flat_map f xs
flat_map-kept q f none [] = refl
flat_map-kept {Y = Y} q f none (x ∷ xs) = of (q x) refl (flat_map-kept q f none xs)
  where
    of : (b : Bool) → q x ≡ b → flat_map f (filter q xs) ≡ flat_map f xs → flat_map f (cond b (x ∷ filter q xs) (filter q xs)) ≡ f x ++ flat_map f xs
    of true e ih = ap (λ (l : List Y). f x ++ l) ih
    of false e ih = ih ∙ ap (λ (l : List Y). l ++ flat_map f xs) (sym (none x e))

-- a record of another name matches nothing
unmatched : (key : Key) (told : Held) → is_of key.name told ≡ false → matches key told.rr ≡ false
unmatched key told other =
    false_from_ne_true (matches key told.rr) (λ e. true≢false (sym (folded_eq-equivalence.symm told.rr.owner key.name ∙ matched_name key told.rr e) ∙ other))

-- The first refresh point of a question is that of the records of its name.
pub refresh_of_name : (one : Tracked) (held : List Held) → first_refresh (held_of one.key.name held) one ≡ first_refresh held one
refresh_of_name one held = ap least (flat_map-kept (is_of one.key.name) (open_in one) unwanted held)
  where
    unwanted : (told : Held) → is_of one.key.name told ≡ false → open_in one told ≡ []
    unwanted told other =
        ap (λ (b : Bool). cond b (filter (is_open one told) (refresh_points told)) []) (and_left (matches one.key told.rr) (is_uncut told) (unmatched one.key told other))

-- The known answers of a question are those of the records of its name.
pub known_of_name : (key : Key) (held : List Held) (moment : ℕ) → known_of key (held_of key.name held) moment ≡ known_of key held moment
unfolding known_of
known_of_name key held moment =
    ap (λ (l : List Held). sorted_by record_cmp (map (listed moment) l))
    (filter_less (is_listed key moment) (is_of key.name) (λ told other. unlisted (matches key told.rr) told (unmatched key told other)) held)
  where
    unlisted : (m : Bool) (told : Held) → m ≡ false → ((m && is_live_at moment told && is_uncut told && is_half_fresh moment told) && fits_alone (listed moment told)) ≡ false
    unlisted m told e = ap (λ (b : Bool). (b && is_live_at moment told && is_uncut told && is_half_fresh moment told) && fits_alone (listed moment told)) e

-- names that are one, case aside, have the same records
held_alike : (one other : List (List ℕ)) → folded_eq one other ≡ true → (held : List Held) → held_of one held ≡ held_of other held
held_alike one other e [] = refl
held_alike one other e (told ∷ held) = λ i. cond (same i) (told ∷ held_alike one other e held i) (held_alike one other e held i)
  where
    same : is_of one told ≡ is_of other told
    same = folded_eq-equivalence.symm told.rr.owner one ∙ folded_eq-equivalence.congr one other told.rr.owner e ∙ folded_eq-equivalence.symm other told.rr.owner

-- names that are one, case aside, are walked alike
pub walked_alike : (walks : List Walk) (one other : List (List ℕ)) → folded_eq one other ≡ true → is_walked walks one ≡ is_walked walks other
walked_alike [] one other e = refl
walked_alike (walk ∷ walks) one other e = λ i. same i || walked_alike walks one other e i
  where
    same : is_for one walk ≡ is_for other walk
    same = folded_eq-equivalence.symm walk.name one ∙ folded_eq-equivalence.congr one other walk.name e ∙ folded_eq-equivalence.symm other walk.name

module _ (held later : List Held) where
  -- of a walked name the later records are there
  later_walked : (walks : List Walk) (name : List (List ℕ)) → AreWalks held later walks → is_walked walks name ≡ true → later_of name walks ≡ held_of name later
  later_walked [] name are h = absurd (true≢false (sym h))
  later_walked (walk ∷ walks) name are h = of (is_for name walk) refl h (later_walked walks name are.1)
    where
      of : (b : Bool) → is_for name walk ≡ b → (b || is_walked walks name) ≡ true → (is_walked walks name ≡ true → later_of name walks ≡ held_of name later) →
          later_in (cond b (Some walk) (walk_of name walks)) ≡ held_of name later
      of true e k ih = are.0.later ∙ held_alike walk.name name e later
      of false e k ih = ih k

  -- The known answers of a question whose name was walked are over its walk.
  pub known_walked : (walks : List Walk) (key : Key) (moment : ℕ) → AreWalks held later walks → is_walked walks key.name ≡ true →
      known_of key (later_of key.name walks) moment ≡ known_of key later moment
  known_walked walks key moment are h = ap (λ (l : List Held). known_of key l moment) (later_walked walks key.name are h) ∙ known_of_name key later moment

  -- So is its first refresh point.
  timed_found : (walks : List Walk) (one : Tracked) → is_walked walks one.key.name ≡ true → timed_by walks one ≡ timed (later_of one.key.name walks) one
  timed_found [] one h = absurd (true≢false (sym h))
  timed_found (walk ∷ walks) one h = of (is_for one.key.name walk) h (timed_found walks one)
    where
      of : (b : Bool) → (b || is_walked walks one.key.name) ≡ true → (is_walked walks one.key.name ≡ true → timed_by walks one ≡ timed (later_of one.key.name walks) one) →
          timed_in one (cond b (Some walk) (walk_of one.key.name walks)) ≡ timed (later_in (cond b (Some walk) (walk_of one.key.name walks))) one
      of true k ih = refl
      of false k ih = ih k

  pub timed_walked : (walks : List Walk) (one : Tracked) → AreWalks held later walks → is_walked walks one.key.name ≡ true → timed_by walks one ≡ timed later one
  timed_walked walks one are h =
      timed_found walks one h
      ∙ ap (λ (l : List Held). timed l one) (later_walked walks one.key.name are h)
      ∙ ap (λ (point : Option ℕ). record one { refresh = point }) (refresh_of_name one later)

  -- A point that is kept of a question stays where the records of its name do.
  pub timed_kept : (one : Tracked) → held_of one.key.name later ≡ held_of one.key.name held → IsTimed held one → IsTimed later one
  timed_kept one same timed =
      timed ∙ sym (refresh_of_name one held) ∙ sym (ap (λ (l : List Held). first_refresh l one) same) ∙ refresh_of_name one later

-- A question whose name wasn't walked is as it is kept.
pub timed_unwalked : (walks : List Walk) (one : Tracked) → is_walked walks one.key.name ≡ false → timed_by walks one ≡ one
timed_unwalked [] one h = refl
timed_unwalked (walk ∷ walks) one h = of (is_for one.key.name walk) h (timed_unwalked walks one)
  where
    of : (b : Bool) → (b || is_walked walks one.key.name) ≡ false → (is_walked walks one.key.name ≡ false → timed_by walks one ≡ one) →
        timed_in one (cond b (Some walk) (walk_of one.key.name walks)) ≡ one
    of true k ih = absurd (true≢false k)
    of false k ih = ih k

-- a question whose point is the first one of records is timed by them
pub timed_itself : (held : List Held) (one : Tracked) → IsTimed held one → one ≡ timed held one
timed_itself held one timed = ap (λ (point : Option ℕ). record one { refresh = point }) timed

-- A question has the first refresh point of the later records, where its name was walked or its point is theirs.
pub timed_either : (held later : List Held) (walks : List Walk) (one : Tracked) → AreWalks held later walks → (is_walked walks one.key.name ≡ false → IsTimed later one) →
    timed_by walks one ≡ timed later one
timed_either held later walks one are else = of (is_walked walks one.key.name) refl
  where
    of : (b : Bool) → is_walked walks one.key.name ≡ b → timed_by walks one ≡ timed later one
    of true e = timed_walked held later walks one are e
    of false e = timed_unwalked walks one e ∙ timed_itself later one (else e)

-- So it has where it is kept with the point of the earlier records and what becomes of these is known.
pub timed_known : (held later : List Held) (walks : List Walk) (one : Tracked) → AreWalks held later walks → IsKnown held later walks one.key.name → IsTimed held one →
    timed_by walks one ≡ timed later one
timed_known held later walks one are known timed = timed_either held later walks one are (λ e. timed_kept held later one (known e) timed)

-- A question that is told the point of its walk is so timed.
pub told_point : (walks : List Walk) (one : Tracked) → record one { refresh = (timed_by walks one).refresh } ≡ timed_by walks one
told_point walks one = of (walk_of one.key.name walks)
  where
    of : (walk : Option Walk) → record one { refresh = (timed_in one walk).refresh } ≡ timed_in one walk
    of None = refl
    of (Some walk) = refl

-- The later records of a name were heard by a moment where those of all walks were.
pub later_heard : (moment : ℕ) (name : List (List ℕ)) (walks : List Walk) → AreHeard moment walks → AllHeard moment (later_of name walks)
later_heard moment name [] heard = tt
later_heard moment name (walk ∷ walks) heard = of (is_for name walk) (later_heard moment name walks heard.1)
  where
    of : (b : Bool) → AllHeard moment (later_of name walks) → AllHeard moment (later_in (cond b (Some walk) (walk_of name walks)))
    of true rest = heard.0
    of false rest = rest
