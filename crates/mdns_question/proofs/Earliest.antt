-- The first moment at which a question is due: at every earlier one none is, at this one some is.
use Rattle.std.proofs.Common.{◌≡◌, ◌≢◌, ℕ, ◌<◌, ◌≤◌, Bool, true, false, cond, ◌&&◌, ◌||◌, ◌⊎◌, inl, inr, List, [], ◌∷◌, min, nat_le, nat_lt, refl, ap, sym, subst, ◌∙◌, arith, Option, Some, None}
use Rattle.std.specs.Prelude.{filter, map, IfSome}
use Rattle.std.specs.List.{list_any, flat_map, filter_map, cons_option}
use Rattle.std.specs.Option.{option_map, option_to_list}
use Rattle.std.proofs.lemmas.Bool.{ltb-true, ltb-false, leb-true}
use Rattle.lists.specs.Lists.{least, least_of}
use Rattle.mdns_history.specs.declared.mark.Cause.{Cause}
use Rattle.mdns_history.specs.declared.mark.Cause.TheVariants as cause
use Rattle.mdns_history.specs.declared.held.Held.{Held}
use Rattle.mdns_history.specs.Lifetimes.{is_live_at}
use Rattle.mdns_history.specs.Asking.{refresh_points, calls_at, is_behind}
use Rattle.mdns_question.specs.declared.tracked.Tracked.{Tracked}
use Rattle.mdns_question.specs.Tracking.{active_of, is_refreshed, due_cause, due_with}
use Rattle.mdns_question.specs.Next.{is_wanted, is_open, open_in, next_of}
use Rattle.mdns_question.proofs.Refreshes.{refreshed_by}
use Rattle.lists.proofs.Least.{least_of-append}

least_of_le : (n : ℕ) (ms : List ℕ) → least_of n ms ≤ n
least_of_le n [] = omega arith
least_of_le n (m ∷ ms) = let rest : least_of n ms ≤ n = least_of_le n ms in omega arith

-- the calls of a question at a moment
abbrev pub calls : Tracked → ℕ → ℕ → Bool
calls one moment = calls_at (active_of one) (option_to_list one.last) moment

-- a record calls for an asking of a question at a moment
abbrev pub called : Tracked → ℕ → Held → Bool
called one moment told = is_live_at moment told && is_wanted one told && list_any (calls one moment) (refresh_points told)

le_itself : (n : ℕ) → nat_le n n ≡ true
le_itself n = grind arith

-- before the first open point none calls
module _ (one : Tracked) (told : Held) (moment n : ℕ) where
  more_open : (c : Bool) (p : ℕ) (ms : List ℕ) → moment < least_of n (cond c (p ∷ ms) ms) → moment < least_of n ms
  more_open true p ms h = omega (arith, h)
  more_open false p ms h = h

  none_calls : (ps : List ℕ) → nat_lt moment told.end ≡ true → moment < least_of n (filter (is_open one told) ps) → list_any (calls one moment) ps ≡ false
  none_calls [] live h = refl
  none_calls (p ∷ ps) live h = of (nat_le p moment) (nat_lt p told.end) (nat_lt one.start p) (is_behind p (option_to_list one.last)) refl refl h (none_calls ps live)
    where
      ms : List ℕ
      ms = filter (is_open one told) ps

      of : (le lt s b : Bool) → nat_le p moment ≡ le → nat_lt p told.end ≡ lt → moment < least_of n (cond (lt && s && b) (p ∷ ms) ms) → (moment < least_of n ms → list_any (calls one moment) ps ≡ false) →
          ((le && s && b) || list_any (calls one moment) ps) ≡ false
      of false lt s b e f k rest = rest (more_open (lt && s && b) p ms k)
      of true true true true e f k rest = let come : p ≤ moment = leb-true p moment e in absurd (omega (arith, k))
      of true true true false e f k rest = rest k
      of true true false b e f k rest = rest k
      of true false s b e f k rest =
          let come : p ≤ moment = leb-true p moment e in
          let ended : told.end ≤ p = ltb-false p told.end f in
          let lives : moment < told.end = ltb-true moment told.end live in
          absurd (omega arith)

none_called : (one : Tracked) (moment n : ℕ) (held : List Held) → moment < least_of n (flat_map (open_in one) held) → list_any (called one moment) held ≡ false
none_called one moment n [] h = refl
none_called one moment n (told ∷ held) h =
    of (is_live_at moment told) refl (is_wanted one told) (subst (λ m. moment < m) (least_of-append n (open_in one told) (flat_map (open_in one) held)) h) (none_called one moment (least_of n (open_in one told)) held)
  where
    inner : (w : Bool) → is_live_at moment told ≡ true → moment < least_of n (cond w (filter (is_open one told) (refresh_points told)) []) → list_any (called one moment) held ≡ false →
        ((w && list_any (calls one moment) (refresh_points told)) || list_any (called one moment) held) ≡ false
    inner true live k rest = ap (λ b. b || list_any (called one moment) held) (none_calls one told moment n (refresh_points told) live k) ∙ rest
    inner false live k rest = rest

    of : (l : Bool) → is_live_at moment told ≡ l → (w : Bool) → moment < least_of (least_of n (open_in one told)) (flat_map (open_in one) held) →
        (moment < least_of (least_of n (open_in one told)) (flat_map (open_in one) held) → list_any (called one moment) held ≡ false) →
        ((l && is_wanted one told && list_any (calls one moment) (refresh_points told)) || list_any (called one moment) held) ≡ false
    of false e w k rest = rest k
    of true e w k rest =
        let below : least_of (least_of n (open_in one told)) (flat_map (open_in one) held) ≤ least_of n (open_in one told) = least_of_le (least_of n (open_in one told)) (flat_map (open_in one) held) in
        inner (is_wanted one told) e (omega (arith, k)) (rest k)

-- before its first moment a question isn't due
pub not_due : (held : List Held) (one : Tracked) (moment : ℕ) → moment < next_of held one → due_cause held moment one ≡ None
not_due held one moment h =
    let below : next_of held one ≤ one.next = least_of_le one.next (flat_map (open_in one) held) in
    let early : nat_le one.next moment ≡ false = grind arith in
    let quiet : is_refreshed held moment one ≡ false = refreshed_by held moment one ∙ none_called one moment one.next held h in
    ap (λ b. cond b (Some cause.Series) (cond (is_refreshed held moment one) (Some cause.Refresh) None)) early
    ∙ ap (λ b. cond b (Some cause.Refresh) None) quiet

none_due : (held : List Held) (moment n : ℕ) (questions : List Tracked) → moment < least_of n (map (next_of held) questions) → filter_map (due_with held moment) questions ≡ []
none_due held moment n [] h = refl
none_due held moment n (one ∷ questions) h =
    ap (λ c. cons_option (option_map (λ cause. (one.key, cause)) c) (filter_map (due_with held moment) questions)) (not_due held one moment (omega (arith, h)))
    ∙ none_due held moment n questions (omega (arith, h))

-- at the first open point it calls, and its record lives
abbrev IsCalledAt : Tracked → Held → List ℕ → ℕ → Type 0
IsCalledAt one told ps moment = (nat_lt moment told.end ≡ true) × (list_any (calls one moment) ps ≡ true)

some_calls : (one : Tracked) (told : Held) (n : ℕ) (ps : List ℕ) → (least_of n (filter (is_open one told) ps) ≡ n) ⊎ IsCalledAt one told ps (least_of n (filter (is_open one told) ps))
some_calls one told n [] = inl refl
some_calls one told n (p ∷ ps) = of (nat_lt p told.end) (nat_lt one.start p) (is_behind p (option_to_list one.last)) refl refl refl (some_calls one told n ps)
  where
    r : ℕ
    r = least_of n (filter (is_open one told) ps)

    or_true : (b : Bool) → (b || true) ≡ true
    or_true true = refl
    or_true false = refl

    later : (r ≡ n) ⊎ IsCalledAt one told ps r → (r ≡ n) ⊎ IsCalledAt one told (p ∷ ps) r
    later (inl e) = inl e
    later (inr h) = inr (h.0, ap (λ b. calls one r p || b) h.1 ∙ or_true (calls one r p))

    here : nat_lt p told.end ≡ true → nat_lt one.start p ≡ true → is_behind p (option_to_list one.last) ≡ true → IsCalledAt one told (p ∷ ps) p
    here lives s b = (lives, ap (λ x. x && nat_lt one.start p && is_behind p (option_to_list one.last) || list_any (calls one p) ps) (le_itself p) ∙ ap (λ x. x && is_behind p (option_to_list one.last) || list_any (calls one p) ps) s ∙ ap (λ x. x || list_any (calls one p) ps) b)

    first : (c : Bool) → nat_le p r ≡ c → IsCalledAt one told (p ∷ ps) p → (r ≡ n) ⊎ IsCalledAt one told (p ∷ ps) r → (min p r ≡ n) ⊎ IsCalledAt one told (p ∷ ps) (min p r)
    first true e h k = let least_is : p ≡ min p r = grind arith in inr (subst (IsCalledAt one told (p ∷ ps)) least_is h)
    first false e h k = let least_is : r ≡ min p r = grind arith in subst (λ m. (m ≡ n) ⊎ IsCalledAt one told (p ∷ ps) m) least_is k

    of : (lt s b : Bool) → nat_lt p told.end ≡ lt → nat_lt one.start p ≡ s → is_behind p (option_to_list one.last) ≡ b → (r ≡ n) ⊎ IsCalledAt one told ps r →
        (least_of n (cond (lt && s && b) (p ∷ filter (is_open one told) ps) (filter (is_open one told) ps)) ≡ n) ⊎ IsCalledAt one told (p ∷ ps) (least_of n (cond (lt && s && b) (p ∷ filter (is_open one told) ps) (filter (is_open one told) ps)))
    of true true true e f g k = first (nat_le p r) refl (here e f g) (later k)
    of true true false e f g k = later k
    of true false b e f g k = later k
    of false s b e f g k = later k

some_called : (one : Tracked) (n : ℕ) (held : List Held) → (least_of n (flat_map (open_in one) held) ≡ n) ⊎ (list_any (called one (least_of n (flat_map (open_in one) held))) held ≡ true)
some_called one n [] = inl refl
some_called one n (told ∷ held) = subst (λ m. (m ≡ n) ⊎ (list_any (called one m) (told ∷ held) ≡ true)) (sym (least_of-append n (open_in one told) (flat_map (open_in one) held)))
    (joined (some_called one (least_of n (open_in one told)) held) (is_wanted one told) refl)
  where
    r : ℕ
    r = least_of (least_of n (open_in one told)) (flat_map (open_in one) held)

    or_true : (b : Bool) → (b || true) ≡ true
    or_true true = refl
    or_true false = refl

    inner : (w : Bool) → is_wanted one told ≡ w → r ≡ least_of n (cond w (filter (is_open one told) (refresh_points told)) []) → (r ≡ n) ⊎ (list_any (called one r) (told ∷ held) ≡ true)
    inner true w e = elim (some_calls one told n (refresh_points told)) [
      | inl f ↦ inl (e ∙ f)
      | inr f ↦ inr (
          let at : IsCalledAt one told (refresh_points told) r = subst (IsCalledAt one told (refresh_points told)) (sym e) f in
          ap (λ x. x && is_wanted one told && list_any (calls one r) (refresh_points told) || list_any (called one r) held) at.0
          ∙ ap (λ x. x && list_any (calls one r) (refresh_points told) || list_any (called one r) held) w
          ∙ ap (λ x. x || list_any (called one r) held) at.1
          )
    ]
    inner false w e = inl e

    joined : (r ≡ least_of n (open_in one told)) ⊎ (list_any (called one r) held ≡ true) → (w : Bool) → is_wanted one told ≡ w → (r ≡ n) ⊎ (list_any (called one r) (told ∷ held) ≡ true)
    joined (inl e) w f = inner (is_wanted one told) refl e
    joined (inr h) w f = inr (ap (λ x. called one r told || x) h ∙ or_true (called one r told))

-- at its first moment a question is due
is_due : (held : List Held) (one : Tracked) → (c : Cause) × (due_cause held (next_of held one) one ≡ Some c)
is_due held one = of (some_called one one.next held)
  where
    r : ℕ
    r = next_of held one

    other : (b : Bool) → (c : Cause) × (cond b (Some cause.Series) (Some cause.Refresh) ≡ Some c)
    other true = (cause.Series, refl)
    other false = (cause.Refresh, refl)

    of : (r ≡ one.next) ⊎ (list_any (called one r) held ≡ true) → (c : Cause) × (due_cause held r one ≡ Some c)
    of (inl e) =
        let come : nat_le one.next r ≡ true = ap (nat_le one.next) e ∙ le_itself one.next in
        (cause.Series, ap (λ b. cond b (Some cause.Series) (cond (is_refreshed held r one) (Some cause.Refresh) None)) come)
    of (inr h) =
        let refreshed : is_refreshed held r one ≡ true = refreshed_by held r one ∙ h in
        let o = other (nat_le one.next r) in
        (o.0, ap (λ b. cond (nat_le one.next r) (Some cause.Series) (cond b (Some cause.Refresh) None)) refreshed ∙ o.1)

cons_some : {X : Type 0} (x : X) (xs : List X) (o : Option X) → o ≡ Some x → cons_option o xs ≢ []
cons_some x xs None e h = absurd (cc)
cons_some x xs (Some y) e h = absurd (cc)

cons_more : {X : Type 0} (o : Option X) (xs : List X) → xs ≢ [] → cons_option o xs ≢ []
cons_more None xs h e = h e
cons_more (Some y) xs h e = absurd (cc)

-- some of these questions is due at a moment
abbrev IsDueIn : List Held → List Tracked → ℕ → Type 0
IsDueIn held questions moment = filter_map (due_with held moment) questions ≢ []

some_due : (held : List Held) (n : ℕ) (questions : List Tracked) →
    (least_of n (map (next_of held) questions) ≡ n) ⊎ (filter_map (due_with held (least_of n (map (next_of held) questions))) questions ≢ [])
some_due held n [] = inl refl
some_due held n (one ∷ questions) = of (nat_le (next_of held one) r) refl (some_due held n questions)
  where
    r : ℕ
    r = least_of n (map (next_of held) questions)

    here : IsDueIn held (one ∷ questions) (next_of held one)
    here = let d = is_due held one in
        cons_some (one.key, d.0) _ (due_with held (next_of held one) one) (ap (λ c. option_map (λ cause. (one.key, cause)) c) d.1)

    of : (c : Bool) → nat_le (next_of held one) r ≡ c → (r ≡ n) ⊎ (filter_map (due_with held r) questions ≢ []) → (min (next_of held one) r ≡ n) ⊎ IsDueIn held (one ∷ questions) (min (next_of held one) r)
    of true e k = let least_is : next_of held one ≡ min (next_of held one) r = grind arith in inr (subst (IsDueIn held (one ∷ questions)) least_is here)
    of false e (inl k) = let least_is : min (next_of held one) r ≡ n = grind arith in inl least_is
    of false e (inr k) = let least_is : r ≡ min (next_of held one) r = grind arith in inr (subst (IsDueIn held (one ∷ questions)) least_is (cons_more _ _ k))

first_of : (held : List Held) (one : Tracked) (questions : List Tracked) → filter_map (due_with held (least_of (next_of held one) (map (next_of held) questions))) (one ∷ questions) ≢ []
first_of held one questions = of (some_due held (next_of held one) questions)
  where
    r : ℕ
    r = least_of (next_of held one) (map (next_of held) questions)

    of : (r ≡ next_of held one) ⊎ (filter_map (due_with held r) questions ≢ []) → filter_map (due_with held r) (one ∷ questions) ≢ []
    of (inl e) = let d = is_due held one in
        cons_some (one.key, d.0) _ (due_with held r one) (ap (λ m. due_with held m one) e ∙ ap (λ c. option_map (λ cause. (one.key, cause)) c) d.1)
    of (inr k) = cons_more _ _ k

pub due_first : (r : Option ℕ) (questions : List Tracked) (held : List Held) → r ≡ least (map (next_of held) questions) → IfSome r (λ next. filter_map (due_with held next) questions ≢ [])
due_first None questions held e = tt
due_first (Some next) [] held e = absurd (cc)
due_first (Some next) (one ∷ questions) held e =
    let same : next ≡ least_of (next_of held one) (map (next_of held) questions) = cc in
    subst (λ m. filter_map (due_with held m) (one ∷ questions) ≢ []) (sym same) (first_of held one questions)

pub none_due_before : (r : Option ℕ) (questions : List Tracked) (held : List Held) → r ≡ least (map (next_of held) questions) →
    IfSome r (λ next. (moment : ℕ) → moment < next → filter_map (due_with held moment) questions ≡ [])
none_due_before None questions held e = tt
none_due_before (Some next) [] held e = absurd (cc)
none_due_before (Some next) (one ∷ questions) held e =
    let same : next ≡ least_of (next_of held one) (map (next_of held) questions) = cc in
    λ moment h. let early : moment < least_of (next_of held one) (map (next_of held) questions) = omega (arith, h, same) in
    none_due held moment (next_of held one) (one ∷ questions)
    (let below : least_of (next_of held one) (map (next_of held) questions) ≤ next_of held one = least_of_le (next_of held one) (map (next_of held) questions) in omega (arith, early))
