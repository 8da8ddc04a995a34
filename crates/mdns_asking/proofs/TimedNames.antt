-- Questions that are timed name by name.
use Rattle.std.proofs.Common.{◌≡◌, ℕ, suc, ◌+◌, ◌<◌, ◌≤◌, Bool, true, false, cond, List, [], ◌∷◌, map, length, drop, get_or, Option, Some, None, refl, ap, ◌∙◌, sym, arith, ⊎_elim}
use Rattle.std.proofs.Math.Seq.{drop-cons}
use Rattle.std.proofs.lemmas.Bool.{cases_lt}
use Rattle.dns_name.specs.Names.{folded_eq}
use Rattle.mdns_happened.specs.declared.walk.Walk.{Walk}
use Rattle.mdns_happened.specs.Walks.{walk_of}
use Rattle.mdns_question.specs.declared.tracked.Tracked.{Tracked}
use Rattle.mdns_question.specs.Placed.{AreOfName}
use Rattle.mdns_asking.specs.Timed.{timed}
use Rattle.mdns_asking.specs.ByWalks.{timed_in, timed_by, timed_if}

-- a list that is told place by place
pub by_index : (g : Tracked → Tracked) (old new : List Tracked) → length new ≡ length old → ((k : ℕ) (d : Tracked) → k < length old → get_or new k d ≡ g (get_or old k d)) → new ≡ map g old
by_index g [] [] len each = refl
by_index g [] (n ∷ ns) len each = absurd (omega arith)
by_index g (o ∷ os) [] len each = absurd (omega arith)
by_index g (o ∷ os) (n ∷ ns) len each =
    let head : n ≡ g o = each 0 n (omega arith) in
    let rest : ns ≡ map g os = by_index g os ns (omega arith) (λ k d h. each (suc k) d (omega arith)) in
    cc

-- the questions of a walk's name are timed
pub timed_places : (walk : Walk) (old new : List Tracked) (first end : ℕ) → AreOfName old walk.name first end → length new ≡ length old →
    ((k : ℕ) (d : Tracked) → first ≤ k → k < end → get_or new k d ≡ timed walk.later.items (get_or old k d)) → ((k : ℕ) (d : Tracked) → k < first → get_or new k d ≡ get_or old k d) →
    ((k : ℕ) (d : Tracked) → end ≤ k → get_or new k d ≡ get_or old k d) → new ≡ map (timed_if walk) old
timed_places walk old new first end at len told before behind = by_index (timed_if walk) old new len each
  where
    choose : (one : Tracked) (b : Bool) → folded_eq walk.name one.key.name ≡ b → cond b (timed walk.later.items one) one ≡ timed_if walk one
    choose one b e = ap (λ (c : Bool). cond c (timed walk.later.items one) one) (sym e)

    each : (k : ℕ) (d : Tracked) → k < length old → get_or new k d ≡ timed_if walk (get_or old k d)
    each k d h =
        ⊎_elim (λ low. before k d low ∙ choose (get_or old k d) false (at.before k d low))
        (λ past. ⊎_elim (λ inside. told k d past inside ∙ choose (get_or old k d) true (at.named k d past inside)) (λ over. behind k d over ∙ choose (get_or old k d) false (at.behind k d over h)) (cases_lt k end))
        (cases_lt k first)

map_same : (f g : Tracked → Tracked) (xs : List Tracked) → ((x : Tracked) → f x ≡ g x) → map f xs ≡ map g xs
map_same f g [] h = refl
map_same f g (x ∷ xs) h = λ i. h x i ∷ map_same f g xs h i

map_map : (f g : Tracked → Tracked) (xs : List Tracked) → map f (map g xs) ≡ map (λ x. f (g x)) xs
map_map f g [] = refl
map_map f g (x ∷ xs) = ap (λ l. f (g x) ∷ l) (map_map f g xs)

-- no walk is told yet
pub none_yet : (walks : List Walk) (old : List Tracked) → old ≡ map (timed_by (drop (length walks) walks)) old
none_yet walks old = each old ∙ ap (λ (ws : List Walk). map (timed_by ws) old) (sym (all walks))
  where
    all : (ws : List Walk) → drop (length ws) ws ≡ []
    all [] = refl
    all (w ∷ ws) = all ws

    each : (xs : List Tracked) → xs ≡ map (timed_by []) xs
    each [] = refl
    each (x ∷ xs) = ap (λ l. x ∷ l) (each xs)

-- a walk in front of others is told behind them: a question keeps its key, and what was told of it before doesn't count
told_behind : (walk : Walk) (walks : List Walk) (one : Tracked) → timed_if walk (timed_by walks one) ≡ timed_by (walk ∷ walks) one
told_behind walk walks one = of (walk_of one.key.name walks)
  where
    of : (w : Option Walk) → timed_if walk (timed_in one w) ≡ timed_in one (cond (folded_eq walk.name one.key.name) (Some walk) w)
    of None = either (folded_eq walk.name one.key.name)
      where
        either : (b : Bool) → cond b (timed walk.later.items one) one ≡ timed_in one (cond b (Some walk) None)
        either true = refl
        either false = refl
    of (Some other) = either (folded_eq walk.name one.key.name)
      where
        either : (b : Bool) → cond b (timed walk.later.items (timed other.later.items one)) (timed other.later.items one) ≡ timed_in one (cond b (Some walk) (Some other))
        either true = refl
        either false = refl

-- one walk more, from the last one on
pub walk_more : (walks : List Walk) (i j : ℕ) (walk : Walk) (old before after : List Tracked) → i < length walks → j ≡ i + 1 → walk ≡ get_or walks i walk → before ≡ map (timed_by (drop j walks)) old →
    after ≡ map (timed_if walk) before → after ≡ map (timed_by (drop i walks)) old
walk_more walks i j walk old before after within next is had now =
    let from : j ≡ suc i = omega arith in
    let rest : drop i walks ≡ walk ∷ drop (suc i) walks = drop-cons walks i walk within ∙ ap (λ (w : Walk). w ∷ drop (suc i) walks) (sym is) in
    now ∙ ap (map (timed_if walk)) (had ∙ ap (λ (n : ℕ). map (timed_by (drop n walks)) old) from) ∙ map_map (timed_if walk) (timed_by (drop (suc i) walks)) old
    ∙ map_same (λ x. timed_if walk (timed_by (drop (suc i) walks) x)) (timed_by (walk ∷ drop (suc i) walks)) old (λ one. told_behind walk (drop (suc i) walks) one)
    ∙ ap (λ (ws : List Walk). map (timed_by ws) old) (sym rest)
