-- The end of a record, where flushes are looked for among all hearings and not among the later ones alone: the same, as moments don't fall.
use Rattle.std.proofs.Common.{◌≡◌, ℕ, ◌+◌, ◌≤◌, min, Bool, true, false, cond, ◌&&◌, ◌||◌, List, [], ◌∷◌, ◌++◌, map, Some, refl, ap, subst, ◌∙◌, sym, arith}
use Rattle.std.proofs.Math.Bool.{and-false}
use Rattle.std.specs.Prelude.{filter, nat_lt}
use Rattle.std.specs.Option.{unwrap_or}
use Rattle.lists.specs.Lists.{least_of}
use Rattle.dns_record.specs.declared.record.Rr.{Rr}
use Rattle.mdns_history.specs.Hearings.{Hearing}
use Rattle.mdns_history.specs.Lifetimes.{renews, takes_back, flushes, cuts, full_end, end_from, after_renewal, last_renewal}

-- a second after a hearing
abbrev second_after : Hearing → ℕ
second_after hearing = hearing.moment + 1000

-- a flush more than a second after a renewal
abbrev flushes_late : Rr → ℕ → Hearing → Bool
flushes_late rr renewed hearing = flushes rr hearing && nat_lt (renewed + 1000) hearing.moment

-- the least of the TTL's end, of a second after each later goodbye, and of a second after each late flush anywhere
abbrev pub end_over_all : Rr → List Hearing → Hearing → ℕ
end_over_all rr heard renewal =
    least_of (full_end renewal) (map second_after (filter (takes_back rr) (after_renewal rr heard)) ++ map second_after (filter (flushes_late rr renewal.moment) heard))

-- hearings up to a moment, and hearings whose moments don't fall, the last first
abbrev pub AreUpTo : ℕ → List Hearing → Type 0
AreUpTo moment [] = Unit {0}
AreUpTo moment (hearing ∷ heard) = (hearing.moment ≤ moment) × AreUpTo moment heard

abbrev pub AreInOrder : List Hearing → Type 0
AreInOrder [] = Unit {0}
AreInOrder (hearing ∷ heard) = AreUpTo hearing.moment heard × AreInOrder heard

-- no hearing up to the renewal flushes late
none_late : (rr : Rr) (renewed : ℕ) (heard : List Hearing) → AreUpTo renewed heard → filter (flushes_late rr renewed) heard ≡ []
none_late rr renewed [] up = refl
none_late rr renewed (hearing ∷ heard) up =
    let early : nat_lt (renewed + 1000) hearing.moment ≡ false = grind (arith, up.0) in
    ap (λ b. cond (flushes rr hearing && b) (hearing ∷ filter (flushes_late rr renewed) heard) (filter (flushes_late rr renewed) heard)) early
    ∙ ap (λ b. cond b (hearing ∷ filter (flushes_late rr renewed) heard) (filter (flushes_late rr renewed) heard)) (and-false (flushes rr hearing))
    ∙ none_late rr renewed heard up.1

least_of-between : (n m : ℕ) (xs ys : List ℕ) → least_of n (xs ++ m ∷ ys) ≡ min m (least_of n (xs ++ ys))
least_of-between n m [] ys = refl
least_of-between n m (x ∷ xs) ys = ap (λ k. min x k) (least_of-between n m xs ys) ∙ min_swap x m (least_of n (xs ++ ys))
  where
    min_swap : (a b c : ℕ) → min a (min b c) ≡ min b (min a c)
    min_swap a b c = omega arith

-- one more hearing in both lists
least_of-more : (n m : ℕ) (t u : Bool) (xs ys zs : List ℕ) → least_of n (xs ++ ys) ≡ least_of n zs →
    least_of n (cond t (m ∷ xs) xs ++ cond u (m ∷ ys) ys) ≡ least_of n (cond (t || u) (m ∷ zs) zs)
least_of-more n m true true xs ys zs e = ap (λ k. min m k) (least_of-between n m xs ys ∙ ap (λ k. min m k) e) ∙ twice m (least_of n zs)
  where
    twice : (a b : ℕ) → min a (min a b) ≡ min a b
    twice a b = omega arith
least_of-more n m true false xs ys zs e = ap (λ k. min m k) e
least_of-more n m false true xs ys zs e = least_of-between n m xs ys ∙ ap (λ k. min m k) e
least_of-more n m false false xs ys zs e = e

map-cond : (b : Bool) (x : Hearing) (xs : List Hearing) → map second_after (cond b (x ∷ xs) xs) ≡ cond b (second_after x ∷ map second_after xs) (map second_after xs)
map-cond true x xs = refl
map-cond false x xs = refl

-- Both readings give one end.
pub end_over_all-is : (rr : Rr) (heard : List Hearing) (renewal : Hearing) → AreInOrder heard → last_renewal rr heard ≡ Some renewal →
    end_over_all rr heard renewal ≡ end_from rr (after_renewal rr heard) renewal
end_over_all-is rr [] renewal order last = cc
end_over_all-is rr (hearing ∷ heard) renewal order last = of (renews rr hearing) last (λ e. end_over_all-is rr heard renewal order.1 e)
  where
    n : ℕ
    n = full_end renewal

    later : List Hearing
    later = after_renewal rr heard

    of : (b : Bool) → cond b (Some hearing) (last_renewal rr heard) ≡ Some renewal →
        (last_renewal rr heard ≡ Some renewal → end_over_all rr heard renewal ≡ end_from rr later renewal) →
        least_of n (map second_after (filter (takes_back rr) (cond b [] (hearing ∷ later))) ++ map second_after (filter (flushes_late rr renewal.moment) (hearing ∷ heard)))
        ≡ end_from rr (cond b [] (hearing ∷ later)) renewal
    of true e rest =
        let here : hearing ≡ renewal = some_path e in
        ap (λ zs. least_of n (map second_after zs)) (none_late rr renewal.moment (hearing ∷ heard) (up_to here))
      where
        some_path : Some hearing ≡ Some renewal → hearing ≡ renewal
        some_path f = ap (λ o. unwrap_or o hearing) f

        up_to : hearing ≡ renewal → AreUpTo renewal.moment (hearing ∷ heard)
        up_to f = subst (λ h. AreUpTo h.moment (hearing ∷ heard)) f (omega arith, order.0)
    of false e rest =
        ap (λ xs. least_of n (xs ++ map second_after (filter (flushes_late rr renewal.moment) (hearing ∷ heard)))) (map-cond (takes_back rr hearing) hearing (filter (takes_back rr) later))
        ∙ ap (λ ys. least_of n (cond (takes_back rr hearing) (second_after hearing ∷ map second_after (filter (takes_back rr) later)) (map second_after (filter (takes_back rr) later)) ++ ys))
        (map-cond (flushes_late rr renewal.moment hearing) hearing (filter (flushes_late rr renewal.moment) heard))
        ∙ least_of-more n (second_after hearing) (takes_back rr hearing) (flushes_late rr renewal.moment hearing)
        (map second_after (filter (takes_back rr) later)) (map second_after (filter (flushes_late rr renewal.moment) heard)) (map second_after (filter (cuts rr renewal.moment) later)) (rest e)
        ∙ ap (λ zs. least_of n zs) (sym (map-cond (cuts rr renewal.moment hearing) hearing (filter (cuts rr renewal.moment) later)))
