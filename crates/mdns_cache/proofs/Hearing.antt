-- What is held after a hearing is exactly the live records of the hearings with it.
use Rattle.std.proofs.Common.{◌≡◌, ℕ, ◌+◌, ◌<◌, ◌≤◌, min, Bool, true, false, cond, List, [], ◌∷◌, ◌++◌, map, filter, reverse, nat_lt, refl, sym, ap, subst, ◌∙◌, arith, append_assoc, IsPermutation}
use Rattle.std.specs.List.{AllByRecursion}
use Rattle.std.proofs.lemmas.Bool.{ltb-true, lt-ltb}
use Rattle.std.proofs.lemmas.List.{reverse-append}
use Rattle.std.proofs.lemmas.List.Elements.{All-from_recursion, recursion_from_All}
use Rattle.std.proofs.lemmas.List.Sorted.{All-permutation, IsPermutation-refl, IsPermutation-sym, IsPermutation-trans, IsPermutation-cons, IsPermutation-to_front, IsPermutation-map}
use Rattle.dns_record.specs.declared.record.Rr.{Rr}
use Rattle.dns_record.specs.Records.{same}
use Rattle.dns_record.proofs.Same.{same_tells}
use Rattle.mdns_history.specs.declared.held.Held.{Held}
use Rattle.mdns_history.specs.Hearings.{Hearing}
use Rattle.mdns_history.specs.Lifetimes.{live_of, is_live_at, is_other, cuts, held_from, renewals}
use Rattle.mdns_history.proofs.LifetimeSteps.{live_of-later, live_of-renewal, live_of-goodbye}
use Rattle.mdns_cache.specs.Lifetimes.{Holds, Stands, AllLive, AllHeard, hearing_at, hearings_at, renewed, shortened, after_hearing, after_hearings}
use Rattle.lists.proofs.Permutations.{IsPermutation-filter}
use Rattle.mdns_cache.proofs.ListLemmas.{filter_all, filter_less, each-append, each-filter, each-passes, each-map, each-weaker}

same_itself : (rr : Rr) → same rr rr ≡ true
same_itself rr = (same_tells rr rr).1 refl

-- no hearings leave nothing live
pub Holds-none : (moment : ℕ) → Holds [] [] moment
unfolding live_of
Holds-none moment = IsPermutation-refl []

-- where nothing has ended, all is live
pub filter_live : (moment : ℕ) (held : List Held) → AllLive moment held → filter (is_live_at moment) held ≡ held
filter_live moment held live = filter_all (is_live_at moment) held (each-weaker _ _ (λ one h. lt-ltb moment one.end h) held live)

-- what passes is live
pub AllLive-filter_live : (moment : ℕ) (held : List Held) → AllLive moment (filter (is_live_at moment) held)
AllLive-filter_live moment held = each-passes _ (is_live_at moment) (λ one h. ltb-true moment one.end h) held

pub Stands-from_holds : (moment : ℕ) (held : List Held) (heard : List Hearing) → AllLive moment held → Holds held heard moment → Stands held heard moment
Stands-from_holds moment held heard live holds = subst (λ l. IsPermutation l (live_of heard moment)) (sym (filter_live moment held live)) holds

pub Holds-from_stands : (moment : ℕ) (held : List Held) (heard : List Hearing) → AllLive moment held → Stands held heard moment → Holds held heard moment
Holds-from_stands moment held heard live stands = subst (λ l. IsPermutation l (live_of heard moment)) (filter_live moment held live) stands

-- a life that is cut at a moment isn't over then
shortened_live : (hearing : Hearing) (one : Held) → hearing.moment < one.end → hearing.moment < (shortened hearing one).end
shortened_live hearing one live = of (cuts one.rr one.heard hearing)
  where
    of : (b : Bool) → hearing.moment < cond b (min (hearing.moment + 1000) one.end) one.end
    of true = omega (arith, live)
    of false = live

pub AllLive-after_hearing : (hearing : Hearing) (held : List Held) → AllLive hearing.moment held → AllLive hearing.moment (after_hearing held hearing)
AllLive-after_hearing hearing held live = of (nat_lt 0 hearing.rr.ttl) refl
  where
    cut : (hs : List Held) → AllLive hearing.moment hs → AllLive hearing.moment (map (shortened hearing) hs)
    cut hs h = each-map _ _ (shortened hearing) (shortened_live hearing) hs h

    of : (b : Bool) → nat_lt 0 hearing.rr.ttl ≡ b →
        AllLive hearing.moment (cond b (map (shortened hearing) (filter (is_other hearing.rr) held) ++ renewed hearing ∷ []) (map (shortened hearing) held))
    of true e =
        let positive : 0 < hearing.rr.ttl = ltb-true 0 hearing.rr.ttl e in
        each-append _ (map (shortened hearing) (filter (is_other hearing.rr) held)) (renewed hearing ∷ []) (cut _ (each-filter _ (is_other hearing.rr) held live)) (omega (arith, positive), tt)
    of false e = cut held live

pub AllHeard-after_hearing : (hearing : Hearing) (held : List Held) → AllHeard hearing.moment held → AllHeard hearing.moment (after_hearing held hearing)
AllHeard-after_hearing hearing held heard = of (nat_lt 0 hearing.rr.ttl)
  where
    cut : (hs : List Held) → AllHeard hearing.moment hs → AllHeard hearing.moment (map (shortened hearing) hs)
    cut hs h = each-map _ _ (shortened hearing) (λ one k. k) hs h

    of : (b : Bool) → AllHeard hearing.moment (cond b (map (shortened hearing) (filter (is_other hearing.rr) held) ++ renewed hearing ∷ []) (map (shortened hearing) held))
    of true = each-append _ (map (shortened hearing) (filter (is_other hearing.rr) held)) (renewed hearing ∷ []) (cut _ (each-filter _ (is_other hearing.rr) held heard)) (omega arith, tt)
    of false = cut held heard

-- THE STEP: one more hearing, where nothing held has ended
pub Holds-after_hearing : (hearing : Hearing) (held : List Held) (past : List Hearing) → AllLive hearing.moment held → Holds held past hearing.moment →
    Holds (after_hearing held hearing) (hearing ∷ past) hearing.moment
Holds-after_hearing hearing held past live holds = of (nat_lt 0 hearing.rr.ttl) refl
  where
    by_live : (zs : List Held) → IsPermutation (after_hearing held hearing) zs → live_of (hearing ∷ past) hearing.moment ≡ filter (is_live_at hearing.moment) zs →
        Holds (after_hearing held hearing) (hearing ∷ past) hearing.moment
    by_live zs p e =
        let lives = filter_live hearing.moment (after_hearing held hearing) (AllLive-after_hearing hearing held live) in
        subst (λ l. IsPermutation l (live_of (hearing ∷ past) hearing.moment)) lives
        (subst (λ l. IsPermutation (filter (is_live_at hearing.moment) (after_hearing held hearing)) l) (sym e) (IsPermutation-filter (is_live_at hearing.moment) _ _ p))

    of : (b : Bool) → nat_lt 0 hearing.rr.ttl ≡ b → Holds (after_hearing held hearing) (hearing ∷ past) hearing.moment
    of true e =
        let others = IsPermutation-map (shortened hearing) _ _ (IsPermutation-filter (is_other hearing.rr) _ _ holds) in
        by_live (renewed hearing ∷ map (shortened hearing) (filter (is_other hearing.rr) (live_of past hearing.moment)))
        (rw e (IsPermutation-trans _ _ _ (IsPermutation-to_front (map (shortened hearing) (filter (is_other hearing.rr) held)) (renewed hearing)) (IsPermutation-cons (renewed hearing) _ _ others)))
        (live_of-renewal hearing past hearing.moment (same_itself hearing.rr) e)
    of false e =
        by_live (map (shortened hearing) (live_of past hearing.moment)) (rw e (IsPermutation-map (shortened hearing) _ _ holds)) (live_of-goodbye hearing past hearing.moment e)

-- a list turned behind another
reverse_cons : (x : Hearing) (xs past : List Hearing) → reverse (x ∷ xs) ++ past ≡ reverse xs ++ x ∷ past
reverse_cons x xs past = ap (λ l. l ++ past) (reverse-append (x ∷ []) xs) ∙ append_assoc (reverse xs) (x ∷ []) past

pub AllLive-after_hearings : (moment word : ℕ) (rrs : List Rr) (held : List Held) → AllLive moment held → AllLive moment (after_hearings held (map (hearing_at moment word) rrs))
AllLive-after_hearings moment word [] held live = live
AllLive-after_hearings moment word (rr ∷ rrs) held live =
    AllLive-after_hearings moment word rrs (after_hearing held (hearing_at moment word rr)) (AllLive-after_hearing (hearing_at moment word rr) held live)

pub AllHeard-after_hearings : (moment word : ℕ) (rrs : List Rr) (held : List Held) → AllHeard moment held → AllHeard moment (after_hearings held (map (hearing_at moment word) rrs))
AllHeard-after_hearings moment word [] held heard = heard
AllHeard-after_hearings moment word (rr ∷ rrs) held heard =
    AllHeard-after_hearings moment word rrs (after_hearing held (hearing_at moment word rr)) (AllHeard-after_hearing (hearing_at moment word rr) held heard)

-- the records of a packet, one after another
pub Holds-after_hearings : (moment word : ℕ) (rrs : List Rr) (held : List Held) (past : List Hearing) → AllLive moment held → Holds held past moment →
    Holds (after_hearings held (map (hearing_at moment word) rrs)) (hearings_at moment word rrs ++ past) moment
Holds-after_hearings moment word [] held past live holds = holds
Holds-after_hearings moment word (rr ∷ rrs) held past live holds =
    let hearing : Hearing = hearing_at moment word rr in
    subst (λ l. Holds (after_hearings held (map (hearing_at moment word) (rr ∷ rrs))) l moment) (sym (reverse_cons hearing (map (hearing_at moment word) rrs) past))
    (Holds-after_hearings moment word rrs (after_hearing held hearing) (hearing ∷ past) (AllLive-after_hearing hearing held live) (Holds-after_hearing hearing held past live holds))

-- what stood for hearings stands for them later
pub Stands-later : (held : List Held) (heard : List Hearing) (before moment : ℕ) → before ≤ moment → Stands held heard before → Stands held heard moment
Stands-later held heard before moment h stands =
    let p = IsPermutation-filter (is_live_at moment) _ _ stands in
    subst (λ l. IsPermutation (filter (is_live_at moment) held) l) (sym (live_of-later heard before moment h))
    (subst (λ l. IsPermutation l (filter (is_live_at moment) (live_of heard before))) (filter_less (is_live_at moment) (is_live_at before) (λ one e. ended one e) held) p)
  where
    ended : (one : Held) → is_live_at before one ≡ false → is_live_at moment one ≡ false
    ended one e = grind arith

-- a record that has ended may be taken out
pub Stands-taken : (held rest : List Held) (one : Held) (heard : List Hearing) (moment : ℕ) → one.end ≤ moment → IsPermutation held (one ∷ rest) →
    Stands held heard moment → Stands rest heard moment
Stands-taken held rest one heard moment ended p stands =
    let gone : is_live_at moment one ≡ false = grind arith in
    let q = IsPermutation-filter (is_live_at moment) _ _ p in
    let left : IsPermutation (filter (is_live_at moment) held) (filter (is_live_at moment) rest) =
    subst (λ b. IsPermutation (filter (is_live_at moment) held) (cond b (one ∷ filter (is_live_at moment) rest) (filter (is_live_at moment) rest))) gone q in
    IsPermutation-trans _ _ _ (IsPermutation-sym _ _ left) stands

-- exactly the live records are live
pub AllLive-from_holds : (moment : ℕ) (held : List Held) (heard : List Hearing) → Holds held heard moment → AllLive moment held
unfolding live_of
AllLive-from_holds moment held heard holds =
    let Lives : Held → Type 0 = λ one. moment < one.end in
    let all : List Held = map (held_from heard) (renewals heard) in
    let live : AllByRecursion Lives (filter (is_live_at moment) all) = each-passes Lives (is_live_at moment) (λ one h. ltb-true moment one.end h) all in
    recursion_from_All Lives held (All-permutation Lives (filter (is_live_at moment) all) held (IsPermutation-sym _ _ holds) (All-from_recursion Lives (filter (is_live_at moment) all) live))

-- exactly the live records stand for their hearings at every later moment
pub Stands-from_held : (held : List Held) (heard : List Hearing) (before moment : ℕ) → before ≤ moment → Holds held heard before → Stands held heard moment
Stands-from_held held heard before moment h holds =
    Stands-later held heard before moment h (Stands-from_holds before held heard (AllLive-from_holds before held heard holds) holds)

-- what is left of records was heard no later
pub AllHeard-taken : (moment : ℕ) (held rest : List Held) (one : Held) → IsPermutation held (one ∷ rest) → AllHeard moment held → AllHeard moment rest
AllHeard-taken moment held rest one p heard =
    let WasHeard : Held → Type 0 = λ other. other.heard ≤ moment in
    (recursion_from_All WasHeard (one ∷ rest) (All-permutation WasHeard held (one ∷ rest) p (All-from_recursion WasHeard held heard))).1
