-- What is held after an event, told of the hearings of a history.
use Rattle.std.proofs.Common.{◌≡◌, ℕ, ◌≤◌, Bool, true, false, cond, nat_lt, List, [], ◌∷◌, ◌++◌, map, filter, refl, IsPermutation}
use Rattle.std.specs.List.{AllByRecursion, list_all}
use Rattle.std.proofs.lemmas.Bool.{and_from, and_parts}
use Rattle.lists.proofs.Permutations.{IsPermutation-filter}
use Rattle.dns_record.specs.declared.record.Rr.{Rr}
use Rattle.mdns_history.specs.declared.held.Held.{Held}
use Rattle.mdns_history.specs.Hearings.{Hearing}
use Rattle.mdns_history.specs.Lifetimes.{is_live_at, is_other}
use Rattle.mdns_cache.specs.Lifetimes.{Holds, AllLive, AllHeard, hearing_at, hearings_at, renewed, shortened, after_hearing, after_hearings}
use Rattle.mdns_cache.proofs.Hearing.{Stands-from_held, AllLive-filter_live, AllLive-after_hearings, AllHeard-after_hearings, Holds-after_hearings}
use Rattle.mdns_cache.proofs.ListLemmas.{each-append, each-filter, each-map}
use Rattle.mdns_cache.proofs.AfterHearings.{after_hearings-permuted}
use Rattle.mdns_records.specs.After.{held_after}

module _ (moment word : ℕ) (heard : List Rr) where
  -- It holds exactly the live records, where it did before.
  pub after-holds : (held : List Held) (past : List Hearing) (before : ℕ) → before ≤ moment → Holds held past before →
      Holds (held_after moment word heard held) (hearings_at moment word heard ++ past) moment
  after-holds held past before earlier holds =
      Holds-after_hearings moment word heard (filter (is_live_at moment) held) past (AllLive-filter_live moment held) (Stands-from_held held past before moment earlier holds)

  pub after-live : (held : List Held) → AllLive moment (held_after moment word heard held)
  after-live held = AllLive-after_hearings moment word heard (filter (is_live_at moment) held) (AllLive-filter_live moment held)

  pub after-heard : (held : List Held) → AllHeard moment held → AllHeard moment (held_after moment word heard held)
  after-heard held all = AllHeard-after_hearings moment word heard (filter (is_live_at moment) held) (each-filter _ (is_live_at moment) held all)

  -- Records in another order are the same records after it, in another order.
  pub after-permuted : (one other : List Held) → IsPermutation one other → IsPermutation (held_after moment word heard one) (held_after moment word heard other)
  after-permuted one other moved = after_hearings-permuted (map (hearing_at moment word) heard) _ _ (IsPermutation-filter (is_live_at moment) one other moved)

-- What each record of a packet and each held record is like, each is that is held after it.
module _ (P : Rr → Type 0) where
  abbrev IsLike : Held → Type 0
  IsLike one = P one.rr

  cut_like : (hearing : Hearing) (held : List Held) → AllByRecursion IsLike held → AllByRecursion IsLike (map (shortened hearing) held)
  cut_like hearing held all = each-map IsLike IsLike (shortened hearing) (λ one h. h) held all

  heard_like : (hearing : Hearing) (held : List Held) → P hearing.rr → AllByRecursion IsLike held → AllByRecursion IsLike (after_hearing held hearing)
  heard_like hearing held it all = of (nat_lt 0 hearing.rr.ttl)
    where
      of : (b : Bool) → AllByRecursion IsLike (cond b (map (shortened hearing) (filter (is_other hearing.rr) held) ++ renewed hearing ∷ []) (map (shortened hearing) held))
      of true = each-append IsLike _ (renewed hearing ∷ []) (cut_like hearing _ (each-filter IsLike (is_other hearing.rr) held all)) (it, tt)
      of false = cut_like hearing held all

  all_like : (moment word : ℕ) (heard : List Rr) (held : List Held) → AllByRecursion P heard → AllByRecursion IsLike held →
      AllByRecursion IsLike (after_hearings held (map (hearing_at moment word) heard))
  all_like moment word [] held its all = all
  all_like moment word (rr ∷ heard) held its all = all_like moment word heard _ its.1 (heard_like (hearing_at moment word rr) held its.0 all)

  pub after-like : (moment word : ℕ) (heard : List Rr) (held : List Held) → AllByRecursion P heard → AllByRecursion IsLike held → AllByRecursion IsLike (held_after moment word heard held)
  after-like moment word heard held its all = all_like moment word heard (filter (is_live_at moment) held) its (each-filter IsLike (is_live_at moment) held all)

-- The same, told by a test.
each_true : {X : Type 0} (test : X → Bool) (xs : List X) → list_all test xs ≡ true → AllByRecursion (λ x. test x ≡ true) xs
each_true test [] h = tt
each_true test (x ∷ xs) h = let parts = and_parts (test x) (list_all test xs) h in (parts.0, each_true test xs parts.1)

all_true : {X : Type 0} (test : X → Bool) (xs : List X) → AllByRecursion (λ x. test x ≡ true) xs → list_all test xs ≡ true
all_true test [] h = refl
all_true test (x ∷ xs) h = and_from (test x) (list_all test xs) h.0 (all_true test xs h.1)

pub after-tested : (test : Rr → Bool) (moment word : ℕ) (heard : List Rr) (held : List Held) → list_all test heard ≡ true → list_all (λ (one : Held). test one.rr) held ≡ true →
    list_all (λ (one : Held). test one.rr) (held_after moment word heard held) ≡ true
after-tested test moment word heard held its all =
    all_true (λ (one : Held). test one.rr) (held_after moment word heard held)
    (after-like (λ (rr : Rr). test rr ≡ true) moment word heard held (each_true test heard its) (each_true (λ (one : Held). test one.rr) held all))
