-- A packet leaves as many records as are held and live, and as are new among those that it brings.
use Rattle.std.proofs.Common.{◌≡◌, ◌∙◌, ℕ, zero, suc, ◌+◌, ◌<◌, ◌&&◌, ◌||◌, Bool, true, false, not, cond, List, [], ◌∷◌, map, filter, length, nat_lt, count_by, slice_get, Option, Some, refl, sym, ap, subst, arith}
use Rattle.std.specs.List.{list_any, AllByRecursion, IsDistinct}
use Rattle.std.proofs.lemmas.Bool.{false≢true, false_from_ne_true}
use Rattle.std.proofs.lemmas.List.Elements.{filter_agree}
use Rattle.std.proofs.lemmas.List.Sums.{length-filter}
use Rattle.lists.specs.Lists.{least_of}
use Rattle.dns_record.specs.declared.record.Rr.{Rr}
use Rattle.dns_record.specs.Records.{same}
use Rattle.dns_record.proofs.Same.{same_tells}
use Rattle.mdns_history.specs.declared.held.Held.{Held}
use Rattle.mdns_history.specs.Lifetimes.{is_live_at}
use Rattle.mdns_cache.specs.Lifetimes.{AllLive, is_renewed_by, count_renewed, next_end_of}
use Rattle.mdns_cache.proofs.Counting.{is_left}
use Rattle.mdns_cache.specs.Named.{AreOnce}
use Rattle.mdns_cache.specs.Counted.{is_held, is_live_one, is_live_in, count_new}
use Rattle.mdns_cache.proofs.Once.{same_turned, AreOnce-filter}
use Rattle.mdns_cache.proofs.ListLemmas.{filter-filter, each-filter}
use Rattle.mdns_cache.proofs.Hearing.{filter_live}

-- records that are the same are the same as the same others
same_left : (a b c : Rr) → same a b ≡ true → same a c ≡ same b c
same_left a b c h =
    Rattle.std.specs.Cmp.both_ways (same a c) (same b c)
    (λ k. (same_tells b c).1 (sym ((same_tells a b).0 h) ∙ (same_tells a c).0 k))
    (λ k. (same_tells a c).1 ((same_tells a b).0 h ∙ (same_tells b c).0 k))

renewed_alike : (a b : Rr) → same a b ≡ true → (rrs : List Rr) → is_renewed_by a rrs ≡ is_renewed_by b rrs
renewed_alike a b h [] = refl
renewed_alike a b h (rr ∷ rrs) = ap (λ s. (s && nat_lt 0 rr.ttl) || is_renewed_by a rrs) (same_left a b rr h) ∙ ap (λ r. (same b rr && nat_lt 0 rr.ttl) || r) (renewed_alike a b h rrs)

module _ (rr : Rr) (rrs : List Rr) where
  abbrev left_by : Bool → Bool → Held → Bool
  left_by s t one = not ((s && t) || is_renewed_by one.rr rrs)

  -- a goodbye takes nothing's place
  goodbye : nat_lt 0 rr.ttl ≡ false → (one : Held) → is_left (rr ∷ rrs) one ≡ is_left rrs one
  goodbye e one = ap (λ t. left_by (same one.rr rr) t one) e ∙ off (same one.rr rr)
    where
      off : (s : Bool) → left_by s false one ≡ is_left rrs one
      off true = refl
      off false = refl

  -- nor does what a later one renews
  repeated : is_renewed_by rr rrs ≡ true → (one : Held) → is_left (rr ∷ rrs) one ≡ is_left rrs one
  repeated e one = of (same one.rr rr) refl (nat_lt 0 rr.ttl)
    where
      of : (s : Bool) → same one.rr rr ≡ s → (t : Bool) → left_by s t one ≡ is_left rrs one
      of false k t = refl
      of true k false = refl
      of true k true = ap not (sym (renewed_alike one.rr rr k rrs ∙ e))

  -- what is no held record takes nothing's place
  other_left : (held : List Held) → is_held held rr ≡ false → length (filter (is_left (rr ∷ rrs)) held) ≡ length (filter (is_left rrs) held)
  other_left [] none = refl
  other_left (one ∷ held) none = of (same one.rr rr) refl (λ apart. other_left held apart) none
    where
      step : (b : Bool) → length (filter (is_left (rr ∷ rrs)) held) ≡ length (filter (is_left rrs) held) →
          length (cond b (one ∷ filter (is_left (rr ∷ rrs)) held) (filter (is_left (rr ∷ rrs)) held)) ≡ length (cond b (one ∷ filter (is_left rrs) held) (filter (is_left rrs) held))
      step true ih = ap suc ih
      step false ih = ih

      of : (s : Bool) → same one.rr rr ≡ s → (is_held held rr ≡ false → length (filter (is_left (rr ∷ rrs)) held) ≡ length (filter (is_left rrs) held)) →
          (s || is_held held rr) ≡ false → length (filter (is_left (rr ∷ rrs)) (one ∷ held)) ≡ length (filter (is_left rrs) (one ∷ held))
      of true k ih apart = absurd (cc)
      of false k ih apart =
          ap (λ (b : Bool). length (cond b (one ∷ filter (is_left (rr ∷ rrs)) held) (filter (is_left (rr ∷ rrs)) held))) (ap (λ s. left_by s (nat_lt 0 rr.ttl) one) k)
          ∙ step (is_left rrs one) (ih apart)

  none_held : (one : Held) (held : List Held) → same one.rr rr ≡ true → AllByRecursion (λ (y : Held). same one.rr y.rr ≡ false) held → is_held held rr ≡ false
  none_held one [] is apart = refl
  none_held one (y ∷ held) is apart =
      ap (λ b. b || is_held held rr)
      (false_from_ne_true (same y.rr rr) (λ k. false≢true (sym apart.0 ∙ same_left one.rr rr y.rr is ∙ same_turned y.rr rr k)))
      ∙ none_held one held is apart.1

  -- the one held record that is the same gives way
  one_less : nat_lt 0 rr.ttl ≡ true → is_renewed_by rr rrs ≡ false → (held : List Held) → AreOnce held → is_held held rr ≡ true →
      suc (length (filter (is_left (rr ∷ rrs)) held)) ≡ length (filter (is_left rrs) held)
  unfolding IsDistinct
  one_less above last [] once there = absurd (cc)
  one_less above last (one ∷ held) once there = of (same one.rr rr) refl (λ more. one_less above last held once.1 more) there
    where
      step : (b : Bool) → suc (length (filter (is_left (rr ∷ rrs)) held)) ≡ length (filter (is_left rrs) held) →
          suc (length (cond b (one ∷ filter (is_left (rr ∷ rrs)) held) (filter (is_left (rr ∷ rrs)) held))) ≡ length (cond b (one ∷ filter (is_left rrs) held) (filter (is_left rrs) held))
      step true ih = ap suc ih
      step false ih = ih

      of : (s : Bool) → same one.rr rr ≡ s → (is_held held rr ≡ true → suc (length (filter (is_left (rr ∷ rrs)) held)) ≡ length (filter (is_left rrs) held)) →
          (s || is_held held rr) ≡ true → suc (length (filter (is_left (rr ∷ rrs)) (one ∷ held))) ≡ length (filter (is_left rrs) (one ∷ held))
      of true k ih more =
          ap (λ (b : Bool). suc (length (cond b (one ∷ filter (is_left (rr ∷ rrs)) held) (filter (is_left (rr ∷ rrs)) held))))
          (ap (λ s. left_by s (nat_lt 0 rr.ttl) one) k ∙ ap (λ t. left_by true t one) above)
          ∙ ap suc (other_left held (none_held one held k once.0))
          ∙ sym (ap (λ (b : Bool). length (cond b (one ∷ filter (is_left rrs) held) (filter (is_left rrs) held))) (ap not (renewed_alike one.rr rr k rrs ∙ last)))
      of false k ih more =
          ap (λ (b : Bool). suc (length (cond b (one ∷ filter (is_left (rr ∷ rrs)) held) (filter (is_left (rr ∷ rrs)) held)))) (ap (λ s. left_by s (nat_lt 0 rr.ttl) one) k)
          ∙ step (is_left rrs one) (ih more)

all_left : (held : List Held) → length (filter (is_left []) held) ≡ length held
all_left [] = refl
all_left (one ∷ held) = ap suc (all_left held)

-- Of the held records those that are left, and those that are heard anew, are as many as those that are held, and those that are new.
left_and_new : (held : List Held) → AreOnce held → (rrs : List Rr) → length (filter (is_left rrs) held) + count_renewed rrs ≡ length held + count_new held rrs
left_and_new held once [] = ap (λ n. n + 0) (all_left held)
left_and_new held once (rr ∷ rrs) = of (nat_lt 0 rr.ttl) refl (is_renewed_by rr rrs) refl (is_held held rr) refl (left_and_new held once rrs)
  where
    as_many : (a b r n x : ℕ) → a ≡ b → b + r ≡ n + x → a + (0 + r) ≡ n + (0 + x)
    as_many a b r n x e ih = omega (arith, e, ih)

    one_renewed : (a b r n x : ℕ) → suc a ≡ b → b + r ≡ n + x → a + (1 + r) ≡ n + (0 + x)
    one_renewed a b r n x e ih = omega (arith, e, ih)

    one_new : (a b r n x : ℕ) → a ≡ b → b + r ≡ n + x → a + (1 + r) ≡ n + (1 + x)
    one_new a b r n x e ih = omega (arith, e, ih)

    of : (t : Bool) → nat_lt 0 rr.ttl ≡ t → (b : Bool) → is_renewed_by rr rrs ≡ b → (h : Bool) → is_held held rr ≡ h →
        length (filter (is_left rrs) held) + count_renewed rrs ≡ length held + count_new held rrs →
        length (filter (is_left (rr ∷ rrs)) held) + (cond (t && not b) 1 0 + count_renewed rrs) ≡ length held + (cond (t && not b && not h) 1 0 + count_new held rrs)
    of false e b f h g ih = as_many _ _ (count_renewed rrs) (length held) (count_new held rrs) (ap length (filter_agree _ _ (goodbye rr rrs e) held)) ih
    of true e true f h g ih = as_many _ _ (count_renewed rrs) (length held) (count_new held rrs) (ap length (filter_agree _ _ (repeated rr rrs f) held)) ih
    of true e false f true g ih = one_renewed _ _ (count_renewed rrs) (length held) (count_new held rrs) (one_less rr rrs e f held once g) ih
    of true e false f false g ih = one_new _ _ (count_renewed rrs) (length held) (count_new held rrs) (other_left rr rrs held g) ih

-- the same of those that are live, as counts
pub counted-new : (moment : ℕ) (held : List Held) (rrs : List Rr) → AreOnce held →
    count_by (λ one. is_live_at moment one && is_left rrs one) held + count_renewed rrs
    ≡ count_by (is_live_at moment) held + count_new (filter (is_live_at moment) held) rrs
counted-new moment held rrs once =
    ap (λ n. n + count_renewed rrs)
    (sym (length-filter (λ one. is_live_at moment one && is_left rrs one) held) ∙ sym (ap length (filter-filter (is_left rrs) (is_live_at moment) held)))
    ∙ left_and_new (filter (is_live_at moment) held) (AreOnce-filter (is_live_at moment) held once) rrs
    ∙ ap (λ n. n + count_new (filter (is_live_at moment) held) rrs) (length-filter (is_live_at moment) held)

-- where none has ended, all are live
pub all-live : (moment : ℕ) (held : List Held) → AllLive moment held → length held ≡ count_by (is_live_at moment) held
all-live moment held live = sym (ap length (filter_live moment held live)) ∙ length-filter (is_live_at moment) held

-- what is below the least end is below each
pub below-least : (moment n : ℕ) (held : List Held) → moment < least_of n (map (λ (one : Held). one.end) held) → AllLive moment held
below-least moment n [] below = tt
below-least moment n (one ∷ held) below =
    let here : moment < one.end = omega (arith, below) in
    let rest : moment < least_of n (map (λ (x : Held). x.end) held) = omega (arith, below) in
    (here, below-least moment n held rest)

pub live-before_end : (moment : ℕ) (held : List Held) (end : Option ℕ) → end ≡ next_end_of held → ((n : ℕ) → end ≡ Some n → moment < n) → AllLive moment held
live-before_end moment [] end is later = tt
live-before_end moment (one ∷ held) end is later =
    let below : moment < least_of one.end (map (λ (x : Held). x.end) held) = later _ is in
    let first : moment < one.end = first_below one.end (map (λ (x : Held). x.end) held) below in
    (first, below-least moment one.end held below)
  where
    first_below : (n : ℕ) (ms : List ℕ) → moment < least_of n ms → moment < n
    first_below n [] below = below
    first_below n (m ∷ ms) below = first_below n ms (omega (arith, below))

-- the one held record that is the same as another tells whether a live one is
apart_at : (x : Held) (held : List Held) (i : ℕ) (one : Held) → slice_get held i ≡ Some one → AllByRecursion (λ (y : Held). same x.rr y.rr ≡ false) held →
    same x.rr one.rr ≡ false
apart_at x [] i one there apart = absurd (cc)
apart_at x (y ∷ held) zero one there apart = let first : y ≡ one = cc in ap (λ (z : Held). same x.rr z.rr) (sym first) ∙ apart.0
apart_at x (y ∷ held) (suc i) one there apart = apart_at x held i one there apart.1

found_live : (moment : ℕ) (rr : Rr) (held : List Held) → AreOnce held → (i : ℕ) (one : Held) → slice_get held i ≡ Some one → same one.rr rr ≡ true →
    is_held (filter (is_live_at moment) held) rr ≡ is_live_at moment one
unfolding IsDistinct
found_live moment rr [] once i one there is = absurd (cc)
found_live moment rr (x ∷ held) once zero one there is =
    let first : x ≡ one = cc in
    subst (λ (y : Held). is_held (filter (is_live_at moment) (x ∷ held)) rr ≡ is_live_at moment y) first (of (ap (λ (y : Held). same y.rr rr) first ∙ is) (is_live_at moment x))
  where
    of : same x.rr rr ≡ true → (b : Bool) → is_held (cond b (x ∷ filter (is_live_at moment) held) (filter (is_live_at moment) held)) rr ≡ b
    of k true = ap (λ c. c || is_held (filter (is_live_at moment) held) rr) k
    of k false = none_held rr [] x (filter (is_live_at moment) held) k (each-filter (λ (y : Held). same x.rr y.rr ≡ false) (is_live_at moment) held once.0)
found_live moment rr (x ∷ held) once (suc i) one there is = of (is_live_at moment x) (found_live moment rr held once.1 i one there is)
  where
    other : same x.rr rr ≡ false
    other = false_from_ne_true (same x.rr rr)
        (λ k. false≢true (sym (apart_at x held i one there once.0) ∙ same_left x.rr rr one.rr k ∙ same_turned one.rr rr is))

    of : (b : Bool) → is_held (filter (is_live_at moment) held) rr ≡ is_live_at moment one →
        is_held (cond b (x ∷ filter (is_live_at moment) held) (filter (is_live_at moment) held)) rr ≡ is_live_at moment one
    of true ih = ap (λ c. c || is_held (filter (is_live_at moment) held) rr) other ∙ ih
    of false ih = ih

none_found : (rr : Rr) (held : List Held) → AllByRecursion (λ (one : Held). same one.rr rr ≡ false) held → is_held held rr ≡ false
none_found rr [] apart = refl
none_found rr (one ∷ held) apart = ap (λ b. b || is_held held rr) apart.0 ∙ none_found rr held apart.1

pub live-told : (moment : ℕ) (rr : Rr) (held : List Held) → AreOnce held → (i : ℕ) → (one : Held) × (slice_get held i ≡ Some one) × (same one.rr rr ≡ true) →
    is_live_in moment held i ≡ is_held (filter (is_live_at moment) held) rr
live-told moment rr held once i found = ap (is_live_one moment) found.1 ∙ sym (found_live moment rr held once i found.0 found.1 found.2)

pub none-told : (moment : ℕ) (rr : Rr) (held : List Held) → AllByRecursion (λ (one : Held). same one.rr rr ≡ false) held → false ≡ is_held (filter (is_live_at moment) held) rr
none-told moment rr held apart =
    sym (none_found rr (filter (is_live_at moment) held) (each-filter (λ (one : Held). same one.rr rr ≡ false) (is_live_at moment) held apart))
