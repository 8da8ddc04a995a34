-- No two held records are the same, whatever is heard.
use Rattle.std.proofs.Common.{◌≡◌, ◌∙◌, ℕ, zero, suc, Bool, true, false, not, cond, List, [], ◌∷◌, ◌++◌, map, filter, set, nat_lt, Some, slice_get, refl, sym, ap, subst, IsPermutation}
use Rattle.std.specs.List.{AllByRecursion, IsDistinct}
use Rattle.std.proofs.lemmas.Bool.{false≢true, false_from_ne_true}
use Rattle.std.proofs.lemmas.List.Sorted.{IsPermutation-cons, IsPermutation-to_front}
use Rattle.std.proofs.lemmas.Map.Keys.{IsDistinct-IsPermutation}
use Rattle.dns_record.specs.declared.record.Rr.{Rr}
use Rattle.dns_record.specs.Records.{same}
use Rattle.dns_record.proofs.Same.{same_tells}
use Rattle.mdns_history.specs.declared.held.Held.{Held}
use Rattle.mdns_history.specs.Hearings.{Hearing}
use Rattle.mdns_history.specs.Lifetimes.{is_other}
use Rattle.mdns_cache.specs.Lifetimes.{renewed, shortened, after_hearing}
use Rattle.mdns_cache.specs.Named.{AreOnce}
use Rattle.mdns_cache.proofs.ListLemmas.{filter_all, each-filter, each-weaker}

same_through : (a b c : Rr) → same a b ≡ true → same a c ≡ true → same b c ≡ true
same_through a b c h k = (same_tells b c).1 (sym ((same_tells a b).0 h) ∙ (same_tells a c).0 k)

pub same_turned : (a b : Rr) → same a b ≡ true → same b a ≡ true
same_turned a b h = (same_tells b a).1 (sym ((same_tells a b).0 h))

flips : (one other : Held) → same one.rr other.rr ≡ same other.rr one.rr
flips one other = Rattle.std.specs.Cmp.both_ways (same one.rr other.rr) (same other.rr one.rr) (same_turned one.rr other.rr) (same_turned other.rr one.rr)

pub AreOnce-permuted : (one other : List Held) → IsPermutation one other → AreOnce one → AreOnce other
AreOnce-permuted one other moved once = IsDistinct-IsPermutation (λ (x y : Held). same x.rr y.rr) flips one other moved once

pub AreOnce-tail : (one : Held) (held : List Held) → AreOnce (one ∷ held) → AreOnce held
unfolding IsDistinct
AreOnce-tail one held once = once.1

pub AreOnce-map : (hearing : Hearing) (held : List Held) → AreOnce held → AreOnce (map (shortened hearing) held)
unfolding IsDistinct
AreOnce-map hearing [] once = tt
AreOnce-map hearing (one ∷ held) once = (each held once.0, AreOnce-map hearing held once.1)
  where
    each : (hs : List Held) → AllByRecursion (λ (y : Held). same one.rr y.rr ≡ false) hs → AllByRecursion (λ (y : Held). same one.rr y.rr ≡ false) (map (shortened hearing) hs)
    each [] h = tt
    each (x ∷ hs) h = (h.0, each hs h.1)

pub AreOnce-filter : (p : Held → Bool) (held : List Held) → AreOnce held → AreOnce (filter p held)
unfolding IsDistinct
AreOnce-filter p [] once = tt
AreOnce-filter p (one ∷ held) once = of (p one) (AreOnce-filter p held once.1)
  where
    of : (b : Bool) → AreOnce (filter p held) → AreOnce (cond b (one ∷ filter p held) (filter p held))
    of true ih = (each-filter (λ (y : Held). same one.rr y.rr ≡ false) p held once.0, ih)
    of false ih = ih

AreOnce-push : (held : List Held) (one : Held) → AllByRecursion (λ (y : Held). same y.rr one.rr ≡ false) held → AreOnce held → AreOnce (held ++ one ∷ [])
unfolding IsDistinct
AreOnce-push [] one apart once = (tt, tt)
AreOnce-push (x ∷ held) one apart once = (more held once.0, AreOnce-push held one apart.1 once.1)
  where
    more : (hs : List Held) → AllByRecursion (λ (y : Held). same x.rr y.rr ≡ false) hs → AllByRecursion (λ (y : Held). same x.rr y.rr ≡ false) (hs ++ one ∷ [])
    more [] h = (apart.0, tt)
    more (y ∷ hs) h = (h.0, more hs h.1)

others_apart : (rr : Rr) (held : List Held) → AllByRecursion (λ (y : Held). same y.rr rr ≡ false) (filter (is_other rr) held)
others_apart rr [] = tt
others_apart rr (one ∷ held) = of (same one.rr rr) refl (others_apart rr held)
  where
    of : (b : Bool) → same one.rr rr ≡ b → AllByRecursion (λ (y : Held). same y.rr rr ≡ false) (filter (is_other rr) held) →
        AllByRecursion (λ (y : Held). same y.rr rr ≡ false) (cond (not b) (one ∷ filter (is_other rr) held) (filter (is_other rr) held))
    of true e ih = ih
    of false e ih = (e, ih)

shortened_apart : (hearing : Hearing) (rr : Rr) (held : List Held) → AllByRecursion (λ (y : Held). same y.rr rr ≡ false) held → AllByRecursion (λ (y : Held). same y.rr rr ≡ false) (map (shortened hearing) held)
shortened_apart hearing rr [] h = tt
shortened_apart hearing rr (one ∷ held) h = (h.0, shortened_apart hearing rr held h.1)

-- a hearing leaves no two that are the same, whatever it cuts
pub AreOnce-after_cut : (cut hearing : Hearing) (held : List Held) → AreOnce held →
    AreOnce (cond (nat_lt 0 hearing.rr.ttl) (map (shortened cut) (filter (is_other hearing.rr) held) ++ renewed hearing ∷ []) (map (shortened cut) held))
AreOnce-after_cut cut hearing held once = of (nat_lt 0 hearing.rr.ttl)
  where
    of : (b : Bool) → AreOnce (cond b (map (shortened cut) (filter (is_other hearing.rr) held) ++ renewed hearing ∷ []) (map (shortened cut) held))
    of true =
        AreOnce-push (map (shortened cut) (filter (is_other hearing.rr) held)) (renewed hearing) (shortened_apart cut hearing.rr (filter (is_other hearing.rr) held) (others_apart hearing.rr held))
        (AreOnce-map cut (filter (is_other hearing.rr) held) (AreOnce-filter (is_other hearing.rr) held once))
    of false = AreOnce-map cut held once

pub AreOnce-after_hearing : (hearing : Hearing) (held : List Held) → AreOnce held → AreOnce (after_hearing held hearing)
AreOnce-after_hearing hearing held once = AreOnce-after_cut hearing hearing held once

-- ---- what gives way

pub none_same : (rr : Rr) (held : List Held) → AllByRecursion (λ (one : Held). same one.rr rr ≡ false) held → filter (is_other rr) held ≡ held
none_same rr held apart = filter_all (is_other rr) held (each-weaker (λ (one : Held). is_other rr one ≡ true) (λ (one : Held). same one.rr rr ≡ false) (λ one h. ap not h) held apart)

-- the one record that is the same gives way to another in its place
pub one_same : (rr : Rr) (held : List Held) (i : ℕ) (one new : Held) → AreOnce held → slice_get held i ≡ Some one → same one.rr rr ≡ true →
    IsPermutation (filter (is_other rr) held ++ new ∷ []) (set held i new)
unfolding IsDistinct
one_same rr [] i one new once there is = absurd (cc)
one_same rr (x ∷ held) zero one new once there is =
    subst (λ (l : List Held). IsPermutation (l ++ new ∷ []) (new ∷ held)) (sym gone) (IsPermutation-to_front held new)
  where
    first : x ≡ one
    first = cc

    is_same : same x.rr rr ≡ true
    is_same = subst (λ (y : Held). same y.rr rr ≡ true) (sym first) is

    gone : filter (is_other rr) (x ∷ held) ≡ held
    gone =
        ap (λ b. cond (not b) (x ∷ filter (is_other rr) held) (filter (is_other rr) held)) is_same
        ∙ none_same rr held
        (each-weaker (λ (y : Held). same y.rr rr ≡ false) (λ (y : Held). same x.rr y.rr ≡ false)
        (λ y apart. false_from_ne_true (same y.rr rr) (λ h. false≢true (sym apart ∙ same_through rr x.rr y.rr (same_turned x.rr rr is_same) (same_turned y.rr rr h)))) held once.0)
one_same rr (x ∷ held) (suc i) one new once there is =
    subst (λ (b : Bool). IsPermutation (cond (not b) (x ∷ filter (is_other rr) held) (filter (is_other rr) held) ++ new ∷ []) (x ∷ set held i new)) (sym other)
    (IsPermutation-cons x _ _ (one_same rr held i one new once.1 there is))
  where
    apart : (hs : List Held) (n : ℕ) → slice_get hs n ≡ Some one → AllByRecursion (λ (y : Held). same x.rr y.rr ≡ false) hs → same x.rr one.rr ≡ false
    apart [] n q d = absurd (cc)
    apart (y ∷ hs) zero q d = let e : y ≡ one = cc in subst (λ (z : Held). same x.rr z.rr ≡ false) e d.0
    apart (y ∷ hs) (suc n) q d = apart hs n q d.1

    other : same x.rr rr ≡ false
    other = false_from_ne_true (same x.rr rr) (λ h. false≢true (sym (apart held i there once.0) ∙ same_through rr x.rr one.rr (same_turned x.rr rr h) (same_turned one.rr rr is)))
