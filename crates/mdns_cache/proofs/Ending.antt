-- The first record that has ended, found from the front.
use Rattle.std.proofs.Common.{◌≡◌, ℕ, ◌+◌, ◌<◌, ◌≤◌, ◌&&◌, Bool, true, false, cond, List, [], ◌∷◌, ◌++◌, Option, Some, None, MatchOption, IsPermutation, remove, length, get_or, take, nat_le, refl, sym, ap, subst, ◌∙◌, arith, Ordering, Less, Equal, Greater}
use Rattle.std.specs.List.{HoldsAt}
use Rattle.std.specs.Option.{ForSome}
use Rattle.std.specs.Ordering.{is_le, is_lt, is_gt, ordering_reverse}
use Rattle.std.specs.Cmp.{IsTotalOrder}
use Rattle.std.proofs.lemmas.Bool.{false≢true, leb-true, leb-false}
use Rattle.std.proofs.lemmas.Cmp.{on_total, then_total, nat_cmp_total, tied_itself, upto}
use Rattle.std.proofs.lemmas.List.{take_more, get_or_default}
use Rattle.std.proofs.lemmas.List.Sorted.{IsPermutation-remove}
use Rattle.dns_record.proofs.Same.{record_cmp_total}
use Rattle.mdns_history.specs.declared.held.Held.{Held}
use Rattle.mdns_cache.specs.Lifetimes.{AllLive, IsFirstEnded, comes_first, ending_cmp}
use Rattle.mdns_cache.proofs.ListLemmas.{each-append, each-weaker}

ending_cmp-total : IsTotalOrder ending_cmp
unfolding Rattle.dns_record.specs.Records.record_cmp
ending_cmp-total = then_total (on_total (λ (one : Held). one.end) nat_cmp_total) (on_total (λ (one : Held). one.rr) record_cmp_total)

-- tests of an order

not_gt : (o : Ordering) → is_le o ≡ true → is_gt o ≡ false
not_gt Less h = refl
not_gt Equal h = refl
not_gt Greater h = absurd (false≢true h)

le_not_gt : (o : Ordering) → is_gt o ≡ false → is_le o ≡ true
le_not_gt Less h = refl
le_not_gt Equal h = refl
le_not_gt Greater h = absurd (false≢true (sym h))

le_lt : (o : Ordering) → is_lt o ≡ true → is_le o ≡ true
le_lt Less h = refl
le_lt Equal h = refl
le_lt Greater h = absurd (false≢true h)

le_turned : (o : Ordering) → is_lt o ≡ false → is_le (ordering_reverse o) ≡ true
le_turned Less h = absurd (false≢true (sym h))
le_turned Equal h = refl
le_turned Greater h = refl

le_itself : (one : Held) → is_le (ending_cmp one one) ≡ true
le_itself one = ap is_le (tied_itself ending_cmp-total one)

le_through : (a b c : Held) → is_le (ending_cmp a b) ≡ true → is_le (ending_cmp b c) ≡ true → is_le (ending_cmp a c) ≡ true
le_through a b c h k = le_not_gt (ending_cmp a c) (upto ending_cmp-total a b c (not_gt _ h) (not_gt _ k))

le_back : (a b : Held) → is_lt (ending_cmp a b) ≡ false → is_le (ending_cmp b a) ≡ true
le_back a b h = ap is_le (ending_cmp-total.antisymm b a) ∙ le_turned (ending_cmp a b) h

-- among those seen so far: none has ended, or the first that has stands at a place
abbrev pub IsFoundIn : ℕ → List Held → List Held → Option ℕ → Type 0
IsFoundIn moment held seen None = AllLive moment seen
IsFoundIn moment held seen (Some place) = (place < length held) × ((d : Held) → IsFirstEnded moment seen (get_or held place d))

first_stays : (moment : ℕ) (seen : List Held) (one new : Held) → IsFirstEnded moment seen one → (new.end ≤ moment → is_le (ending_cmp one new) ≡ true) → IsFirstEnded moment (seen ++ new ∷ []) one
first_stays moment seen one new h k = record { ended = h.ended; first = each-append _ seen (new ∷ []) h.first (k, tt) }

first_before : (moment : ℕ) (seen : List Held) (one new : Held) → IsFirstEnded moment seen one → new.end ≤ moment → is_lt (ending_cmp new one) ≡ true → IsFirstEnded moment (seen ++ new ∷ []) new
first_before moment seen one new h ended less = record {
  ended = ended;
  first = each-append _ seen (new ∷ []) (each-weaker _ _ (λ other first e. le_through new one other (le_lt _ less) (first e)) seen h.first) ((λ e. le_itself new), tt);
}

first_alone : (moment : ℕ) (seen : List Held) (new : Held) → AllLive moment seen → new.end ≤ moment → IsFirstEnded moment (seen ++ new ∷ []) new
first_alone moment seen new live ended = record {
  ended = ended;
  first = each-append _ seen (new ∷ []) (each-weaker _ (λ (other : Held). moment < other.end) (λ other lives e. absurd (omega arith)) seen live) ((λ e. le_itself new), tt);
}

found_at : (moment : ℕ) (held seen : List Held) (one : Held) (found : Option ℕ) → IsFoundIn moment held seen found → (i : ℕ) → i < length held → ((d : Held) → get_or held i d ≡ one) →
    (b : Bool) → comes_first moment held one found ≡ b → IsFoundIn moment held (seen ++ one ∷ []) (cond b (Some i) found)
found_at moment held seen one None h i within is true e =
    (within, λ d. subst (λ x. IsFirstEnded moment (seen ++ one ∷ []) x) (sym (is d)) (first_alone moment seen one h (leb-true one.end moment e)))
found_at moment held seen one None h i within is false e = each-append _ seen (one ∷ []) h (leb-false one.end moment e, tt)
found_at moment held seen one (Some place) h i within is b e = of b (nat_le one.end moment) refl (is_lt (ending_cmp one (get_or held place one))) refl e
  where
    best : Held
    best = get_or held place one

    of : (b c : Bool) → nat_le one.end moment ≡ c → (less : Bool) → is_lt (ending_cmp one best) ≡ less → (c && less) ≡ b → IsFoundIn moment held (seen ++ one ∷ []) (cond b (Some i) (Some place))
    of true true ended true less f =
        (within, λ d. subst (λ x. IsFirstEnded moment (seen ++ one ∷ []) x) (sym (is d)) (first_before moment seen best one (h.1 one) (leb-true one.end moment ended) less))
    of true true ended false less f = absurd (false≢true f)
    of true false ended less k f = absurd (false≢true f)
    of false true ended true less f = absurd (false≢true (sym f))
    of false true ended false less f =
        (h.0, λ d. subst (λ x. IsFirstEnded moment (seen ++ one ∷ []) x) (get_or_default held place one d h.0) (first_stays moment seen best one (h.1 one) (λ k. le_back one best less)))
    of false false ended less k f = (
      h.0,
      λ d. subst (λ x. IsFirstEnded moment (seen ++ one ∷ []) x) (get_or_default held place one d h.0)
          (first_stays moment seen best one (h.1 one) (λ k. let lives : moment < one.end = leb-false one.end moment ended in absurd (omega arith))),
    )

-- a loop's step
pub found_more : (moment : ℕ) (held : List Held) (i : ℕ) (one : Held) (found : Option ℕ) → i < length held → one ≡ get_or held i one → IsFoundIn moment held (take i held) found →
    IsFoundIn moment held (take (i + 1) held) (cond (comes_first moment held one found) (Some i) found)
found_more moment held i one found within is h =
    let at : (d : Held) → get_or held i d ≡ one = λ d. get_or_default held i d one within ∙ sym is in
    subst (λ seen. IsFoundIn moment held seen (cond (comes_first moment held one found) (Some i) found)) (ap (λ x. take i held ++ x ∷ []) is ∙ sym (take_more held i one within))
    (found_at moment held (take i held) one found h i within at (comes_first moment held one found) refl)

pub found_within : (moment : ℕ) (held seen : List Held) (found : Option ℕ) → IsFoundIn moment held seen found → ForSome found (λ place. place < length held)
found_within moment held seen None h = λ place e. absurd (cc)
found_within moment held seen (Some n) h = λ place e. let same : n ≡ place = cc in subst (λ k. k < length held) same h.0

pub found_all : (moment : ℕ) (held : List Held) (found : Option ℕ) → IsFoundIn moment held held found →
    MatchOption found (AllLive moment held) (λ place. (place < length held) × HoldsAt (IsFirstEnded moment held) held place)
found_all moment held None h = h
found_all moment held (Some place) h = h

-- what taking out the record at a place leaves
pub record IsTaken (moment : ℕ) (held : List Held) (one : Held) (rest : List Held) : Type 0 where
  pub ended : IsFirstEnded moment held one
  pub moved : IsPermutation held (one ∷ rest)

pub taken_out : (moment : ℕ) (held : List Held) (place : ℕ) (one : Held) (rest : List Held) → place < length held → HoldsAt (IsFirstEnded moment held) held place →
    one ≡ get_or held place one → rest ≡ remove held place → IsTaken moment held one rest
taken_out moment held place one rest within first is left = record {
  ended = subst (IsFirstEnded moment held) (sym is) (first one);
  moved = subst (λ l. IsPermutation held (one ∷ l)) (sym left) (IsPermutation-remove held place one within is);
}
