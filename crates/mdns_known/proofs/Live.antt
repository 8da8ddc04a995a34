-- The known answers over held records, in whatever order they stand.
use Rattle.std.proofs.Common.{◌≡◌, ℕ, ◌<◌, Bool, true, false, cond, not, ◌&&◌, ◌||◌, List, [], ◌∷◌, ◌++◌, length, take, get_or, refl, ap, ◌∙◌, sym, append_assoc, Some, None, ◌+◌}
use Rattle.std.specs.Prelude.{map, filter, nat_lt}
use Rattle.std.specs.Option.{option_to_list}
use Rattle.std.specs.List.{All, list_any}
use Rattle.std.specs.List.Sorted.{IsPermutation}
use Rattle.std.specs.Ordering.{is_eq}
use Rattle.std.proofs.lemmas.List.{take_more, map-append}
use Rattle.std.proofs.lemmas.List.Elements.{All-head, All-tail, filter-append, filter_passes}
use Rattle.std.proofs.lemmas.List.Sorted.{IsPermutation-sym}
use Rattle.std.proofs.lemmas.Bool.{and_from, and_parts, not-true, or_from, or_parts}
use Rattle.lists.specs.Lists.{insert_by, sorted_by, each_once}
use Rattle.dns_record.specs.declared.record.Rr.{Rr}
use Rattle.dns_record.specs.declared.record.Key.{Key}
use Rattle.dns_record.specs.Records.{matches, same, record_cmp}
use Rattle.dns_record.proofs.Same.{record_cmp_total}
use Rattle.mdns_history.specs.declared.held.Held.{Held}
use Rattle.mdns_history.specs.declared.entry.Entry.{Entry}
use Rattle.mdns_history.specs.Hearings.{Hearing, hearings}
use Rattle.mdns_history.specs.Lifetimes.{is_uncut, is_live_at, held_from, renewals, live_of, live_records}
use Rattle.mdns_history.specs.Asking.{is_half_fresh, listed, fits_alone, fresh_matches, known_answers}
use Rattle.mdns_known.specs.Known.{is_listed, known_of, stand_once}
use Rattle.mdns_known.specs.Laws.{IsOfLiveRecords, IsOrderFree}
use Rattle.lists.proofs.Permutations.{along_permutation}
use Rattle.lists.proofs.InOrder.{none-filter, tied-turned}
use Rattle.lists.proofs.PutBehind.{insert-swapped}
use Rattle.mdns_pack.proofs.Found.{same-tied}

-- ---- sameness and record order

same-turned : (x y : Rr) → same x y ≡ same y x
same-turned x y = same-tied x y ∙ tied-turned record_cmp record_cmp_total x y ∙ sym (same-tied y x)

-- how records are listed doesn't count in record order
listed-cmp : (moment : ℕ) (x y : Held) → record_cmp (listed moment x) (listed moment y) ≡ record_cmp x.rr y.rr
unfolding record_cmp
listed-cmp moment x y = refl

-- ---- one more held record

abbrev placed : Key → ℕ → Held → List Rr → List Rr
placed question moment one rrs = cond (is_listed question moment one) (insert_by record_cmp (listed moment one) rrs) rrs

module _ (question : Key) (moment : ℕ) where
  -- a held record in front
  known_of-cons : (one : Held) (held : List Held) → known_of question (one ∷ held) moment ≡ placed question moment one (known_of question held moment)
  unfolding known_of
  known_of-cons one held = at (is_listed question moment one)
    where
      rest : List Held
      rest = filter (is_listed question moment) held

      at : (b : Bool) → sorted_by record_cmp (map (listed moment) (cond b (one ∷ rest) rest)) ≡ cond b (insert_by record_cmp (listed moment one) (sorted_by record_cmp (map (listed moment) rest))) (sorted_by record_cmp (map (listed moment) rest))
      at true = refl
      at false = refl

  placed-swapped : (x y : Held) (rrs : List Rr) → same x.rr y.rr ≡ false → placed question moment x (placed question moment y rrs) ≡ placed question moment y (placed question moment x rrs)
  placed-swapped x y rrs e = at (is_listed question moment x) (is_listed question moment y)
    where
      apart : is_eq (record_cmp (listed moment x) (listed moment y)) ≡ false
      apart = ap is_eq (listed-cmp moment x y) ∙ sym (same-tied x.rr y.rr) ∙ e

      insert : Held → List Rr → List Rr
      insert one l = insert_by record_cmp (listed moment one) l

      at : (b c : Bool) → cond b (insert x (cond c (insert y rrs) rrs)) (cond c (insert y rrs) rrs) ≡ cond c (insert y (cond b (insert x rrs) rrs)) (cond b (insert x rrs) rrs)
      at true true = insert-swapped record_cmp record_cmp_total (listed moment x) (listed moment y) rrs apart
      at true false = refl
      at false true = refl
      at false false = refl

  -- held records of another order have the same elements, stand once where these do, and then give the same
  abbrev IsAnOrder : List Held → List Held → Type 0
  IsAnOrder xs ys = ((t : Held → Bool) → list_any t xs ≡ list_any t ys) × (stand_once xs ≡ true → (stand_once ys ≡ true) × (known_of question xs moment ≡ known_of question ys moment))

  neither_parts : (a b : Bool) → not (a || b) ≡ true → (a ≡ false) × (not b ≡ true)
  neither_parts true b h = absurd (cc)
  neither_parts false b h = (refl, h)

  not_either : (a b : Bool) → a ≡ false → not b ≡ true → not (a || b) ≡ true
  not_either true b h k = absurd (cc)
  not_either false b h k = k

  order-skip : (x : Held) (xs ys : List Held) → IsAnOrder xs ys → IsAnOrder (x ∷ xs) (x ∷ ys)
  order-skip x xs ys h = (
    λ t. ap (λ (b : Bool). t x || b) (h.0 t),
    λ e. let p = and_parts (not (list_any (λ other. same x.rr other.rr) xs)) (stand_once xs) e in
        let rest = h.1 p.1 in (
          and_from (not (list_any (λ other. same x.rr other.rr) ys)) (stand_once ys) (sym (ap not (h.0 (λ other. same x.rr other.rr))) ∙ p.0) rest.0,
          known_of-cons x xs ∙ ap (placed question moment x) rest.1 ∙ sym (known_of-cons x ys),
        ),
  )

  order-turn : (x y : Held) (xs : List Held) → IsAnOrder (x ∷ y ∷ xs) (y ∷ x ∷ xs)
  order-turn x y xs = (λ t. turned (t x) (t y) (list_any t xs), given)
    where
      turned : (a b c : Bool) → (a || (b || c)) ≡ (b || (a || c))
      turned true true c = refl
      turned true false c = refl
      turned false b c = refl

      any_x : Bool
      any_x = list_any (λ other. same x.rr other.rr) xs

      any_y : Bool
      any_y = list_any (λ other. same y.rr other.rr) xs

      given : stand_once (x ∷ y ∷ xs) ≡ true → (stand_once (y ∷ x ∷ xs) ≡ true) × (known_of question (x ∷ y ∷ xs) moment ≡ known_of question (y ∷ x ∷ xs) moment)
      given e =
          let p = and_parts (not (same x.rr y.rr || any_x)) (not any_y && stand_once xs) e in
          let first = neither_parts (same x.rr y.rr) any_x p.0 in
          let q = and_parts (not any_y) (stand_once xs) p.1 in (
            and_from (not (same y.rr x.rr || any_y)) (not any_x && stand_once xs) (not_either (same y.rr x.rr) any_y (same-turned y.rr x.rr ∙ first.0) q.0) (and_from (not any_x) (stand_once xs) first.1 q.1),
            known_of-cons x (y ∷ xs) ∙ ap (placed question moment x) (known_of-cons y xs) ∙ placed-swapped x y (known_of question xs moment) first.0
                ∙ sym (ap (placed question moment y) (known_of-cons x xs)) ∙ sym (known_of-cons y (x ∷ xs)),
          )

  order-chain : (xs ys zs : List Held) → IsAnOrder xs ys → IsAnOrder ys zs → IsAnOrder xs zs
  order-chain xs ys zs h k = (λ t. h.0 t ∙ k.0 t, λ e. let first = h.1 e in let second = k.1 first.0 in (second.0, first.1 ∙ second.1))

  pub known_of-order : (one other : List Held) → stand_once one ≡ true → IsPermutation one other → known_of question one moment ≡ known_of question other moment
  known_of-order one other e moved =
      ((along_permutation IsAnOrder (λ xs. (λ t. refl, λ k. (k, refl))) order-skip order-turn order-chain one other moved).1 e).1

pub order_free : IsOrderFree
order_free question moment one other e moved = known_of-order question moment one other e moved

-- ---- live records stand once

once-filter : (p : Held → Bool) (held : List Held) → stand_once held ≡ true → stand_once (filter p held) ≡ true
once-filter p [] e = refl
once-filter p (one ∷ held) e = kept (p one) (once-filter p held (and_parts (not (list_any like held)) (stand_once held) e).1)
  where
    like : Held → Bool
    like other = same one.rr other.rr

    kept : (b : Bool) → stand_once (filter p held) ≡ true → stand_once (cond b (one ∷ filter p held) (filter p held)) ≡ true
    kept true ih =
        and_from (not (list_any like (filter p held))) (stand_once (filter p held))
        (ap not (none-filter like p held (not-true (list_any like held) (and_parts (not (list_any like held)) (stand_once held) e).0))) ih
    kept false ih = ih

-- the last renewals of records, each once, are held apart
module _ (heard : List Hearing) where
  abbrev repeats : Hearing → Hearing → Bool
  repeats later earlier = same earlier.rr later.rr

  held_apart : (x : Hearing) (ys : List Hearing) → list_any (λ other. same x.rr other.rr) (map (held_from heard) (filter (λ y. not (repeats x y)) ys)) ≡ false
  held_apart x [] = refl
  held_apart x (y ∷ ys) = kept (same y.rr x.rr) refl (held_apart x ys)
    where
      others : List Hearing
      others = filter (λ y. not (repeats x y)) ys

      kept : (b : Bool) → same y.rr x.rr ≡ b → list_any (λ (other : Held). same x.rr other.rr) (map (held_from heard) others) ≡ false →
          list_any (λ (other : Held). same x.rr other.rr) (map (held_from heard) (cond (not b) (y ∷ others) others)) ≡ false
      kept true e ih = ih
      kept false e ih = or_from (same x.rr y.rr) (list_any (λ (other : Held). same x.rr other.rr) (map (held_from heard) others)) (same-turned x.rr y.rr ∙ e) ih

  any-map-filter : (t : Held → Bool) (p : Hearing → Bool) (ys : List Hearing) → list_any t (map (held_from heard) ys) ≡ false → list_any t (map (held_from heard) (filter p ys)) ≡ false
  any-map-filter t p [] e = refl
  any-map-filter t p (y ∷ ys) e = kept (p y) (any-map-filter t p ys (or_parts (t (held_from heard y)) (list_any t (map (held_from heard) ys)) e).1)
    where
      kept : (b : Bool) → list_any t (map (held_from heard) (filter p ys)) ≡ false → list_any t (map (held_from heard) (cond b (y ∷ filter p ys) (filter p ys))) ≡ false
      kept true ih = or_from (t (held_from heard y)) (list_any t (map (held_from heard) (filter p ys))) (or_parts (t (held_from heard y)) (list_any t (map (held_from heard) ys)) e).0 ih
      kept false ih = ih

  once-map-filter : (p : Hearing → Bool) (ys : List Hearing) → stand_once (map (held_from heard) ys) ≡ true → stand_once (map (held_from heard) (filter p ys)) ≡ true
  once-map-filter p [] e = refl
  once-map-filter p (y ∷ ys) e = kept (p y) (once-map-filter p ys parts.1)
    where
      like : Held → Bool
      like other = same y.rr other.rr

      parts : (not (list_any like (map (held_from heard) ys)) ≡ true) × (stand_once (map (held_from heard) ys) ≡ true)
      parts = and_parts (not (list_any like (map (held_from heard) ys))) (stand_once (map (held_from heard) ys)) e

      kept : (b : Bool) → stand_once (map (held_from heard) (filter p ys)) ≡ true → stand_once (map (held_from heard) (cond b (y ∷ filter p ys) (filter p ys))) ≡ true
      kept true ih =
          and_from (not (list_any like (map (held_from heard) (filter p ys)))) (stand_once (map (held_from heard) (filter p ys)))
          (ap not (any-map-filter like p ys (not-true (list_any like (map (held_from heard) ys)) parts.0))) ih
      kept false ih = ih

  once-renewals : (ys : List Hearing) → stand_once (map (held_from heard) (each_once repeats ys)) ≡ true
  once-renewals [] = refl
  once-renewals (y ∷ ys) =
      and_from (not (list_any (λ (other : Held). same y.rr other.rr) (map (held_from heard) others))) (stand_once (map (held_from heard) others))
      (ap not (held_apart y (each_once repeats ys))) (once-map-filter (λ z. not (repeats y z)) (each_once repeats ys) (once-renewals ys))
    where
      others : List Hearing
      others = filter (λ z. not (repeats y z)) (each_once repeats ys)

live_once : (heard : List Hearing) (moment : ℕ) → stand_once (live_of heard moment) ≡ true
unfolding live_of
live_once heard moment =
    once-filter (is_live_at moment) (map (held_from heard) (renewals heard)) (once-renewals heard (filter (λ hearing. nat_lt 0 hearing.rr.ttl) heard))

-- a record is live at a moment
abbrev IsAlive : ℕ → Held → Type 0
IsAlive moment one = is_live_at moment one ≡ true

-- the tests of the definition over a history, one after another, are one test of what is live
one_test : (question : Key) (moment : ℕ) (held : List Held) → All (IsAlive moment) held →
    map (listed moment) (filter (is_listed question moment) held)
    ≡ filter fits_alone (map (listed moment) (filter (is_half_fresh moment) (filter (λ one. matches question one.rr && is_uncut one) held)))
one_test question moment [] live = refl
one_test question moment (one ∷ held) live = at (matches question one.rr) (is_live_at moment one) (is_uncut one) (All-head (IsAlive moment) one held live) (one_test question moment held (All-tail (IsAlive moment) one held live))
  where
    asked : List Held
    asked = filter (λ one. matches question one.rr && is_uncut one) held

    fresh : List Held
    fresh = filter (is_half_fresh moment) asked

    rest : List Held
    rest = filter (is_listed question moment) held

    fitting : (c d : Bool) → map (listed moment) rest ≡ filter fits_alone (map (listed moment) fresh) → d ≡ fits_alone (listed moment one) →
        map (listed moment) (cond (c && d) (one ∷ rest) rest) ≡ filter fits_alone (map (listed moment) (cond c (one ∷ fresh) fresh))
    fitting true true ih e = ap (λ (l : List Rr). listed moment one ∷ l) ih ∙ ap (λ (b : Bool). cond b (listed moment one ∷ filter fits_alone (map (listed moment) fresh)) (filter fits_alone (map (listed moment) fresh))) e
    fitting true false ih e = ih ∙ ap (λ (b : Bool). cond b (listed moment one ∷ filter fits_alone (map (listed moment) fresh)) (filter fits_alone (map (listed moment) fresh))) e
    fitting false d ih e = ih

    at : (b l c : Bool) → l ≡ true → map (listed moment) rest ≡ filter fits_alone (map (listed moment) fresh) →
        map (listed moment) (cond ((((b && l) && c) && is_half_fresh moment one) && fits_alone (listed moment one)) (one ∷ rest) rest)
        ≡ filter fits_alone (map (listed moment) (filter (is_half_fresh moment) (cond (b && c) (one ∷ asked) asked)))
    at true true true live ih = fitting (is_half_fresh moment one) (fits_alone (listed moment one)) ih refl
    at true true false live ih = ih
    at true false c live ih = absurd (cc)
    at false l c live ih = ih

live_records-live : (history : List Entry) (moment : ℕ) → All (IsAlive moment) (live_records history moment)
unfolding live_records live_of
live_records-live history moment = filter_passes (is_live_at moment) (map (held_from (hearings history)) (renewals (hearings history)))

known_of-live : (question : Key) (history : List Entry) (moment : ℕ) → known_of question (live_records history moment) moment ≡ known_answers question history moment
unfolding known_of known_answers fresh_matches
known_of-live question history moment = ap (sorted_by record_cmp) (one_test question moment (live_records history moment) (live_records-live history moment))

live_records-once : (history : List Entry) (moment : ℕ) → stand_once (live_records history moment) ≡ true
unfolding live_records
live_records-once history moment = live_once (hearings history) moment

pub of_live_records : IsOfLiveRecords
of_live_records question history moment held moved =
    sym (known_of-order question moment (live_records history moment) held (live_records-once history moment) (IsPermutation-sym held (live_records history moment) moved)) ∙ known_of-live question history moment

-- ---- one more held record behind the others

-- how so many of the held records are listed, those that are
abbrev pub listed_up_to : Key → List Held → ℕ → ℕ → List Rr
listed_up_to question held moment n = map (listed moment) (filter (is_listed question moment) (take n held))

listed-push : (question : Key) (moment : ℕ) (before : List Held) (one : Held) →
    map (listed moment) (filter (is_listed question moment) (before ++ one ∷ []))
    ≡ map (listed moment) (filter (is_listed question moment) before) ++ cond (is_listed question moment one) (listed moment one ∷ []) []
listed-push question moment before one =
    ap (map (listed moment)) (filter-append (is_listed question moment) before (one ∷ []))
    ∙ map-append (listed moment) (filter (is_listed question moment) before) (filter (is_listed question moment) (one ∷ []))
    ∙ ap (λ (l : List Rr). map (listed moment) (filter (is_listed question moment) before) ++ l) (at (is_listed question moment one))
  where
    at : (b : Bool) → map (listed moment) (cond b (one ∷ []) []) ≡ cond b (listed moment one ∷ []) []
    at true = refl
    at false = refl

listed-more : (question : Key) (held : List Held) (moment n : ℕ) (one : Held) → n < length held → one ≡ get_or held n one →
    listed_up_to question held moment (n + 1) ≡ listed_up_to question held moment n ++ cond (is_listed question moment one) (listed moment one ∷ []) []
listed-more question held moment n one within is =
    ap (λ (l : List Held). map (listed moment) (filter (is_listed question moment) l)) (take_more held n one within ∙ sym (ap (λ (x : Held). take n held ++ x ∷ []) is))
    ∙ listed-push question moment (take n held) one

pub listed_more-put : (question : Key) (held : List Held) (moment n : ℕ) (one : Held) (front before after : List Rr) → n < length held → one ≡ get_or held n one →
    before ≡ front ++ listed_up_to question held moment n → after ≡ before ++ option_to_list (cond (is_listed question moment one) (Some (listed moment one)) None) → after ≡ front ++ listed_up_to question held moment (n + 1)
listed_more-put question held moment n one front before after within is so_far put =
    put ∙ (λ i. so_far i ++ of (is_listed question moment one) i)
    ∙ append_assoc front (listed_up_to question held moment n) (cond (is_listed question moment one) (listed moment one ∷ []) [])
    ∙ ap (λ (l : List Rr). front ++ l) (sym (listed-more question held moment n one within is))
  where
    of : (b : Bool) → option_to_list (cond b (Some (listed moment one)) None) ≡ cond b (listed moment one ∷ []) []
    of true = refl
    of false = refl
