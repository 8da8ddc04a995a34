-- A flush that a later record of the same packet repeats may be put off: what is held behind the packet is the same.
use Rattle.std.proofs.Common.{◌≡◌, ℕ, ◌+◌, eqb, nat_lt, min, Bool, true, false, cond, not, ◌&&◌, ◌||◌, List, [], ◌∷◌, ◌++◌, map, filter, reverse, refl, sym, ap, subst, ◌∙◌, arith, true≢false, IsPermutation}
use Rattle.std.proofs.lemmas.Bool.{and_parts, and_from, and_right, or_right, eqb-true, eq-eqb, le-ltb}
use Rattle.std.proofs.lemmas.List.{map-append, reverse-append}
use Rattle.std.proofs.lemmas.List.Sorted.{IsPermutation-reverse, list_any-IsPermutation}
use Rattle.dns_name.specs.Names.{folded_eq}
use Rattle.dns_name.proofs.Folding.{folded_eq-tells}
use Rattle.dns_record.specs.declared.record.Rr.{Rr}
use Rattle.dns_record.specs.Records.{same, kind_of}
use Rattle.mdns_history.specs.declared.held.Held.{Held}
use Rattle.mdns_history.specs.Hearings.{Hearing}
use Rattle.mdns_history.specs.Lifetimes.{is_other, cuts, flushes, takes_back}
use Rattle.mdns_cache.specs.Lifetimes.{hearing_at, renewed, shortened, after_hearing, after_hearings}
use Rattle.mdns_cache.specs.Flushed.{is_flushed_by, without_flush, put_off, after_put_off}
use Rattle.mdns_cache.proofs.AfterHearings.{after_hearings-permuted}

same_still : (one rr : Rr) → same one (without_flush rr) ≡ same one rr
unfolding same
same_still one rr = refl

least_twice : (m e : ℕ) → min m (min m e) ≡ min m e
least_twice m e = omega arith

through : (a b c : List (List ℕ)) → folded_eq a b ≡ true → folded_eq b c ≡ true → folded_eq a c ≡ true
through a b c h k = (folded_eq-tells a c).1 ((folded_eq-tells a b).0 h ∙ (folded_eq-tells b c).0 k)

module _ (moment word : ℕ) (rr : Rr) where
  abbrev whole : Hearing
  whole = hearing_at moment word rr

  abbrev quiet : Hearing
  quiet = hearing_at moment word (without_flush rr)

  -- the flush cuts the life of a record
  abbrev is_flushed : Held → Bool
  is_flushed one = flushes one.rr whole && nat_lt (one.heard + 1000) moment

  abbrev with_end : Held → ℕ → Held
  with_end one end = record { rr = one.rr; heard = one.heard; word = one.word; end = end }

  -- what the flush alone leaves of a record
  abbrev flushed : Held → Held
  flushed one = with_end one (cond (is_flushed one) (min (moment + 1000) one.end) one.end)

  -- ---- a hearing is what it is without its flush, and then its flush

  apart : (one : Held) → shortened whole one ≡ flushed (shortened quiet one)
  apart one = ap (with_end one) (at (takes_back one.rr whole) (is_flushed one) ∙ ap (λ (t : Bool). cond (is_flushed one) (min m (cond (t || false) (min m one.end) one.end)) (cond (t || false) (min m one.end) one.end)) (sym back))
    where
      m : ℕ
      m = moment + 1000

      back : takes_back one.rr quiet ≡ takes_back one.rr whole
      back = ap (λ (b : Bool). b && eqb rr.ttl 0) (same_still one.rr rr)

      at : (t b : Bool) → cond (t || b) (min m one.end) one.end ≡ cond b (min m (cond (t || false) (min m one.end) one.end)) (cond (t || false) (min m one.end) one.end)
      at true true = sym (least_twice m one.end)
      at true false = refl
      at false true = refl
      at false false = refl

  all_apart : (held : List Held) → map (shortened whole) held ≡ map flushed (map (shortened quiet) held)
  all_apart [] = refl
  all_apart (one ∷ held) = λ i. apart one i ∷ all_apart held i

  -- a record that is renewed at the moment isn't flushed
  fresh : (x : Rr) → flushed (renewed (hearing_at moment word x)) ≡ renewed (hearing_at moment word x)
  fresh x =
      ap (λ (b : Bool). with_end one (cond b (min (moment + 1000) one.end) one.end))
      (and_right (flushes x whole) (nat_lt (moment + 1000) moment) (le-ltb (moment + 1000) moment (omega arith)))
    where
      one : Held
      one = renewed (hearing_at moment word x)

  -- ---- the flush goes past a hearing of the same moment

  past : (x : Rr) (one : Held) → shortened (hearing_at moment word x) (flushed one) ≡ flushed (shortened (hearing_at moment word x) one)
  past x one = ap (with_end one) (at (cuts one.rr one.heard (hearing_at moment word x)) (is_flushed one))
    where
      m : ℕ
      m = moment + 1000

      at : (a b : Bool) → cond a (min m (cond b (min m one.end) one.end)) (cond b (min m one.end) one.end) ≡ cond b (min m (cond a (min m one.end) one.end)) (cond a (min m one.end) one.end)
      at true true = refl
      at true false = refl
      at false true = refl
      at false false = refl

  all_past : (x : Rr) (held : List Held) → map (shortened (hearing_at moment word x)) (map flushed held) ≡ map flushed (map (shortened (hearing_at moment word x)) held)
  all_past x [] = refl
  all_past x (one ∷ held) = λ i. past x one i ∷ all_past x held i

  others : (x : Rr) (held : List Held) → filter (is_other x) (map flushed held) ≡ map flushed (filter (is_other x) held)
  others x [] = refl
  others x (one ∷ held) = of (is_other x one) (others x held)
    where
      of : (b : Bool) → filter (is_other x) (map flushed held) ≡ map flushed (filter (is_other x) held) →
          cond b (flushed one ∷ filter (is_other x) (map flushed held)) (filter (is_other x) (map flushed held)) ≡ map flushed (cond b (one ∷ filter (is_other x) held) (filter (is_other x) held))
      of true ih = ap (λ (l : List Held). flushed one ∷ l) ih
      of false ih = ih

  -- one more record behind those that are flushed
  with_fresh : (x : Rr) (held : List Held) → map flushed held ++ renewed (hearing_at moment word x) ∷ [] ≡ map flushed (held ++ renewed (hearing_at moment word x) ∷ [])
  with_fresh x held =
      ap (λ (one : Held). map flushed held ++ one ∷ []) (sym (fresh x)) ∙ sym (map-append flushed held (renewed (hearing_at moment word x) ∷ []))

  goes_past : (x : Rr) (held : List Held) → after_hearing (map flushed held) (hearing_at moment word x) ≡ map flushed (after_hearing held (hearing_at moment word x))
  goes_past x held = of (nat_lt 0 x.ttl)
    where
      g : Hearing
      g = hearing_at moment word x

      of : (b : Bool) → cond b (map (shortened g) (filter (is_other x) (map flushed held)) ++ renewed g ∷ []) (map (shortened g) (map flushed held))
          ≡ map flushed (cond b (map (shortened g) (filter (is_other x) held) ++ renewed g ∷ []) (map (shortened g) held))
      of true =
          ap (λ (l : List Held). l ++ renewed g ∷ []) (ap (map (shortened g)) (others x held) ∙ all_past x (filter (is_other x) held))
          ∙ with_fresh x (map (shortened g) (filter (is_other x) held))
      of false = all_past x held

  -- ---- a hearing that flushes the same does it, too

  module _ (x : Rr) (flush : x.flush ≡ true) (owner : folded_eq rr.owner x.owner ≡ true) (kind : eqb (kind_of rr.rdata) (kind_of x.rdata) ≡ true) where
    so : (one : Held) → is_flushed one ≡ true → cuts one.rr one.heard (hearing_at moment word x) ≡ true
    so one e =
        let whole_parts = and_parts (flushes one.rr whole) (nat_lt (one.heard + 1000) moment) e in
        let kinds = and_parts (rr.flush && folded_eq one.rr.owner rr.owner) (eqb (kind_of one.rr.rdata) (kind_of rr.rdata)) whole_parts.0 in
        let owners = and_parts rr.flush (folded_eq one.rr.owner rr.owner) kinds.0 in
        or_right (takes_back one.rr (hearing_at moment word x)) (flushes one.rr (hearing_at moment word x) && nat_lt (one.heard + 1000) moment)
        (and_from (flushes one.rr (hearing_at moment word x)) (nat_lt (one.heard + 1000) moment)
        (and_from (x.flush && folded_eq one.rr.owner x.owner) (eqb (kind_of one.rr.rdata) (kind_of x.rdata))
        (and_from x.flush (folded_eq one.rr.owner x.owner) flush (through one.rr.owner rr.owner x.owner owners.1 owner))
        (eq-eqb (kind_of one.rr.rdata) (kind_of x.rdata) (eqb-true (kind_of one.rr.rdata) (kind_of rr.rdata) kinds.1 ∙ eqb-true (kind_of rr.rdata) (kind_of x.rdata) kind)))
        whole_parts.1)

    taken : (one : Held) → shortened (hearing_at moment word x) (flushed one) ≡ shortened (hearing_at moment word x) one
    taken one = ap (with_end one) (at (cuts one.rr one.heard (hearing_at moment word x)) (is_flushed one) (so one))
      where
        m : ℕ
        m = moment + 1000

        at : (a b : Bool) → (b ≡ true → a ≡ true) → cond a (min m (cond b (min m one.end) one.end)) (cond b (min m one.end) one.end) ≡ cond a (min m one.end) one.end
        at true true h = least_twice m one.end
        at true false h = refl
        at false true h = absurd (true≢false (sym (h refl)))
        at false false h = refl

    all_taken : (held : List Held) → map (shortened (hearing_at moment word x)) (map flushed held) ≡ map (shortened (hearing_at moment word x)) held
    all_taken [] = refl
    all_taken (one ∷ held) = λ i. taken one i ∷ all_taken held i

    does_it : (held : List Held) → after_hearing (map flushed held) (hearing_at moment word x) ≡ after_hearing held (hearing_at moment word x)
    does_it held = of (nat_lt 0 x.ttl)
      where
        g : Hearing
        g = hearing_at moment word x

        of : (b : Bool) → cond b (map (shortened g) (filter (is_other x) (map flushed held)) ++ renewed g ∷ []) (map (shortened g) (map flushed held))
            ≡ cond b (map (shortened g) (filter (is_other x) held) ++ renewed g ∷ []) (map (shortened g) held)
        of true = ap (λ (l : List Held). l ++ renewed g ∷ []) (ap (map (shortened g)) (others x held) ∙ all_taken (filter (is_other x) held))
        of false = all_taken held

  later_does_it : (later : List Rr) (held : List Held) → is_flushed_by rr later ≡ true → after_hearings (map flushed held) (map (hearing_at moment word) later) ≡ after_hearings held (map (hearing_at moment word) later)
  later_does_it [] held h = absurd (true≢false (sym h))
  later_does_it (x ∷ later) held h = at (x.flush && eqb (kind_of rr.rdata) (kind_of x.rdata) && folded_eq rr.owner x.owner) refl h (λ k. later_does_it later (after_hearing held (hearing_at moment word x)) k)
    where
      at : (b : Bool) → (x.flush && eqb (kind_of rr.rdata) (kind_of x.rdata) && folded_eq rr.owner x.owner) ≡ b → (b || is_flushed_by rr later) ≡ true →
          (is_flushed_by rr later ≡ true → after_hearings (map flushed (after_hearing held (hearing_at moment word x))) (map (hearing_at moment word) later) ≡ after_hearings (after_hearing held (hearing_at moment word x)) (map (hearing_at moment word) later)) →
          after_hearings (after_hearing (map flushed held) (hearing_at moment word x)) (map (hearing_at moment word) later) ≡ after_hearings (after_hearing held (hearing_at moment word x)) (map (hearing_at moment word) later)
      at true e k ih =
          let owners = and_parts (x.flush && eqb (kind_of rr.rdata) (kind_of x.rdata)) (folded_eq rr.owner x.owner) e in
          let kinds = and_parts x.flush (eqb (kind_of rr.rdata) (kind_of x.rdata)) owners.0 in
          ap (λ (l : List Held). after_hearings l (map (hearing_at moment word) later)) (does_it x kinds.0 owners.1 kinds.1 held)
      at false e k ih = ap (λ (l : List Held). after_hearings l (map (hearing_at moment word) later)) (goes_past x held) ∙ ih k

  -- ---- the flush is put off

  after_quiet : List Held → List Held
  after_quiet held = cond (nat_lt 0 rr.ttl) (map (shortened quiet) (filter (is_other rr) held) ++ renewed whole ∷ []) (map (shortened quiet) held)

  then_flushed : (held : List Held) → after_hearing held whole ≡ map flushed (after_quiet held)
  unfolding after_quiet
  then_flushed held = of (nat_lt 0 rr.ttl)
    where
      of : (b : Bool) → cond b (map (shortened whole) (filter (is_other rr) held) ++ renewed whole ∷ []) (map (shortened whole) held)
          ≡ map flushed (cond b (map (shortened quiet) (filter (is_other rr) held) ++ renewed whole ∷ []) (map (shortened quiet) held))
      of true = ap (λ (l : List Held). l ++ renewed whole ∷ []) (all_apart (filter (is_other rr) held)) ∙ with_fresh rr (map (shortened quiet) (filter (is_other rr) held))
      of false = all_apart held

  -- without the flush bit nothing is put off
  quiet_is : rr.flush ≡ false → rr ≡ without_flush rr
  quiet_is e = λ i. record { owner = rr.owner; flush = e i; ttl = rr.ttl; rdata = rr.rdata }

  -- what is held behind the packet is the same
  pub put_off_is : (later : List Rr) (held : List Held) →
      after_hearings (after_hearing held whole) (map (hearing_at moment word) later) ≡ after_hearings (after_put_off later held whole) (map (hearing_at moment word) later)
  unfolding after_quiet
  put_off_is later held = at rr.flush refl (is_flushed_by rr later) refl
    where
      after_cut : Rr → List Held
      after_cut x =
          cond (nat_lt 0 rr.ttl) (map (shortened (hearing_at moment word x)) (filter (is_other rr) held) ++ renewed whole ∷ []) (map (shortened (hearing_at moment word x)) held)

      behind : List Held → List Held
      behind l = after_hearings l (map (hearing_at moment word) later)

      at : (f : Bool) → rr.flush ≡ f → (b : Bool) → is_flushed_by rr later ≡ b → behind (after_hearing held whole) ≡ behind (after_cut (cond (f && not b) rr (without_flush rr)))
      at true e true k = ap behind (then_flushed held) ∙ later_does_it later (after_quiet held) k
      at true e false k = refl
      at false e b k = ap (λ (x : Rr). behind (after_cut x)) (quiet_is e)

-- ---- the steps of the code

filter_cut : (rr : Rr) (cut : Hearing) (held : List Held) → filter (is_other rr) (map (shortened cut) held) ≡ map (shortened cut) (filter (is_other rr) held)
filter_cut rr cut [] = refl
filter_cut rr cut (one ∷ held) = of (is_other rr one) (filter_cut rr cut held)
  where
    of : (b : Bool) → filter (is_other rr) (map (shortened cut) held) ≡ map (shortened cut) (filter (is_other rr) held) →
        cond b (shortened cut one ∷ filter (is_other rr) (map (shortened cut) held)) (filter (is_other rr) (map (shortened cut) held)) ≡ map (shortened cut) (cond b (one ∷ filter (is_other rr) held) (filter (is_other rr) held))
    of true ih = ap (λ (l : List Held). shortened cut one ∷ l) ih
    of false ih = ih

-- what a hearing cuts
abbrev pub cutting : List Rr → Hearing → Hearing
cutting later hearing = hearing_at hearing.moment hearing.word (put_off later hearing.rr)

pub put_off_renewed : (later : List Rr) (hearing : Hearing) (held after : List Held) → nat_lt 0 hearing.rr.ttl ≡ true
    → IsPermutation (filter (is_other hearing.rr) (map (shortened (cutting later hearing)) held) ++ renewed hearing ∷ []) after → IsPermutation (after_put_off later held hearing) after
put_off_renewed later hearing held after positive moved =
    subst (λ (b : Bool). IsPermutation (cond b (map (shortened (cutting later hearing)) (filter (is_other hearing.rr) held) ++ renewed hearing ∷ []) (map (shortened (cutting later hearing)) held)) after) (sym positive)
    (subst (λ (l : List Held). IsPermutation (l ++ renewed hearing ∷ []) after) (filter_cut hearing.rr (cutting later hearing) held) moved)

pub put_off_goodbye : (later : List Rr) (hearing : Hearing) (held : List Held) → nat_lt 0 hearing.rr.ttl ≡ false → after_put_off later held hearing ≡ map (shortened (cutting later hearing)) held
put_off_goodbye later hearing held zero_ttl =
    ap (λ (b : Bool). cond b (map (shortened (cutting later hearing)) (filter (is_other hearing.rr) held) ++ renewed hearing ∷ []) (map (shortened (cutting later hearing)) held)) zero_ttl

-- the last of those that are left is heard next, and its flush put off if one of the others flushes the same
pub next_put_off : (moment word : ℕ) (rest : List Rr) (rr : Rr) (one other : List Held) → IsPermutation (after_put_off rest one (hearing_at moment word rr)) other →
    IsPermutation (after_hearings one (map (hearing_at moment word) (reverse (rest ++ rr ∷ [])))) (after_hearings other (map (hearing_at moment word) (reverse rest)))
next_put_off moment word rest rr one other moved =
    subst (λ (l : List Held). IsPermutation l (after_hearings other (map (hearing_at moment word) (reverse rest))))
    (sym (ap (λ (l : List Rr). after_hearings one (map (hearing_at moment word) l)) (reverse-append rest (rr ∷ []))
    ∙ put_off_is moment word rr (reverse rest) one
    ∙ ap (λ (b : Bool). after_hearings (cut (cond (rr.flush && not b) rr (without_flush rr))) (map (hearing_at moment word) (reverse rest))) same_any))
    (after_hearings-permuted (map (hearing_at moment word) (reverse rest)) (after_put_off rest one (hearing_at moment word rr)) other moved)
  where
    cut : Rr → List Held
    cut x =
        cond (nat_lt 0 rr.ttl) (map (shortened (hearing_at moment word x)) (filter (is_other rr) one) ++ renewed (hearing_at moment word rr) ∷ []) (map (shortened (hearing_at moment word x)) one)

    same_any : is_flushed_by rr (reverse rest) ≡ is_flushed_by rr rest
    same_any = sym (list_any-IsPermutation _ rest (reverse rest) (IsPermutation-reverse rest))

pub not_put_off : (later : List Rr) (rr : Rr) → (rr.flush && not (is_flushed_by rr later)) ≡ true → put_off later rr ≡ rr
not_put_off later rr e = ap (λ (b : Bool). cond b rr (without_flush rr)) e

pub is_put_off : (later : List Rr) (rr : Rr) → (rr.flush && not (is_flushed_by rr later)) ≡ false → put_off later rr ≡ without_flush rr
is_put_off later rr e = ap (λ (b : Bool). cond b rr (without_flush rr)) e
