-- One record of a packet more is heard, where it is of a name.
use Rattle.std.proofs.Common.{◌≡◌, ℕ, zero, suc, ◌+◌, ◌<◌, ◌&&◌, ◌++◌, nat_lt, Bool, true, false, cond, List, [], ◌∷◌, length, drop, map, filter, get_or, refl, ap, sym, ◌∙◌, arith}
use Rattle.std.specs.List.{AllByRecursion}
use Rattle.std.proofs.lemmas.List.{drop_more}
use Rattle.dns_record.specs.declared.record.Rr.{Rr}
use Rattle.mdns_history.specs.declared.held.Held.{Held}
use Rattle.mdns_history.specs.Hearings.{Hearing}
use Rattle.mdns_history.specs.Lifetimes.{is_other}
use Rattle.mdns_cache.specs.Lifetimes.{hearing_at, after_hearing, after_hearings, renewed, shortened}
use Rattle.mdns_records.specs.After.{is_named, after_rest}

module _ (moment word : ℕ) (name : List (List ℕ)) where
  pub heard-more : (heard : List Rr) (n : ℕ) (rr : Rr) (before after : List Held) (b : Bool) → n < length heard → rr ≡ get_or heard n rr → b ≡ is_named name rr →
      after ≡ cond b (after_hearing before (hearing_at moment word rr)) before → after_rest moment word name after (drop (n + 1) heard) ≡ after_rest moment word name before (drop n heard)
  heard-more heard n rr before after b within is named put =
      ap (λ (l : List Held). after_rest moment word name l (drop (n + 1) heard)) put ∙ of b
      ∙ ap (λ (c : Bool). after_hearings before (map (hearing_at moment word) (cond c (rr ∷ rest) rest))) named
      ∙ ap (after_rest moment word name before) (sym (drop_more heard n rr within ∙ ap (λ (x : Rr). x ∷ drop (n + 1) heard) (sym is)))
    where
      rest : List Rr
      rest = filter (is_named name) (drop (n + 1) heard)

      of : (c : Bool) → after_hearings (cond c (after_hearing before (hearing_at moment word rr)) before) (map (hearing_at moment word) rest)
          ≡ after_hearings before (map (hearing_at moment word) (cond c (rr ∷ rest) rest))
      of true = refl
      of false = refl

-- the records of a name are the first one of it, and those behind that
pub named-from : (test : Rr → Bool) (heard : List Rr) (i : ℕ) (d : Rr) → i < length heard → test (get_or heard i d) ≡ true → ((k : ℕ) → k < i → test (get_or heard k d) ≡ false) →
    filter test heard ≡ get_or heard i d ∷ filter test (drop (suc i) heard)
named-from test [] i d within passes before = absurd (omega (arith, within))
named-from test (rr ∷ heard) zero d within passes before = ap (λ (b : Bool). cond b (rr ∷ filter test heard) (filter test heard)) passes
named-from test (rr ∷ heard) (suc i) d within passes before =
    ap (λ (b : Bool). cond b (rr ∷ filter test heard) (filter test heard)) (before 0 (omega arith))
    ∙ named-from test heard i d (omega (arith, within)) passes (λ k h. before (suc k) (omega (arith, h)))

-- and there are none where none is of it
pub named-none : (test : Rr → Bool) (heard : List Rr) → AllByRecursion (λ (rr : Rr). test rr ≡ false) heard → filter test heard ≡ []
named-none test [] all = refl
named-none test (rr ∷ heard) all = ap (λ (b : Bool). cond b (rr ∷ filter test heard) (filter test heard)) all.0 ∙ named-none test heard all.1

-- two tests at once let through what passes one after the other
pub filter-both : (first second : Held → Bool) (held : List Held) → filter (λ one. first one && second one) held ≡ filter second (filter first held)
filter-both first second [] = refl
filter-both first second (one ∷ held) = of (first one) (filter-both first second held)
  where
    of : (b : Bool) → filter (λ one. first one && second one) held ≡ filter second (filter first held) →
        cond (b && second one) (one ∷ filter (λ one. first one && second one) held) (filter (λ one. first one && second one) held) ≡ filter second (cond b (one ∷ filter first held) (filter first held))
    of true rest = ap (λ (l : List Held). cond (second one) (one ∷ l) l) rest
    of false rest = rest

-- what a record does that isn't a goodbye
pub after-new : (held : List Held) (hearing : Hearing) → nat_lt 0 hearing.rr.ttl ≡ true → after_hearing held hearing ≡ map (shortened hearing) (filter (is_other hearing.rr) held) ++ renewed hearing ∷ []
after-new held hearing e = ap (λ (b : Bool). cond b (map (shortened hearing) (filter (is_other hearing.rr) held) ++ renewed hearing ∷ []) (map (shortened hearing) held)) e
