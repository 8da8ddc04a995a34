-- A goodbye cuts the life of the one record that is the same.
use Rattle.std.proofs.Common.{◌≡◌, ◌∙◌, ◌&&◌, ◌||◌, ℕ, zero, suc, ◌+◌, eqb, nat_lt, min, Bool, true, false, cond, List, [], ◌∷◌, map, set, Some, slice_get, refl, sym, ap, subst}
use Rattle.std.specs.List.{AllByRecursion, IsDistinct}
use Rattle.std.proofs.lemmas.Bool.{false≢true, false_from_ne_true, eq-eqb}
use Rattle.dns_name.specs.Names.{folded_eq}
use Rattle.dns_record.specs.declared.record.Rr.{Rr}
use Rattle.dns_record.specs.Records.{same, kind_of}
use Rattle.dns_record.proofs.Same.{same_tells}
use Rattle.mdns_history.specs.declared.held.Held.{Held}
use Rattle.mdns_history.specs.Hearings.{Hearing}
use Rattle.mdns_history.specs.Lifetimes.{cuts}
use Rattle.mdns_cache.specs.Lifetimes.{shortened}
use Rattle.mdns_cache.specs.Named.{AreOnce}
use Rattle.mdns_cache.proofs.ListLemmas.{each-weaker}

-- a record whose life is a second from now on at most
abbrev pub cut_to : ℕ → Held → Held
cut_to moment one = record { rr = one.rr; heard = one.heard; word = one.word; end = min (moment + 1000) one.end }

same_apart : (a b c : Rr) → same a b ≡ true → same a c ≡ false → same c b ≡ false
same_apart a b c h apart =
    false_from_ne_true (same c b) (λ k. false≢true (sym apart ∙ (same_tells a c).1 ((same_tells a b).0 h ∙ sym ((same_tells c b).0 k))))

each_get : (P : Held → Type 0) (held : List Held) (i : ℕ) (one : Held) → AllByRecursion P held → slice_get held i ≡ Some one → P one
each_get P [] i one h e = absurd (cc)
each_get P (x ∷ held) zero one h e = let first : x ≡ one = cc in subst P first h.0
each_get P (x ∷ held) (suc i) one h e = each_get P held i one h.1 e

module _ (hearing : Hearing) (goodbye : hearing.rr.ttl ≡ 0) (still : hearing.rr.flush ≡ false) where
  cuts_same : (one : Held) → cuts one.rr one.heard hearing ≡ same one.rr hearing.rr
  cuts_same one =
      (λ i. (same one.rr hearing.rr && eq-eqb hearing.rr.ttl 0 goodbye i)
      || (still i && folded_eq one.rr.owner hearing.rr.owner && eqb (kind_of one.rr.rdata) (kind_of hearing.rr.rdata) && nat_lt (one.heard + 1000) hearing.moment))
      ∙ of (same one.rr hearing.rr)
    where
      of : (b : Bool) → ((b && true) || false) ≡ b
      of true = refl
      of false = refl

  ending : (one : Held) (b : Bool) → same one.rr hearing.rr ≡ b → shortened hearing one ≡ record { rr = one.rr; heard = one.heard; word = one.word; end = cond b (min (hearing.moment + 1000) one.end) one.end }
  ending one b is = ap (λ (c : Bool). record { rr = one.rr; heard = one.heard; word = one.word; end = cond c (min (hearing.moment + 1000) one.end) one.end }) (cuts_same one ∙ is)

  -- where none is the same, nothing is cut
  pub goodbye_none : (held : List Held) → AllByRecursion (λ (one : Held). same one.rr hearing.rr ≡ false) held → map (shortened hearing) held ≡ held
  goodbye_none [] apart = refl
  goodbye_none (one ∷ held) apart = λ i. ending one false apart.0 i ∷ goodbye_none held apart.1 i

  -- the one that is the same is cut
  pub goodbye_one : (held : List Held) (i : ℕ) (one : Held) → AreOnce held → slice_get held i ≡ Some one → same one.rr hearing.rr ≡ true → map (shortened hearing) held ≡ set held i (cut_to hearing.moment one)
  unfolding IsDistinct
  goodbye_one [] i one once there is = absurd (cc)
  goodbye_one (x ∷ held) zero one once there is =
      let first : x ≡ one = cc in
      let is_same : same x.rr hearing.rr ≡ true = subst (λ (y : Held). same y.rr hearing.rr ≡ true) (sym first) is in
      let others : AllByRecursion (λ (y : Held). same y.rr hearing.rr ≡ false) held =
      each-weaker (λ (y : Held). same y.rr hearing.rr ≡ false) (λ (y : Held). same x.rr y.rr ≡ false) (λ y apart. same_apart x.rr hearing.rr y.rr is_same apart) held once.0 in
      (λ i. (ending x true is_same ∙ ap (cut_to hearing.moment) first) i ∷ goodbye_none held others i)
  goodbye_one (x ∷ held) (suc i) one once there is =
      let apart : same x.rr one.rr ≡ false = each_get (λ (y : Held). same x.rr y.rr ≡ false) held i one once.0 there in
      let other : same x.rr hearing.rr ≡ false =
      false_from_ne_true (same x.rr hearing.rr) (λ k. false≢true (sym apart ∙ (same_tells x.rr one.rr).1 ((same_tells x.rr hearing.rr).0 k ∙ sym ((same_tells one.rr hearing.rr).0 is)))) in
      (λ j. ending x false other j ∷ goodbye_one held i one once.1 there is j)
