-- What an event makes of the records of one name.
use Rattle.std.proofs.Common.{◌≡◌, ℕ, Bool, true, false, cond, ◌||◌, List, [], ◌∷◌, filter, refl, sym, ap, ◌∙◌, true≢false, arith}
use Rattle.std.specs.List.{AllByRecursion}
use Rattle.std.proofs.lemmas.Bool.{false_from_ne_true}
use Rattle.std.proofs.lemmas.Bool.Decides.{nat_tests}
use Rattle.dns_name.specs.Names.{folded_eq}
use Rattle.dns_name.proofs.Folding.{folded_eq-equivalence}
use Rattle.dns_record.specs.declared.record.Rr.{Rr}
use Rattle.mdns_history.specs.declared.held.Held.{Held}
use Rattle.mdns_history.specs.Lifetimes.{is_live_at}
use Rattle.mdns_cache.specs.Ended.{is_among, HasEnded}
use Rattle.mdns_cache.specs.Lifetimes.{held_of, is_of}
use Rattle.mdns_records.specs.After.{held_after, is_named, AreTouched}
use Rattle.mdns_records.proofs.Named.{after_of}

-- names that are one, case aside, are alike to a third
alike_to : (name one other : List (List ℕ)) → folded_eq one other ≡ true → folded_eq one name ≡ folded_eq other name
alike_to name one other e = folded_eq-equivalence.congr one other name e

-- the records of a name after an event
pub later_of : (name : List (List ℕ)) (moment word : ℕ) (heard : List Rr) (held : List Held) →
    held_of name (held_after moment word heard held) ≡ held_after moment word (filter (is_named name) heard) (held_of name held)
later_of name moment word heard held = after_of (λ owner. folded_eq owner name) (alike_to name) moment word heard held

-- names that are one, case aside, are among others alike
among_alike : (names : List (List (List ℕ))) (one other : List (List ℕ)) → folded_eq one other ≡ true → is_among names one ≡ is_among names other
among_alike [] one other e = refl
among_alike (name ∷ names) one other e = λ i. folded_eq-equivalence.congr one other name e i || among_alike names one other e i

-- the owner of a record is of no name that isn't among others, where it is
other_than : (names : List (List (List ℕ))) (name owner : List (List ℕ)) → is_among names name ≡ false → is_among names owner ≡ true → folded_eq owner name ≡ false
other_than names name owner none some =
    false_from_ne_true (folded_eq owner name) (λ e. true≢false (sym some ∙ among_alike names owner name e ∙ none))

module _ (names : List (List (List ℕ))) (name : List (List ℕ)) (none : is_among names name ≡ false) where
  unheard : (heard : List Rr) → AllByRecursion (λ (rr : Rr). is_among names rr.owner ≡ true) heard → filter (is_named name) heard ≡ []
  unheard [] all = refl
  unheard (rr ∷ heard) all =
      ap (λ (b : Bool). cond b (rr ∷ filter (is_named name) heard) (filter (is_named name) heard)) (other_than names name rr.owner none all.0) ∙ unheard heard all.1

  unended : (moment : ℕ) (held : List Held) → HasEnded held moment names → filter (is_live_at moment) (held_of name held) ≡ held_of name held
  unended moment [] all = refl
  unended moment (one ∷ held) all = of (is_of name one) refl (unended moment held all.1)
    where
      live : (b : Bool) → is_live_at moment one ≡ b → is_of name one ≡ true → b ≡ true
      live true e h = refl
      live false e h = absurd (true≢false (sym h ∙ other_than names name one.rr.owner none (all.0 (grind (arith, nat_tests)))))

      of : (b : Bool) → is_of name one ≡ b → filter (is_live_at moment) (held_of name held) ≡ held_of name held →
          filter (is_live_at moment) (cond b (one ∷ held_of name held) (held_of name held)) ≡ cond b (one ∷ held_of name held) (held_of name held)
      of true e ih =
          ap (λ (b : Bool). cond b (one ∷ filter (is_live_at moment) (held_of name held)) (filter (is_live_at moment) (held_of name held))) (live (is_live_at moment one) refl e)
          ∙ ap (λ (l : List Held). one ∷ l) ih
      of false e ih = ih

-- Where the owners of all records that have ended, and of all that are heard, are among names, the records of any other name stay.
pub touched_all : (moment : ℕ) (heard : List Rr) (held : List Held) (names : List (List (List ℕ))) →
    HasEnded held moment names → AllByRecursion (λ (rr : Rr). is_among names rr.owner ≡ true) heard → AreTouched moment heard held names
touched_all moment heard held names ended all = λ word name none.
    later_of name moment word heard held
    ∙ ap (λ (rrs : List Rr). held_after moment word rrs (held_of name held)) (unheard names name none heard all)
    ∙ unended names name none moment held ended
