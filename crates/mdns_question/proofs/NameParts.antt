-- The questions of a name stand side by side.
use Rattle.std.proofs.Common.{◌≡◌, ℕ, zero, suc, ◌-◌, ◌<◌, ◌≤◌, Bool, true, false, List, [], ◌∷◌, length, get_or, Ordering, Less, Equal, Greater, refl, ap, ◌∙◌, sym, arith, ⊎_elim}
use Rattle.std.specs.List.Sorted.{IsPartitionedBy, IsPartitionPoint}
use Rattle.std.specs.Ordering.{is_lt, is_le, is_eq, nat_cmp, ordering_then, ordering_reverse}
use Rattle.std.specs.Cmp.{IsTotalOrder}
use Rattle.std.proofs.lemmas.Bool.{cases_lt}
use Rattle.std.proofs.lemmas.Cmp.{on_total, nat_list_cmp_total, alike_right}
use Rattle.std.proofs.lemmas.Map.Text.{is_eq-slice_cmp}
use Rattle.dns_name.specs.Names.{wire_of, folded, folded_eq, name_cmp}
use Rattle.dns_record.specs.Records.{key_cmp}
use Rattle.mdns_timer.specs.Strict.{IsStrict}
use Rattle.mdns_question.specs.declared.tracked.Tracked.{Tracked}
use Rattle.mdns_question.specs.Tracking.{tracked_cmp}
use Rattle.mdns_question.specs.Placed.{AreOfName}
use Rattle.mdns_question.proofs.Places.{each_at}

name_cmp_total : IsTotalOrder name_cmp
unfolding name_cmp
name_cmp_total = on_total (λ (n : List (List ℕ)). wire_of (folded n)) nat_list_cmp_total

-- names are one where the order says so
name_eq_is : (a b : List (List ℕ)) → folded_eq a b ≡ is_eq (name_cmp a b)
unfolding name_cmp folded_eq
name_eq_is a b = sym (is_eq-slice_cmp (wire_of (folded a)) (wire_of (folded b)))

turned_is : (a b : List (List ℕ)) (o : Ordering) → name_cmp b a ≡ o → folded_eq a b ≡ is_eq (ordering_reverse o)
turned_is a b o e = name_eq_is a b ∙ ap is_eq (name_cmp_total.antisymm a b ∙ ap ordering_reverse e)

-- of questions in order the names are in order
names_rise : (a b : Tracked) → tracked_cmp a b ≡ Less → (name_cmp a.key.name b.key.name ≡ Greater → ⊥)
unfolding key_cmp
names_rise a b less more =
    let no : Greater ≡ Less = ap (λ (o : Ordering). ordering_then o (nat_cmp a.key.kind b.key.kind)) (sym more) ∙ less in cc

far : (questions : List Tracked) → IsStrict tracked_cmp questions → (i j : ℕ) (d : Tracked) → i < j → j < length questions → tracked_cmp (get_or questions i d) (get_or questions j d) ≡ Less
far [] s i j d h within = absurd (omega arith)
far (x ∷ xs) s zero zero d h within = absurd (omega arith)
far (x ∷ xs) s zero (suc j) d h within = each_at (λ y. tracked_cmp x y ≡ Less) xs j d (omega arith) s.0
far (x ∷ xs) s (suc i) zero d h within = absurd (omega arith)
far (x ∷ xs) s (suc i) (suc j) d h within = far xs s.1 i j d (omega arith) (omega arith)

module _ (name : List (List ℕ)) where
  -- a question before one whose name is not above the name has a name that isn't either
  step : (test : Ordering → Bool) → test Less ≡ true → (a b : Tracked) → tracked_cmp a b ≡ Less → test (name_cmp b.key.name name) ≡ true → test Greater ≡ false → test (name_cmp a.key.name name) ≡ true
  step test low a b less passes high = of (name_cmp a.key.name b.key.name) refl (name_cmp b.key.name name) refl
    where
      of : (o : Ordering) → name_cmp a.key.name b.key.name ≡ o → (p : Ordering) → name_cmp b.key.name name ≡ p → test (name_cmp a.key.name name) ≡ true
      of Greater e p f = absurd (names_rise a b less e)
      of Equal e p f = ap test (name_cmp_total.congr a.key.name b.key.name name e) ∙ passes
      of Less e Less f = ap test (name_cmp_total.trans a.key.name b.key.name name e f) ∙ low
      of Less e Equal f = ap test (sym (alike_right name_cmp_total b.key.name name a.key.name f) ∙ e) ∙ low
      of Less e Greater f = let no : true ≡ false = sym passes ∙ ap test f ∙ high in absurd (cc)

  pub parted : (test : Ordering → Bool) → test Less ≡ true → test Greater ≡ false → (questions : List Tracked) → IsStrict tracked_cmp questions → IsPartitionedBy (λ one. test (name_cmp one.key.name name)) questions
  parted test low high questions s = λ i j d h within passes.
      ⊎_elim (λ less. step test low (get_or questions i d) (get_or questions j d) (far questions s i j d less within) passes high)
      (λ more. let same : j ≡ i = omega arith in ap (λ (k : ℕ). test (name_cmp (get_or questions k d).key.name name)) (sym same) ∙ passes)
      (cases_lt i j)

  -- the place behind the last question whose name isn't above the name, where it is reached from the first one of the name
  pub reached : (questions : List Tracked) (first end : ℕ) → IsStrict tracked_cmp questions →
      IsPartitionPoint (λ one. is_lt (name_cmp one.key.name name) ≡ true) (λ one. is_lt (name_cmp one.key.name name) ≡ false) questions first →
      ((k : ℕ) → k < end → (d : Tracked) → first ≤ k → is_le (name_cmp (get_or questions k d).key.name name) ≡ true) →
      ((d : Tracked) → end < length questions → is_le (name_cmp (get_or questions end d).key.name name) ≡ false) →
      IsPartitionPoint (λ one. is_le (name_cmp one.key.name name) ≡ true) (λ one. is_le (name_cmp one.key.name name) ≡ false) questions end
  reached questions first end s lt between stop = (passed, past)
    where
      le_of : (o : Ordering) → is_lt o ≡ true → is_le o ≡ true
      le_of Less e = refl
      le_of Equal e = absurd (cc)
      le_of Greater e = absurd (cc)

      passed : (k : ℕ) (d : Tracked) → 0 ≤ k → k < end → is_le (name_cmp (get_or questions k d).key.name name) ≡ true
      passed k d h g = ⊎_elim (λ before. le_of (name_cmp (get_or questions k d).key.name name) (lt.0 k d h before)) (λ from. between k g d from) (cases_lt k first)

      past : (k : ℕ) (d : Tracked) → end ≤ k → k < length questions → is_le (name_cmp (get_or questions k d).key.name name) ≡ false
      past k d h g = of (is_le (name_cmp (get_or questions k d).key.name name)) refl
        where
          of : (b : Bool) → is_le (name_cmp (get_or questions k d).key.name name) ≡ b → is_le (name_cmp (get_or questions k d).key.name name) ≡ false
          of false e = e
          of true e = let no : true ≡ false = sym (parted is_le refl refl questions s end k d h g e) ∙ stop d (omega (arith, h, g)) in absurd (cc)

  pub are_of_name : (questions : List Tracked) (first end : ℕ) → first ≤ length questions → end ≤ length questions →
      IsPartitionPoint (λ one. is_lt (name_cmp one.key.name name) ≡ true) (λ one. is_lt (name_cmp one.key.name name) ≡ false) questions first →
      IsPartitionPoint (λ one. is_le (name_cmp one.key.name name) ≡ true) (λ one. is_le (name_cmp one.key.name name) ≡ false) questions end → AreOfName questions name first end
  are_of_name questions first end low high lt le = record {
    order = order;
    within = high;
    before = λ k d h. less (get_or questions k d) (lt.0 k d (omega arith) h);
    named = λ k d h g. same (get_or questions k d) (lt.1 k d h (omega (arith, g, high))) (le.0 k d (omega arith) g);
    behind = λ k d h g. more (get_or questions k d) (le.1 k d h g);
  }
    where
      less : (one : Tracked) → is_lt (name_cmp one.key.name name) ≡ true → folded_eq name one.key.name ≡ false
      less one h = of (name_cmp one.key.name name) refl h
        where
          of : (o : Ordering) → name_cmp one.key.name name ≡ o → is_lt o ≡ true → folded_eq name one.key.name ≡ false
          of Less e g = turned_is name one.key.name Less e
          of Equal e g = absurd (cc)
          of Greater e g = absurd (cc)

      same : (one : Tracked) → is_lt (name_cmp one.key.name name) ≡ false → is_le (name_cmp one.key.name name) ≡ true → folded_eq name one.key.name ≡ true
      same one h g = of (name_cmp one.key.name name) refl h g
        where
          of : (o : Ordering) → name_cmp one.key.name name ≡ o → is_lt o ≡ false → is_le o ≡ true → folded_eq name one.key.name ≡ true
          of Less e p q = absurd (cc)
          of Equal e p q = turned_is name one.key.name Equal e
          of Greater e p q = absurd (cc)

      more : (one : Tracked) → is_le (name_cmp one.key.name name) ≡ false → folded_eq name one.key.name ≡ false
      more one h = of (name_cmp one.key.name name) refl h
        where
          of : (o : Ordering) → name_cmp one.key.name name ≡ o → is_le o ≡ false → folded_eq name one.key.name ≡ false
          of Less e g = absurd (cc)
          of Equal e g = absurd (cc)
          of Greater e g = turned_is name one.key.name Greater e

      order : first ≤ end
      order = ⊎_elim (λ behind. absurd (crossed behind)) (λ h. h) (cases_lt end first)
        where
          crossed : end < first → ⊥
          crossed h = no (element_at questions end (omega (arith, h, low)))
            where
              no : Tracked → ⊥
              no d = both (name_cmp (get_or questions end d).key.name name) (lt.0 end d (omega arith) h) (le.1 end d (omega arith) (omega (arith, h, low)))
                where
                  both : (o : Ordering) → is_lt o ≡ true → is_le o ≡ false → ⊥
                  both Less p q = cc
                  both Equal p q = cc
                  both Greater p q = cc

              element_at : (qs : List Tracked) (i : ℕ) → i < length qs → Tracked
              element_at [] i g = absurd (omega arith)
              element_at (q ∷ qs) i g = q

  -- a question of the name stands neither below it nor above it
  same_le : (one : Tracked) → folded_eq name one.key.name ≡ true → is_le (name_cmp one.key.name name) ≡ true
  same_le one h = of (name_cmp one.key.name name) refl
    where
      of : (o : Ordering) → name_cmp one.key.name name ≡ o → is_le (name_cmp one.key.name name) ≡ true
      of Less e = ap is_le e
      of Equal e = ap is_le e
      of Greater e = let no : true ≡ false = sym h ∙ turned_is name one.key.name Greater e in absurd (cc)

  same_lt : (one : Tracked) → folded_eq name one.key.name ≡ true → is_lt (name_cmp one.key.name name) ≡ false
  same_lt one h = of (name_cmp one.key.name name) refl
    where
      of : (o : Ordering) → name_cmp one.key.name name ≡ o → is_lt (name_cmp one.key.name name) ≡ false
      of Less e = let no : true ≡ false = sym h ∙ turned_is name one.key.name Less e in absurd (cc)
      of Equal e = ap is_lt e
      of Greater e = ap is_lt e

  -- one of another name that isn't below the name is above it
  other_le : (one : Tracked) → folded_eq name one.key.name ≡ false → is_lt (name_cmp one.key.name name) ≡ false → is_le (name_cmp one.key.name name) ≡ false
  other_le one h low = of (name_cmp one.key.name name) refl
    where
      of : (o : Ordering) → name_cmp one.key.name name ≡ o → is_le (name_cmp one.key.name name) ≡ false
      of Less e = let no : true ≡ false = ap is_lt (sym e) ∙ low in absurd (cc)
      of Equal e = let no : true ≡ false = sym (turned_is name one.key.name Equal e) ∙ h in absurd (cc)
      of Greater e = ap is_le e

  -- and one that isn't above it is below it
  other_lt : (one : Tracked) → folded_eq name one.key.name ≡ false → is_le (name_cmp one.key.name name) ≡ true → is_lt (name_cmp one.key.name name) ≡ true
  other_lt one h low = of (name_cmp one.key.name name) refl
    where
      of : (o : Ordering) → name_cmp one.key.name name ≡ o → is_lt (name_cmp one.key.name name) ≡ true
      of Less e = ap is_lt e
      of Equal e = let no : true ≡ false = sym (turned_is name one.key.name Equal e) ∙ h in absurd (cc)
      of Greater e = let no : false ≡ true = ap is_le (sym e) ∙ low in absurd (cc)

  -- the questions of the name from the first one that isn't below it on
  pub run_of_name : (questions : List Tracked) (first end : ℕ) → IsStrict tracked_cmp questions → first ≤ end → end ≤ length questions →
      IsPartitionPoint (λ one. is_lt (name_cmp one.key.name name) ≡ true) (λ one. is_lt (name_cmp one.key.name name) ≡ false) questions first →
      ((k : ℕ) → k < end → (d : Tracked) → first ≤ k → folded_eq name (get_or questions k d).key.name ≡ true) →
      ((d : Tracked) → end < length questions → folded_eq name (get_or questions end d).key.name ≡ false) → AreOfName questions name first end
  run_of_name questions first end s order within lt named behind =
      are_of_name questions first end (omega (arith, order, within)) within lt
      (reached questions first end s lt (λ k h d g. same_le (get_or questions k d) (named k h d g))
      (λ d h. other_le (get_or questions end d) (behind d h) (lt.1 end d order h)))

  -- the first of the questions of the name that stand side by side is the first one that isn't below it
  pub first_of_run : (questions : List Tracked) (first near : ℕ) → IsStrict tracked_cmp questions → first ≤ near → near < length questions →
      ((d : Tracked) → folded_eq name (get_or questions near d).key.name ≡ true) →
      ((k : ℕ) → k < near → (d : Tracked) → first ≤ k → folded_eq name (get_or questions k d).key.name ≡ true) →
      ((k : ℕ) (d : Tracked) → suc k ≡ first → folded_eq name (get_or questions k d).key.name ≡ false) →
      IsPartitionPoint (λ one. is_lt (name_cmp one.key.name name) ≡ true) (λ one. is_lt (name_cmp one.key.name name) ≡ false) questions first
  first_of_run questions first near s order within at named before = (passed, past)
    where
      at_first : (d : Tracked) → folded_eq name (get_or questions first d).key.name ≡ true
      at_first d =
          ⊎_elim (λ less. named first less d (omega arith))
          (λ more. let same : near ≡ first = omega (arith, more, order) in ap (λ (k : ℕ). folded_eq name (get_or questions k d).key.name) (sym same) ∙ at d)
          (cases_lt first near)

      passed : (k : ℕ) (d : Tracked) → 0 ≤ k → k < first → is_lt (name_cmp (get_or questions k d).key.name name) ≡ true
      passed k d h g =
          let last : ℕ = first - 1 in
          let next : suc last ≡ first = omega (arith, g) in
          let le : is_le (name_cmp (get_or questions last d).key.name name) ≡ true =
          parted is_le refl refl questions s last near d (omega (arith, next, order)) within (same_le (get_or questions near d) (at d)) in
          parted is_lt refl refl questions s k last d (omega (arith, next, g)) (omega (arith, next, order, within)) (other_lt (get_or questions last d) (before last d next) le)

      past : (k : ℕ) (d : Tracked) → first ≤ k → k < length questions → is_lt (name_cmp (get_or questions k d).key.name name) ≡ false
      past k d h g = of (is_lt (name_cmp (get_or questions k d).key.name name)) refl
        where
          of : (b : Bool) → is_lt (name_cmp (get_or questions k d).key.name name) ≡ b → is_lt (name_cmp (get_or questions k d).key.name name) ≡ false
          of false e = e
          of true e = let no : true ≡ false = sym (parted is_lt refl refl questions s first k d h g e) ∙ same_lt (get_or questions first d) (at_first d) in absurd (cc)
