-- Prints and the indexes that are noted of them.
use Rattle.std.proofs.Common.{◌≡◌, ◌≢◌, ◌∙◌, ◌⊎◌, ⊎_elim, inl, inr, ℕ, zero, suc, ◌+◌, eqb, Bool, true, false, cond, List, [], ◌∷◌, ◌++◌, length, map, set, slice_get, Option, Some, None, refl, sym, ap, subst, IsPermutation, arith}
use Rattle.std.specs.Prelude.{IsSome, IfSome, IfNone}
use Rattle.std.specs.List.{fold, position, position_from, AllByRecursion, IsDistinct}
use Rattle.std.specs.Hash.DefaultHasher as sip
use Rattle.std.specs.Map.{values_of}
use Rattle.std.specs.declared.hash.DefaultHasher.{DefaultHasher}
use Rattle.std.proofs.lemmas.Grind.{fold-append}
use Rattle.std.proofs.lemmas.Iterator.Adapters.{position_from-zero}
use Rattle.std.proofs.lemmas.Bool.{cases_eq, eqb-true, eq-eqb, false≢true, false_from_ne_true}
use Rattle.std.proofs.lemmas.List.Elements.{All-from_recursion, recursion_from_All}
use Rattle.std.proofs.lemmas.List.Sorted.{All-permutation}
use Rattle.std.proofs.lemmas.Map.Keys.{IsDistinct-IsPermutation}
use Rattle.dns_record.specs.declared.record.Rr.{Rr}
use Rattle.dns_record.specs.Records.{identity_of, same}
use Rattle.dns_record.proofs.Same.{same_tells}
use Rattle.mdns_history.specs.declared.held.Held.{Held}
use Rattle.indexmap.specs.Layout.{set_value_at}
use Rattle.by_name.specs.At.{At}
use Rattle.by_name.specs.Filed.{IsOneOf, AgreeBut}
use Rattle.by_name.proofs.Changes.{values-set_value_at}
use Rattle.mdns_cache.specs.Printed.{print_of, prints_of, noted, IsIndexed, AreIndexed}
use Rattle.mdns_cache.specs.declared.prints.Prints.{Prints}

-- bytes that are written one after another
pub written_both : (s : DefaultHasher) (one other : List ℕ) → sip.write s (one ++ other) ≡ sip.write (sip.write s one) other
unfolding sip.write
written_both s one other = fold-append sip.write_byte s one other

turned : (one other : ℕ) → eqb one other ≡ eqb other one
turned one other =
    Rattle.std.specs.Cmp.both_ways (eqb one other) (eqb other one) (λ e. eq-eqb other one (sym (eqb-true one other e))) (λ e. eq-eqb one other (sym (eqb-true other one e)))

each_get : {X : Type 0} (P : X → Type 0) (xs : List X) (i : ℕ) (x : X) → AllByRecursion P xs → slice_get xs i ≡ Some x → P x
each_get P [] i x h e = absurd (cc)
each_get P (y ∷ xs) zero x h e = let first : y ≡ x = cc in subst P first h.0
each_get P (y ∷ xs) (suc i) x h e = each_get P xs i x h.1 e

each_found : {X : Type 0} (P : X → Type 0) (xs : List X) → ((i : ℕ) (x : X) → slice_get xs i ≡ Some x → P x) → AllByRecursion P xs
each_found P [] h = tt
each_found P (x ∷ xs) h = (h 0 x refl, each_found P xs (λ i y e. h (suc i) y e))

-- different numbers stand at different indexes
distinct_at : (xs : List ℕ) → IsDistinct eqb xs → (i j x y : ℕ) → slice_get xs i ≡ Some x → slice_get xs j ≡ Some y → i ≢ j → eqb x y ≡ false
unfolding IsDistinct
distinct_at [] d i j x y a b apart = absurd (cc)
distinct_at (z ∷ xs) d zero zero x y a b apart = absurd (apart refl)
distinct_at (z ∷ xs) d zero (suc j) x y a b apart = let first : z ≡ x = cc in subst (λ (w : ℕ). eqb w y ≡ false) first (each_get (λ (w : ℕ). eqb z w ≡ false) xs j y d.0 b)
distinct_at (z ∷ xs) d (suc i) zero x y a b apart =
    let first : z ≡ y = cc in turned x y ∙ subst (λ (w : ℕ). eqb w x ≡ false) first (each_get (λ (w : ℕ). eqb z w ≡ false) xs i x d.0 a)
distinct_at (z ∷ xs) d (suc i) (suc j) x y a b apart = distinct_at xs d.1 i j x y a b (λ e. apart (ap suc e))

distinct_push : (xs : List ℕ) (x : ℕ) → IsDistinct eqb xs → AllByRecursion (λ (y : ℕ). eqb y x ≡ false) xs → IsDistinct eqb (xs ++ x ∷ [])
unfolding IsDistinct
distinct_push [] x d apart = (tt, tt)
distinct_push (y ∷ xs) x d apart = (more xs d.0, distinct_push xs x d.1 apart.1)
  where
    more : (ys : List ℕ) → AllByRecursion (λ (z : ℕ). eqb y z ≡ false) ys → AllByRecursion (λ (z : ℕ). eqb y z ≡ false) (ys ++ x ∷ [])
    more [] h = (apart.0, tt)
    more (z ∷ ys) h = (h.0, more ys h.1)

distinct_tail : (x : ℕ) (xs : List ℕ) → IsDistinct eqb (x ∷ xs) → AllByRecursion (λ (y : ℕ). eqb x y ≡ false) xs × IsDistinct eqb xs
unfolding IsDistinct
distinct_tail x xs d = d

slice_get_pushed : (xs : List ℕ) (x i y : ℕ) → slice_get (xs ++ x ∷ []) i ≡ Some y → (slice_get xs i ≡ Some y) ⊎ ((i ≡ length xs) × (x ≡ y))
slice_get_pushed [] x zero y e = let same : x ≡ y = cc in inr (refl, same)
slice_get_pushed [] x (suc i) y e = absurd (cc)
slice_get_pushed (z ∷ xs) x zero y e = inl e
slice_get_pushed (z ∷ xs) x (suc i) y e = ⊎_elim inl (λ r. inr (ap suc r.0, r.1)) (slice_get_pushed xs x i y e)

some_none : (o : Option ℕ) → o ≡ None → IsSome o → ⊥
some_none None e h = false≢true h
some_none (Some x) e h = cc

one_of_none : (i : ℕ) → IsOneOf [] i → ⊥
one_of_none i h = h

-- ---- what is noted, after a change

module _ (before after : List (ℕ × ℕ)) (print : ℕ) where
  -- another print's note stays
  other_kept : (to : Option ℕ) → ((q : ℕ) → noted after q ≡ cond (eqb print q) to (noted before q)) → (q : ℕ) → eqb print q ≡ false → noted after q ≡ noted before q
  other_kept to is q e = is q ∙ ap (λ (b : Bool). cond b to (noted before q)) e

  own_put : (to : Option ℕ) → ((q : ℕ) → noted after q ≡ cond (eqb print q) to (noted before q)) → noted after print ≡ to
  own_put to is = is print ∙ ap (λ (b : Bool). cond b to (noted before print)) (eq-eqb print print refl)

  -- a print that wasn't there is noted at the end
  pub indexed_push : (prints : List ℕ) → IsIndexed [] before prints → noted before print ≡ None →
      ((q : ℕ) → noted after q ≡ cond (eqb print q) (Some (length prints)) (noted before q)) → IsIndexed [] after (prints ++ print ∷ [])
  indexed_push prints was none is = record {
    apart = distinct_push prints print was.apart (each_found (λ (q : ℕ). eqb q print ≡ false) prints (λ i q e. turned q print ∙ apart i q e));
    there = each_found (λ (q : ℕ). IsSome (noted after q)) (prints ++ print ∷ []) (λ i q e. is_there i q (slice_get_pushed prints print i q e));
    index = λ i q e. inl (at i q (slice_get_pushed prints print i q e));
  }
    where
      apart : (i q : ℕ) → slice_get prints i ≡ Some q → eqb print q ≡ false
      apart i q e =
          false_from_ne_true (eqb print q)
          (λ same.
          some_none (noted before q) (ap (noted before) (sym (eqb-true print q same)) ∙ none) (each_get (λ (x : ℕ). IsSome (noted before x)) prints i q was.there e))

      at : (i q : ℕ) → (slice_get prints i ≡ Some q) ⊎ ((i ≡ length prints) × (print ≡ q)) → noted after q ≡ Some i
      at i q (inl e) = other_kept (Some (length prints)) is q (apart i q e) ∙ ⊎_elim (λ h. h) (λ one. absurd (one_of_none i one)) (was.index i q e)
      at i q (inr e) = ap (noted after) (sym e.1) ∙ own_put (Some (length prints)) is ∙ ap Some (sym e.0)

      is_there : (i q : ℕ) → (slice_get prints i ≡ Some q) ⊎ ((i ≡ length prints) × (print ≡ q)) → IsSome (noted after q)
      is_there i q h = ap Rattle.std.proofs.Common.is_some (at i q h)

  -- a print that was taken out is forgotten
  pub indexed_forget : (prints rest : List ℕ) (places : List ℕ) → IsPermutation prints (print ∷ rest) → AgreeBut places prints rest → IsIndexed [] before prints →
      ((q : ℕ) → noted after q ≡ cond (eqb print q) None (noted before q)) → IsIndexed places after rest
  indexed_forget prints rest places moved agree was is = record {
    apart = parts.1;
    there = each_found (λ (q : ℕ). IsSome (noted after q)) rest (λ i q e. subst IsSome (sym (kept i q e)) (each_get (λ (x : ℕ). IsSome (noted before x)) rest i q all.1 e));
    index = λ i q e. ⊎_elim (λ same. inl (kept i q e ∙ ⊎_elim (λ h. h) (λ one. absurd (one_of_none i one)) (was.index i q (sym same ∙ e)))) inr (agree i);
  }
    where
      parts : AllByRecursion (λ (y : ℕ). eqb print y ≡ false) rest × IsDistinct eqb rest
      parts = distinct_tail print rest (IsDistinct-IsPermutation eqb turned prints (print ∷ rest) moved was.apart)

      all : AllByRecursion (λ (q : ℕ). IsSome (noted before q)) (print ∷ rest)
      all = recursion_from_All (λ (q : ℕ). IsSome (noted before q)) (print ∷ rest) (All-permutation (λ (q : ℕ). IsSome (noted before q)) prints (print ∷ rest) moved (All-from_recursion (λ (q : ℕ). IsSome (noted before q)) prints was.there))

      kept : (i q : ℕ) → slice_get rest i ≡ Some q → noted after q ≡ noted before q
      kept i q e = other_kept None is q (each_get (λ (y : ℕ). eqb print y ≡ false) rest i q parts.0 e)

  -- a print's index is noted anew
  pub indexed_mend : (prints : List ℕ) (i : ℕ) (dirty : List ℕ) → slice_get prints i ≡ Some print → IsIndexed (i ∷ dirty) before prints →
      ((q : ℕ) → noted after q ≡ cond (eqb print q) (Some i) (noted before q)) → IsIndexed dirty after prints
  indexed_mend prints i dirty here was is = record {
    apart = was.apart;
    there = each_found (λ (q : ℕ). IsSome (noted after q)) prints (λ j q e. is_there j q e (eqb print q) refl);
    index = λ j q e. ⊎_elim (λ same. inl (at j q e same)) (λ apart. other j q e apart) (cases_eq i j);
  }
    where
      is_there : (j q : ℕ) → slice_get prints j ≡ Some q → (b : Bool) → eqb print q ≡ b → IsSome (noted after q)
      is_there j q e true same = subst IsSome (sym (is q ∙ ap (λ (b : Bool). cond b (Some i) (noted before q)) same)) refl
      is_there j q e false same = subst IsSome (sym (other_kept (Some i) is q same)) (each_get (λ (x : ℕ). IsSome (noted before x)) prints j q was.there e)

      at : (j q : ℕ) → slice_get prints j ≡ Some q → i ≡ j → noted after q ≡ Some j
      at j q e same =
          let own : ◌≡◌ (Some q) (Some print) = sym e ∙ ap (slice_get prints) (sym same) ∙ here in
          let q_is : q ≡ print = cc in
          ap (noted after) q_is ∙ own_put (Some i) is ∙ ap Some same

      other : (j q : ℕ) → slice_get prints j ≡ Some q → i ≢ j → (noted after q ≡ Some j) ⊎ IsOneOf dirty j
      other j q e apart =
          let kept = other_kept (Some i) is q (distinct_at prints was.apart i j print q here e apart) in
          ⊎_elim (λ h. inl (kept ∙ h)) (λ one. ⊎_elim (λ same. absurd (apart same)) inr one) (was.index j q e)

-- each print is noted
pub there_at : (prints : List ℕ) (dirty : List ℕ) (indexes : List (ℕ × ℕ)) (i print : ℕ) → IsIndexed dirty indexes prints → slice_get prints i ≡ Some print → IsSome (noted indexes print)
there_at prints dirty indexes i print was e = each_get (λ (x : ℕ). IsSome (noted indexes x)) prints i print was.there e

-- where nothing stands, nothing is to be mended
pub indexed_past : (prints : List ℕ) (i : ℕ) (dirty : List ℕ) (indexes : List (ℕ × ℕ)) → slice_get prints i ≡ None → IsIndexed (i ∷ dirty) indexes prints → IsIndexed dirty indexes prints
indexed_past prints i dirty indexes past was = record {
  apart = was.apart;
  there = was.there;
  index = λ j q e. ⊎_elim inl (λ one. ⊎_elim (λ same. absurd (nothing j q e same)) inr one) (was.index j q e);
}
  where
    nothing : (j q : ℕ) → slice_get prints j ≡ Some q → i ≡ j → ⊥
    nothing j q e same = let no : ◌≡◌ (Some q) None = sym e ∙ ap (slice_get prints) (sym same) ∙ past in cc

-- ---- held records

pub slice_get-prints : (start : DefaultHasher) (held : List Held) (i : ℕ) (one : Held) → slice_get held i ≡ Some one → slice_get (prints_of start held) i ≡ Some (print_of start (identity_of one.rr))
slice_get-prints start [] i one e = absurd (cc)
slice_get-prints start (x ∷ held) zero one e = let first : x ≡ one = cc in ap (λ (h : Held). Some (print_of start (identity_of h.rr))) first
slice_get-prints start (x ∷ held) (suc i) one e = slice_get-prints start held i one e

pub slice_get-no_print : (start : DefaultHasher) (held : List Held) (i : ℕ) → slice_get held i ≡ None → slice_get (prints_of start held) i ≡ None
slice_get-no_print start [] i e = refl
slice_get-no_print start (x ∷ held) zero e = absurd (cc)
slice_get-no_print start (x ∷ held) (suc i) e = slice_get-no_print start held i e

pub length-prints : (start : DefaultHasher) (held : List Held) → length (prints_of start held) ≡ length held
length-prints start [] = refl
length-prints start (x ∷ held) = ap suc (length-prints start held)

pub prints-push : (start : DefaultHasher) (held : List Held) (one : Held) → prints_of start (held ++ one ∷ []) ≡ prints_of start held ++ print_of start (identity_of one.rr) ∷ []
prints-push start [] one = refl
prints-push start (x ∷ held) one = ap (λ (l : List ℕ). print_of start (identity_of x.rr) ∷ l) (prints-push start held one)

pub agree-prints : (start : DefaultHasher) (held after : List Held) (places : List ℕ) → AgreeBut places held after → AgreeBut places (prints_of start held) (prints_of start after)
agree-prints start held after places agree i = ⊎_elim (λ same. inl (of (slice_get held i) refl same)) inr (agree i)
  where
    of : (o : Option Held) → slice_get held i ≡ o → slice_get after i ≡ slice_get held i → slice_get (prints_of start after) i ≡ slice_get (prints_of start held) i
    of None e same = slice_get-no_print start after i (same ∙ e) ∙ sym (slice_get-no_print start held i e)
    of (Some one) e same = slice_get-prints start after i one (same ∙ e) ∙ sym (slice_get-prints start held i one e)

-- a record in place of one that is the same has its print
pub prints-put : (start : DefaultHasher) (held : List Held) (i : ℕ) (one new : Held) → slice_get held i ≡ Some one → identity_of new.rr ≡ identity_of one.rr → prints_of start (set held i new) ≡ prints_of start held
prints-put start [] i one new e same = absurd (cc)
prints-put start (x ∷ held) zero one new e same =
    let first : x ≡ one = cc in ap (λ (p : ℕ). p ∷ prints_of start held) (ap (print_of start) (same ∙ ap (λ (h : Held). identity_of h.rr) (sym first)))
prints-put start (x ∷ held) (suc i) one new e same = ap (λ (l : List ℕ). print_of start (identity_of x.rr) ∷ l) (prints-put start held i one new e same)

-- where a record is the same, its index is noted
pub same_noted : (start : DefaultHasher) (indexes : List (ℕ × ℕ)) (held : List Held) (rr : Rr) → IsIndexed [] indexes (prints_of start held) → (i : ℕ) (one : Held) → slice_get held i ≡ Some one →
    same one.rr rr ≡ true → noted indexes (print_of start (identity_of rr)) ≡ Some i
same_noted start indexes held rr was i one e is =
    ap (λ p. noted indexes (print_of start p)) (sym ((same_tells one.rr rr).0 is))
    ∙ ⊎_elim (λ h. h) (λ none. absurd (one_of_none i none)) (was.index i (print_of start (identity_of one.rr)) (slice_get-prints start held i one e))

-- so where it isn't, none is
pub none_noted : (start : DefaultHasher) (indexes : List (ℕ × ℕ)) (held : List Held) (rr : Rr) → IsIndexed [] indexes (prints_of start held) →
    ((i : ℕ) (one : Held) → noted indexes (print_of start (identity_of rr)) ≡ Some i → slice_get held i ≡ Some one → same one.rr rr ≡ true → ⊥) → AllByRecursion (λ (one : Held). same one.rr rr ≡ false) held
none_noted start indexes held rr was denied =
    each_found (λ (one : Held). same one.rr rr ≡ false) held (λ i one e. false_from_ne_true (same one.rr rr) (λ is. denied i one (same_noted start indexes held rr was i one e is) e is))

-- ---- records that are looked through

module _ {X : Type 0} (p : X → Bool) where
  pub found_from : (first : ℕ) (xs : List X) (i : ℕ) → position_from p first xs ≡ Some i → (k : ℕ) × (x : X) × (i ≡ first + k) × (slice_get xs k ≡ Some x) × (p x ≡ true)
  found_from first [] i e = absurd (cc)
  found_from first (x ∷ xs) i e = of (p x) refl (found_from (first + 1) xs i) e
    where
      of : (b : Bool) → p x ≡ b → (position_from p (first + 1) xs ≡ Some i → (k : ℕ) × (y : X) × (i ≡ first + 1 + k) × (slice_get xs k ≡ Some y) × (p y ≡ true)) →
          cond b (Some first) (position_from p (first + 1) xs) ≡ Some i → (k : ℕ) × (y : X) × (i ≡ first + k) × (slice_get (x ∷ xs) k ≡ Some y) × (p y ≡ true)
      of true e ih h = let same : first ≡ i = cc in (0, x, omega (arith, same), refl, e)
      of false e ih h = let r = ih h in let is : i ≡ first + 1 + r.0 = r.2 in (suc r.0, r.1, omega (arith, is), r.3, r.4)

  pub none_from : (first : ℕ) (xs : List X) → position_from p first xs ≡ None → AllByRecursion (λ (x : X). p x ≡ false) xs
  none_from first [] e = tt
  none_from first (x ∷ xs) e = of (p x) refl (none_from (first + 1) xs) e
    where
      of : (b : Bool) → p x ≡ b → (position_from p (first + 1) xs ≡ None → AllByRecursion (λ (y : X). p y ≡ false) xs) → cond b (Some first) (position_from p (first + 1) xs) ≡ None →
          AllByRecursion (λ (y : X). p y ≡ false) (x ∷ xs)
      of true e ih h = absurd (cc)
      of false e ih h = (e, ih h)

  pub found_at : (xs : List X) (o : Option ℕ) → o ≡ position p xs → IfSome o (λ i. (x : X) × (slice_get xs i ≡ Some x) × (p x ≡ true))
  found_at xs None e = tt
  found_at xs (Some i) e =
      let r = found_from 0 xs i (sym (position_from-zero p xs) ∙ sym e) in
      (r.1, subst (λ (n : ℕ). slice_get xs n ≡ Some r.1) (let q : r.0 ≡ i = omega (arith, r.2) in q) r.3, r.4)

  pub none_at : (xs : List X) (o : Option ℕ) → o ≡ position p xs → IfNone o (AllByRecursion (λ (x : X). p x ≡ false) xs)
  none_at xs None e = none_from 0 xs (sym (position_from-zero p xs) ∙ sym e)
  none_at xs (Some i) e = tt

-- ---- records of which one is changed

-- a record in place of one that is the same stands where that one stood
pub are_indexed-put : (prints : Prints) (es : List (At × Held)) (i : ℕ) (one new : Held) → slice_get (values_of es) i ≡ Some one → identity_of new.rr ≡ identity_of one.rr →
    AreIndexed prints [] (values_of es) → AreIndexed prints [] (values_of (set_value_at es i new))
are_indexed-put prints es i one new there same was =
    ⊎_elim inl
    (λ indexed. inr (subst (IsIndexed [] prints.indexes.entries) (sym (ap (prints_of prints.start) (values-set_value_at es i new) ∙ prints-put prints.start (values_of es) i one new there same)) indexed)) was

-- where no record stands, nothing is to be mended
pub are_indexed-past : (prints : Prints) (held : List Held) (i : ℕ) (dirty : List ℕ) → slice_get held i ≡ None → AreIndexed prints (i ∷ dirty) held → AreIndexed prints dirty held
are_indexed-past prints held i dirty past was =
    ⊎_elim inl (λ indexed. inr (indexed_past (prints_of prints.start held) i dirty prints.indexes.entries (slice_get-no_print prints.start held i past) indexed)) was
