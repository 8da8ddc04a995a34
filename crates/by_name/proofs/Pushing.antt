-- What a value more behind the others does to the entries.
use Rattle.std.proofs.Common.{◌≡◌, ◌≢◌, ℕ, zero, suc, Bool, true, false, cond, ⊎_elim, inl, inr, ◌⊎◌, List, [], ◌∷◌, ◌++◌, length, Some, None, slice_get, refl, sym, ap, subst, ◌∙◌, Result, Ok, Err}
use Rattle.std.specs.Prelude.{IsSome, IsOk, OnOk}
use Rattle.std.specs.List.{IsDistinct}
use Rattle.std.specs.Map.{keys_of, values_of, lookup}
use Rattle.std.proofs.lemmas.Bool.{cases_eq, false≢true}
use Rattle.indexmap.specs.Layout.{set_value_at}
use Rattle.by_name.specs.At.{At, at, at_eq}
use Rattle.by_name.specs.Filed.{found, AreFiled, AgreeBut}
use Rattle.by_name.proofs.Finding.{at_same}

slice_get-push : {X : Type 0} (xs : List X) (x : X) (p : ℕ) → p ≢ length xs → slice_get (xs ++ x ∷ []) p ≡ slice_get xs p
slice_get-push [] x zero apart = absurd (apart refl)
slice_get-push [] x (suc p) apart = refl
slice_get-push (y ∷ xs) x zero apart = refl
slice_get-push (y ∷ xs) x (suc p) apart = slice_get-push xs x p (λ e. apart (ap suc e))

pub on_ok : {X E : Type 0} (r : Result X E) (P : Type 0) → IsOk r → OnOk r P → P
on_ok (Ok x) P is h = h
on_ok (Err e) P is h = absurd (false≢true is)

module _ {T : Type 0} where
  module _ (t : At → Bool) (e : At × T) where
    some_pushed : (es : List (At × T)) → IsSome (lookup t (es ++ e ∷ [])) → IsSome (lookup t es) ⊎ (t e.0 ≡ true)
    some_pushed [] h = of (t e.0) h
      where
        of : (b : Bool) → IsSome (cond b (Some e.1) None) → IsSome {T = T} None ⊎ (b ≡ true)
        of true h = inr refl
        of false h = absurd (false≢true h)
    some_pushed (x ∷ es) h = of (t x.0) h (some_pushed es)
      where
        of : (b : Bool) → IsSome (cond b (Some x.1) (lookup t (es ++ e ∷ []))) → (IsSome (lookup t (es ++ e ∷ [])) → IsSome (lookup t es) ⊎ (t e.0 ≡ true)) → IsSome (cond b (Some x.1) (lookup t es)) ⊎ (t e.0 ≡ true)
        of true h ih = inl refl
        of false h ih = ih h

    some_kept : (es : List (At × T)) → IsSome (lookup t es) → IsSome (lookup t (es ++ e ∷ []))
    some_kept [] h = absurd (false≢true h)
    some_kept (x ∷ es) h = of (t x.0) h (some_kept es)
      where
        of : (b : Bool) → IsSome (cond b (Some x.1) (lookup t es)) → (IsSome (lookup t es) → IsSome (lookup t (es ++ e ∷ []))) → IsSome (cond b (Some x.1) (lookup t (es ++ e ∷ [])))
        of true h ih = refl
        of false h ih = ih h

  pub filed_pushed : (es : List (At × T)) (place : At) (one : T) → ((number : ℕ) → suc number ≡ place.number → IsSome (found place.owner number es)) →
      IsDistinct at_eq (keys_of (es ++ (place, one) ∷ [])) → AreFiled es → AreFiled (es ++ (place, one) ∷ [])
  filed_pushed es place one next distinct filed = record {
    distinct = distinct;
    gapless = λ name number some.
        some_kept (at_eq (at name number)) (place, one) es
        (⊎_elim (filed.gapless name number) (λ e. from name number (at_same (at name (suc number)) place e)) (some_pushed (at_eq (at name (suc number))) (place, one) es some));
  }
    where
      from : (name : List ℕ) (number : ℕ) → at name (suc number) ≡ place → IsSome (found name number es)
      from name number e =
          subst (λ (o : List ℕ). IsSome (found o number es)) (sym (ap (λ (k : At). k.owner) e)) (next number (ap (λ (k : At). k.number) e))

  values-push : (es : List (At × T)) (e : At × T) → values_of (es ++ e ∷ []) ≡ values_of es ++ e.1 ∷ []
  values-push [] e = refl
  values-push (x ∷ es) e = ap (λ (l : List T). x.1 ∷ l) (values-push es e)

  length-values : (es : List (At × T)) → length (values_of es) ≡ length es
  length-values [] = refl
  length-values (x ∷ es) = ap suc (length-values es)

  pub agree-push : (es : List (At × T)) (e : At × T) → AgreeBut (length es ∷ []) (values_of es) (values_of (es ++ e ∷ []))
  agree-push es e place =
      ⊎_elim (λ q. inr (inl (sym q))) (λ apart. inl (ap (λ (l : List T). slice_get l place) (values-push es e) ∙ slice_get-push (values_of es) e.1 place (λ q. apart (q ∙ length-values es))))
      (cases_eq place (length es))

  -- a value that is there already changes nothing
  pub set_same : (es : List (At × T)) (i : ℕ) (one : T) → slice_get (values_of es) i ≡ Some one → set_value_at es i one ≡ es
  set_same [] i one h = refl
  set_same (e ∷ es) zero one h = let same : one ≡ e.1 = cc in ap (λ (x : T). (e.0, x) ∷ es) same
  set_same (e ∷ es) (suc i) one h = ap (λ (l : List (At × T)). e ∷ l) (set_same es i one h)

  pub values_push : (es : List (At × T)) (e : At × T) → values_of (es ++ e ∷ []) ≡ values_of es ++ e.1 ∷ []
  values_push = values-push
