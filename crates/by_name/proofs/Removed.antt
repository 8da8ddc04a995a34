-- What taking a value out does to the entries.
use Rattle.std.proofs.Common.{◌≡◌, ◌≢◌, ℕ, zero, suc, ◌<◌, ◌≤◌, Bool, true, false, cond, List, [], ◌∷◌, ◌++◌, length, get_or, Option, Some, None, slice_get, swap_remove, position, refl, sym, ap, subst, ◌∙◌, append_assoc, IsPermutation, is_some}
use Rattle.std.specs.Prelude.{IsSome, IfSome}
use Rattle.std.specs.List.{flat_map, AllByRecursion, IsDistinct}
use Rattle.std.specs.Map.{keys_of, values_of, lookup, lookup_key}
use Rattle.std.proofs.lemmas.List.{length-map}
use Rattle.std.proofs.lemmas.Option.{get_or_from_slice_get, slice_get-get_or}
use Rattle.std.proofs.lemmas.Map.Made.{lookup_key_passes, is_some-lookup}
use Rattle.indexmap.specs.IndexMap.{swap_remove_entry}
use Rattle.indexmap.proofs.MapLemmas.{Found, Found-position, swap_remove_entry-found}
use Rattle.std.proofs.lemmas.Bool.{false_from_ne_true, false≢true}
use Rattle.std.proofs.lemmas.List.Concat.{flat_map-append}
use Rattle.std.proofs.lemmas.List.Sorted.{IsPermutation-refl, IsPermutation-sym, IsPermutation-trans, IsPermutation-append_left, IsPermutation-append_right, IsPermutation-append_comm, IsPermutation-swap_remove, All-permutation}
use Rattle.std.proofs.lemmas.List.Elements.{All-from_recursion, recursion_from_All}
use Rattle.lists.proofs.Permutations.{along_permutation}
use Rattle.indexmap.specs.Layout.{set_value_at}
use Rattle.by_name.specs.At.{At, at, at_eq}
use Rattle.by_name.specs.Filed.{found, above, HaveNoGap, IsFoundAt, IsWithout, AllOwned, AreFiled}
use Rattle.by_name.proofs.Finding.{at_same}

-- what elements give, of elements in another order
pub IsPermutation-flat_map : {X Y : Type 0} (f : X → List Y) (xs ys : List X) → IsPermutation xs ys → IsPermutation (flat_map f xs) (flat_map f ys)
IsPermutation-flat_map f =
    along_permutation (λ xs ys. IsPermutation (flat_map f xs) (flat_map f ys)) (λ xs. IsPermutation-refl _)
    (λ x xs ys h. IsPermutation-append_right (f x) _ _ h)
    (λ x y xs. subst (λ l. IsPermutation l (f y ++ (f x ++ flat_map f xs))) (append_assoc (f x) (f y) (flat_map f xs))
    (subst (λ l. IsPermutation ((f x ++ f y) ++ flat_map f xs) l) (append_assoc (f y) (f x) (flat_map f xs))
    (IsPermutation-append_left (flat_map f xs) (f x ++ f y) (f y ++ f x) (IsPermutation-append_comm (f x) (f y)))))
    (λ xs ys zs. IsPermutation-trans _ _ _)

-- the middle of a list to the front
to_front : {Y : Type 0} (xs ys zs : List Y) → IsPermutation (xs ++ (ys ++ zs)) (ys ++ (xs ++ zs))
to_front xs ys zs =
    subst (λ l. IsPermutation l (ys ++ (xs ++ zs))) (append_assoc xs ys zs)
    (subst (λ l. IsPermutation ((xs ++ ys) ++ zs) l) (append_assoc ys xs zs) (IsPermutation-append_left zs (xs ++ ys) (ys ++ xs) (IsPermutation-append_comm xs ys)))

module _ {T : Type 0} where
  -- an entry at an index, and what is before and behind it
  pub record IsSplit (es : List (At × T)) (i : ℕ) (e : At × T) : Type 0 where
    pub front : List (At × T)
    pub back : List (At × T)
    pub is : es ≡ front ++ e ∷ back
    pub put : (one : T) → set_value_at es i one ≡ front ++ (e.0, one) ∷ back

  pub split_at : (es : List (At × T)) (i : ℕ) (e : At × T) → slice_get es i ≡ Some e → IsSplit es i e
  split_at [] i e h = absurd (cc)
  split_at (x ∷ es) zero e h = record {
    front = [];
    back = es;
    is = ap (λ (y : At × T). y ∷ es) same;
    put = λ one. ap (λ (y : At × T). (y.0, one) ∷ es) same;
  }
    where
      same : x ≡ e
      same = cc
  split_at (x ∷ es) (suc i) e h =
      let s = split_at es i e h in
      record {
        front = x ∷ s.front;
        back = s.back;
        is = ap (λ (l : List (At × T)). x ∷ l) s.is;
        put = λ one. ap (λ (l : List (At × T)). x ∷ l) (s.put one);
      }

  flat_map-split : {Y : Type 0} (f : At × T → List Y) (front back : List (At × T)) (e : At × T) → IsPermutation (flat_map f (front ++ e ∷ back)) (f e ++ (flat_map f front ++ flat_map f back))
  flat_map-split f front back e =
      subst (λ l. IsPermutation l (f e ++ (flat_map f front ++ flat_map f back))) (sym (flat_map-append f front (e ∷ back))) (to_front (flat_map f front) (f e) (flat_map f back))

  -- one entry's value is put in place of another's
  exchanged : {Y : Type 0} (f : At × T → List Y) (es : List (At × T)) (i : ℕ) (e : At × T) (one : T) → slice_get es i ≡ Some e →
      IsPermutation (f (e.0, one) ++ flat_map f es) (f e ++ flat_map f (set_value_at es i one))
  exchanged f es i e one h =
      let s = split_at es i e h in
      let rest = flat_map f s.front ++ flat_map f s.back in
      let old : IsPermutation (flat_map f es) (f e ++ rest) = subst (λ l. IsPermutation (flat_map f l) (f e ++ rest)) (sym s.is) (flat_map-split f s.front s.back e) in
      let new : IsPermutation (flat_map f (set_value_at es i one)) (f (e.0, one) ++ rest) =
      subst (λ l. IsPermutation (flat_map f l) (f (e.0, one) ++ rest)) (sym (s.put one)) (flat_map-split f s.front s.back (e.0, one)) in
      IsPermutation-trans _ _ _ (IsPermutation-append_right (f (e.0, one)) _ _ old)
      (IsPermutation-trans _ _ _ (to_front (f (e.0, one)) (f e) rest) (IsPermutation-append_right (f e) _ _ (IsPermutation-sym _ _ new)))

  -- the last one of a name is taken out
  pub without_last : (owner : List ℕ) (number : ℕ) (one : T) (before after : List (At × T)) → IsPermutation before ((at owner number, one) ∷ after) → IsWithout owner number one before after
  without_last owner number one before after moved = λ f blind. IsPermutation-flat_map f _ _ moved

  -- the last one comes in the place of another
  pub without_other : (owner : List ℕ) (number last : ℕ) (one other : T) (before middle : List (At × T)) (i : ℕ) → number ≤ last →
      IsPermutation before ((at owner last, other) ∷ middle) → slice_get middle i ≡ Some (at owner number, one) → IsWithout owner number one before (set_value_at middle i other)
  without_other owner number last one other before middle i least moved there = λ f blind.
      IsPermutation-trans _ _ _ (IsPermutation-flat_map f _ _ moved)
      (subst (λ l. IsPermutation (l ++ flat_map f middle) (f (at owner number, one) ++ flat_map f (set_value_at middle i other))) (sym (blind last other least))
      (exchanged f middle i (at owner number, one) other there))

  -- ---- what is of each

  each_put : (P : At × T → Type 0) (front back : List (At × T)) (e other : At × T) → P other → AllByRecursion P (front ++ e ∷ back) → AllByRecursion P (front ++ other ∷ back)
  each_put P [] back e other p h = (p, h.1)
  each_put P (x ∷ front) back e other p h = (h.0, each_put P front back e other p h.1)

  pub owned_after : (test : List ℕ → T → Bool) (before after : List (At × T)) (e : At × T) → IsPermutation before (e ∷ after) → AllOwned test before → (test e.0.owner e.1 ≡ true) × AllOwned test after
  owned_after test before after e moved owned =
      recursion_from_All (λ (x : At × T). test x.0.owner x.1 ≡ true) (e ∷ after) (All-permutation (λ (x : At × T). test x.0.owner x.1 ≡ true) before (e ∷ after) moved (All-from_recursion (λ (x : At × T). test x.0.owner x.1 ≡ true) before owned))

  pub owned_put : (test : List ℕ → T → Bool) (es : List (At × T)) (i : ℕ) (e : At × T) (one : T) → slice_get es i ≡ Some e → test e.0.owner one ≡ true → AllOwned test es → AllOwned test (set_value_at es i one)
  owned_put test es i e one there passes owned =
      let s = split_at es i e there in
      subst (AllOwned test) (sym (s.put one)) (each_put (λ (x : At × T). test x.0.owner x.1 ≡ true) s.front s.back e (e.0, one) passes (subst (AllOwned test) s.is owned))

  -- ---- no gap

  some_is : (o : Option T) (b : Bool) → IsSome (cond b None o) → (b ≡ false) × IsSome o
  some_is o true h = absurd (false≢true h)
  some_is o false h = (refl, h)

  -- without the last number of a name there is still no gap
  pub gapless_without : (owner : List ℕ) (last : ℕ) (before after : List (At × T)) → HaveNoGap before → found owner (suc last) before ≡ None →
      ((place : At) → lookup (at_eq place) after ≡ cond (at_eq (at owner last) place) None (lookup (at_eq place) before)) → HaveNoGap after
  gapless_without owner last before after gapless none left name number some =
      let above = some_is (found name (suc number) before) (at_eq (at owner last) (at name (suc number))) (subst IsSome (left (at name (suc number))) some) in
      let there : IsSome (found name number before) = gapless name number above.1 in
      subst IsSome (sym (left (at name number))) (kept (at_eq (at owner last) (at name number)) refl above.1 there)
    where
      no : (o : Option T) → o ≡ None → IsSome o → ⊥
      no None e h = false≢true h
      no (Some x) e h = cc

      kept : (b : Bool) → at_eq (at owner last) (at name number) ≡ b → IsSome (found name (suc number) before) → IsSome (found name number before) → IsSome (cond b None (found name number before))
      kept true e above there =
          let same : at owner last ≡ at name number = at_same (at owner last) (at name number) e in
          absurd (no (found name (suc number) before) (subst (λ (k : At). found k.owner (suc k.number) before ≡ None) same none) above)
      kept false e above there = there

  pub found_without : (owner : List ℕ) (last number : ℕ) (before after : List (At × T)) → number ≢ last →
      ((place : At) → lookup (at_eq place) after ≡ cond (at_eq (at owner last) place) None (lookup (at_eq place) before)) → found owner number after ≡ found owner number before
  found_without owner last number before after apart left =
      left (at owner number)
      ∙ ap (λ (b : Bool). cond b None (found owner number before))
      (false_from_ne_true (at_eq (at owner last) (at owner number)) (λ e. apart (sym (ap (λ (k : At). k.number) (at_same (at owner last) (at owner number) e)))))

  -- ---- the entry that is taken out

  entry_of : (es : List (At × T)) (i : ℕ) (k : At) (one : T) → slice_get (keys_of es) i ≡ Some k → slice_get (values_of es) i ≡ Some one → slice_get es i ≡ Some (k, one)
  entry_of [] i k one h j = absurd (cc)
  entry_of (e ∷ es) zero k one h j =
      let first : e.0 ≡ k = cc in
      let second : e.1 ≡ one = cc in
      λ i. Some (first i, second i)
  entry_of (e ∷ es) (suc i) k one h j = entry_of es i k one h j

  pub record IsTakenAt (es after : List (At × T)) (k : At) (one : T) (hole : ℕ) : Type 0 where
    pub moved : IsPermutation es ((k, one) ∷ after)
    pub hole_within : hole < length es
    pub swapped : after ≡ swap_remove es hole (k, one)

  pub taken_at : (es after : List (At × T)) (k stored : At) (one : T) (hole : ℕ) → Some hole ≡ position (at_eq k) (keys_of es) → Some stored ≡ lookup_key (at_eq k) es → Some one ≡ lookup (at_eq k) es →
      after ≡ swap_remove_entry (at_eq k) es → IsTakenAt es after k one hole
  taken_at es after k stored one hole index key value is = record {
    moved = subst (λ l. IsPermutation es ((k, one) ∷ l)) (sym swapped) (IsPermutation-swap_remove es hole (k, one) f.within (sym (get_or_from_slice_get es hole (k, one) (k, one) there)));
    hole_within = f.within;
    swapped = swapped;
  }
    where
      f : Found (at_eq k) es hole
      f = Found-position (at_eq k) es hole (sym index)

      same : k ≡ stored
      same = at_same k stored (lookup_key_passes (at_eq k) es stored (sym key))

      there : slice_get es hole ≡ Some (k, one)
      there = entry_of es hole k one (sym f.key ∙ sym key ∙ ap Some (sym same)) (sym f.value ∙ sym value)

      swapped : after ≡ swap_remove es hole (k, one)
      swapped = is ∙ swap_remove_entry-found (at_eq k) es hole (k, one) (sym index)

  -- ---- the entry of an index that a look-up found

  pub entry_at : (es : List (At × T)) (k : At) (i : ℕ) (one : T) → Some i ≡ position (at_eq k) (keys_of es) → Some one ≡ lookup (at_eq k) es → slice_get es i ≡ Some (k, one)
  entry_at es k i one index value = entry_of es i k one (of (lookup_key (at_eq k) es) refl) (sym f.value ∙ sym value)
    where
      f : Found (at_eq k) es i
      f = Found-position (at_eq k) es i (sym index)

      of : (o : Option At) → lookup_key (at_eq k) es ≡ o → slice_get (keys_of es) i ≡ Some k
      of None e = absurd (some_none (get_or (keys_of es) i k) (sym (slice_get-get_or (keys_of es) i k within) ∙ sym f.key ∙ e))
        where
          within : i < length (keys_of es)
          within = subst (λ (n : ℕ). i < n) (sym (length-map es (λ (x : At × T). x.0))) f.within

          some_none : (x : At) → ◌≡◌ {A = Option At} (Some x) None → ⊥
          some_none x q = cc
      of (Some stored) e = sym f.key ∙ e ∙ ap Some (sym (at_same k stored (lookup_key_passes (at_eq k) es stored e)))

  -- ---- entries with the same keys

  pub keys-set_value_at : (es : List (At × T)) (i : ℕ) (one : T) → keys_of (set_value_at es i one) ≡ keys_of es
  keys-set_value_at [] i one = refl
  keys-set_value_at (e ∷ es) zero one = refl
  keys-set_value_at (e ∷ es) (suc i) one = ap (λ (l : List At). e.0 ∷ l) (keys-set_value_at es i one)

  pub length-put : (es : List (At × T)) (i : ℕ) (one : T) → length (set_value_at es i one) ≡ length es
  length-put [] i one = refl
  length-put (e ∷ es) zero one = refl
  length-put (e ∷ es) (suc i) one = ap suc (length-put es i one)

  pub some_by_keys : (one other : List (At × T)) → keys_of one ≡ keys_of other → (owner : List ℕ) (number : ℕ) → IsSome (found owner number one) → IsSome (found owner number other)
  some_by_keys one other same owner number some =
      is_some-lookup (at_eq (at owner number)) other ∙ ap (Rattle.std.specs.List.list_any (at_eq (at owner number))) (sym same) ∙ sym (is_some-lookup (at_eq (at owner number)) one) ∙ some

  pub gapless_by_keys : (one other : List (At × T)) → keys_of one ≡ keys_of other → HaveNoGap one → HaveNoGap other
  gapless_by_keys one other same gapless owner number some =
      some_by_keys one other same owner number (gapless owner number (some_by_keys other one (sym same) owner (suc number) some))

  -- ---- one value taken out of filed ones

  pub filed_without : (owner : List ℕ) (last : ℕ) (before after : List (At × T)) → AreFiled before → found owner (suc last) before ≡ None →
      ((place : At) → lookup (at_eq place) after ≡ cond (at_eq (at owner last) place) None (lookup (at_eq place) before)) → IsDistinct at_eq (keys_of after) → AreFiled after
  filed_without owner last before after filed none left distinct = record { distinct = distinct; gapless = gapless_without owner last before after filed.gapless none left }

  pub filed_put : (es : List (At × T)) (i : ℕ) (one : T) → AreFiled es → AreFiled (set_value_at es i one)
  filed_put es i one filed = record {
    distinct = subst (IsDistinct at_eq) (sym (keys-set_value_at es i one)) filed.distinct;
    gapless = gapless_by_keys es (set_value_at es i one) (sym (keys-set_value_at es i one)) filed.gapless;
  }

  some_one : (o : Option T) → IsSome o → (one : T) × (o ≡ Some one)
  some_one None h = absurd (false≢true h)
  some_one (Some one) h = (one, refl)

  -- what a look-up of an index tells
  pub found_at : (es : List (At × T)) (k : At) (o : Option ℕ) → o ≡ position (at_eq k) (keys_of es) → is_some o ≡ is_some (lookup (at_eq k) es) →
      IfSome o (λ i. slice_get (values_of es) i ≡ lookup (at_eq k) es) → IfSome o (λ i. IsFoundAt k i es)
  found_at es k None index some value = tt
  found_at es k (Some i) index some value =
      let one = some_one (lookup (at_eq k) es) (sym some) in
      (one.0, entry_at es k i one.0 index (sym one.1), one.1)
