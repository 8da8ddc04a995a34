-- Types are read from what they are written as, and from nothing else.
use Rattle.std.proofs.Common.{◌≡◌, ℕ, ◌<◌, ◌^◌, ◌++◌, ◌∙◌, inl, inr, Bool, true, false, cond, List, [], ◌∷◌, ltb, Option, Some, None, take, drop, refl, sym, ap, subst, arith}
use Rattle.std.specs.Prelude.{decimal, codes, is_some, option_and_then}
use Rattle.std.specs.List.{find, list_all}
use Rattle.std.specs.Option.{option_map_or, option_or, unwrap_or}
use Rattle.std.specs.Str.{bytes_eq}
use Rattle.std.proofs.lemmas.Bool.{and_parts, cases_eq, ne_eqb, false≢true, ltb-true}
use Rattle.std.proofs.lemmas.List.{take-append-drop}
use Rattle.std.proofs.lemmas.Option.{option_and_then_some}
use Rattle.std.proofs.lemmas.Slice.Eq.{bytes_eq-Decides}
use Rattle.number_text.specs.Digits.{IsReadFrom, decimal_below}
use Rattle.number_text.proofs.Joined.{lacks}
use Rattle.number_text.proofs.Decimals.{decimal_below_written, decimal_below_exact, decimal_lacks}
use Rattle.dns_record.specs.RecordText.{kind_name, kind_text}
use Rattle.dns_record.specs.ReadRecord.{named_kinds, is_name_of, numbered_kind, kind_read}

unnamed : (k : ℕ) → (k ≡ 1 → ⊥) → (k ≡ 2 → ⊥) → (k ≡ 5 → ⊥) → (k ≡ 6 → ⊥) → (k ≡ 12 → ⊥) → (k ≡ 13 → ⊥) → (k ≡ 15 → ⊥) → (k ≡ 16 → ⊥)
    → (k ≡ 28 → ⊥) → (k ≡ 33 → ⊥) → (k ≡ 41 → ⊥) → (k ≡ 47 → ⊥) → (k ≡ 255 → ⊥) → kind_name k ≡ None
unfolding kind_name
unnamed k a b c d e f g h i j l m n =
    rw (
      ne_eqb k 1 a,
      ne_eqb k 2 b,
      ne_eqb k 5 c,
      ne_eqb k 6 d,
      ne_eqb k 12 e,
      ne_eqb k 13 f,
      ne_eqb k 15 g,
      ne_eqb k 16 h,
      ne_eqb k 28 i,
      ne_eqb k 33 j,
      ne_eqb k 41 l,
      ne_eqb k 47 m,
      ne_eqb k 255 n,
    ) refl

-- a type is one of those that have a name, or has none
pub kind_cases : (P : ℕ → Type 0) → P 1 → P 2 → P 5 → P 6 → P 12 → P 13 → P 15 → P 16 → P 28 → P 33 → P 41 → P 47 → P 255
    → ((k : ℕ) → kind_name k ≡ None → P k) → (k : ℕ) → P k
kind_cases P a b c d e f g h i j l m n other k =
    at 1 a (λ a'. at 2 b (λ b'. at 5 c (λ c'. at 6 d (λ d'. at 12 e (λ e'. at 13 f (λ f'. at 15 g (λ g'. at 16 h (λ h'.
    at 28 i (λ i'. at 33 j (λ j'. at 41 l (λ l'. at 47 m (λ m'. at 255 n (λ n'.
    other k (unnamed k a' b' c' d' e' f' g' h' i' j' l' m' n'))))))))))))))
  where
    at : (v : ℕ) → P v → ((k ≡ v → ⊥) → P k) → P k
    at v here there = elim (cases_eq k v) [ inl e ↦ subst P (sym e) here | inr ne ↦ there ne ]

-- what a type is written as is read as that type, and has no space
pub record IsKindText (k : ℕ) : Type 0 where
  pub read : k < 2 ^ 16 → kind_read (kind_text k) ≡ Some k
  pub whole : k < 2 ^ 16 → lacks 32 (kind_text k) ≡ false

no_name : (digits : List ℕ) → find (is_name_of (codes "TYPE" ++ digits)) named_kinds ≡ None
unfolding kind_name
no_name digits = refl

numbered_read : (k : ℕ) → kind_name k ≡ None → k < 2 ^ 16 → numbered_kind (codes "TYPE" ++ decimal k) ≡ Some k
unfolding numbered_kind
numbered_read k e h =
    ap (option_and_then (λ n. cond (is_some (kind_name n)) None (Some n))) (decimal_below_written (2 ^ 16) k (omega arith) h)
    ∙ ap (λ (o : Option (List ℕ)). cond (is_some o) None (Some k)) e

shown : (k : ℕ) → kind_name k ≡ None → kind_text k ≡ codes "TYPE" ++ decimal k
unfolding kind_text
shown k e = ap (λ (o : Option (List ℕ)). unwrap_or o (codes "TYPE" ++ decimal k)) e

numbered : (k : ℕ) → kind_name k ≡ None → IsKindText k
unfolding kind_read
numbered k e = record {
  read = λ h. ap kind_read (shown k e) ∙ (λ i. option_or (no_name (decimal k) i) (numbered_read k e h i));
  whole = λ h. ap (lacks 32) (shown k e) ∙ decimal_lacks 32 k refl (omega arith);
}

named : (k : ℕ) → kind_read (kind_text k) ≡ Some k → lacks 32 (kind_text k) ≡ false → IsKindText k
named k read whole = record { read = λ h. read; whole = λ h. whole }

pub kind_text-is : (k : ℕ) → IsKindText k
unfolding kind_read kind_text kind_name
kind_text-is k =
    kind_cases IsKindText (named 1 refl refl) (named 2 refl refl) (named 5 refl refl) (named 6 refl refl) (named 12 refl refl) (named 13 refl refl) (named 15 refl refl)
    (named 16 refl refl) (named 28 refl refl) (named 33 refl refl) (named 41 refl refl) (named 47 refl refl) (named 255 refl refl) numbered k

-- a type that is written is read
pub kind_written : (k : ℕ) → k < 2 ^ 16 → kind_read (kind_text k) ≡ Some k
kind_written k h = (kind_text-is k).read h

found : (p q : ℕ → Bool) (xs : List ℕ) (n : ℕ) → list_all q xs ≡ true → find p xs ≡ Some n → (p n ≡ true) × (q n ≡ true)
found p q [] n h e = absurd (cc)
found p q (x ∷ xs) n h e = at_test (p x) refl e (found p q xs n (and_parts (q x) (list_all q xs) h).1)
  where
    at_test : (t : Bool) → p x ≡ t → cond t (Some x) (find p xs) ≡ Some n → (find p xs ≡ Some n → (p n ≡ true) × (q n ≡ true)) → (p n ≡ true) × (q n ≡ true)
    at_test true here e ih =
        let same : x ≡ n = cc in
        (ap p (sym same) ∙ here, ap q (sym same) ∙ (and_parts (q x) (list_all q xs) h).0)
    at_test false here e ih = ih e

-- a name that is found is what the type is written as
name_found : (text : List ℕ) (n : ℕ) → is_name_of text n ≡ true → text ≡ kind_text n
unfolding kind_text
name_found text n h = at_name (kind_name n) h
  where
    at_name : (o : Option (List ℕ)) → option_map_or (λ name. bytes_eq name text) o false ≡ true → text ≡ unwrap_or o (codes "TYPE" ++ decimal n)
    at_name None h = absurd (false≢true h)
    at_name (Some name) h = sym ((bytes_eq-Decides name text).0 h)

number_found : (text : List ℕ) (n : ℕ) → numbered_kind text ≡ Some n → (n < 2 ^ 16) × (text ≡ kind_text n)
unfolding numbered_kind
number_found text n e = option_and_then_some _ _ _ e (λ m em h. at_prefix (bytes_eq (take 4 text) (codes "TYPE")) refl m em h)
  where
    at_name : (m : ℕ) (o : Option (List ℕ)) → kind_name m ≡ o → cond (is_some o) None (Some m) ≡ Some n → (kind_name n ≡ None) × (m ≡ n)
    at_name m (Some name) en h = absurd (cc)
    at_name m None en h = let same : m ≡ n = cc in (ap kind_name (sym same) ∙ en, same)

    at_prefix : (t : Bool) → bytes_eq (take 4 text) (codes "TYPE") ≡ t → (m : ℕ) → cond t (decimal_below (2 ^ 16) (drop 4 text)) None ≡ Some m
        → cond (is_some (kind_name m)) None (Some m) ≡ Some n → (n < 2 ^ 16) × (text ≡ kind_text n)
    at_prefix false et m em h = absurd (cc)
    at_prefix true et m em h =
        let front : take 4 text ≡ codes "TYPE" = (bytes_eq-Decides (take 4 text) (codes "TYPE")).0 et in
        let d = decimal_below_exact (2 ^ 16) (drop 4 text) (Some m) (omega arith) (sym em) in
        let named = at_name m (kind_name m) refl h in (
          subst (λ (k : ℕ). k < 2 ^ 16) named.1 d.0,
          sym (take-append-drop 4 text) ∙ (λ i. front i ++ d.1 i) ∙ ap (λ (k : ℕ). codes "TYPE" ++ decimal k) named.1 ∙ sym (shown n named.0),
        )

-- a type is read exactly from what it is written as
pub kind_exact : (text : List ℕ) (r : Option ℕ) → r ≡ kind_read text → IsReadFrom kind_text (2 ^ 16) text r
unfolding kind_read
kind_exact text None e = λ n h is. absurd (none_some n (e ∙ ap kind_read is ∙ kind_written n h))
  where
    none_some : (n : ℕ) → None ≡ Some n → ⊥
    none_some n h = cc
kind_exact text (Some n) e = at_found (find (is_name_of text) named_kinds) refl (sym e)
  where
    at_found : (o : Option ℕ) → find (is_name_of text) named_kinds ≡ o → option_or o (numbered_kind text) ≡ Some n → (n < 2 ^ 16) × (text ≡ kind_text n)
    at_found None ef h = number_found text n h
    at_found (Some m) ef h =
        let same : m ≡ n = cc in
        let f = found (is_name_of text) (λ k. ltb k (2 ^ 16)) named_kinds m refl ef in
        (subst (λ (k : ℕ). k < 2 ^ 16) same (ltb-true m (2 ^ 16) f.1), name_found text m f.0 ∙ ap kind_text same)
