-- Loops over groups, one after another.
use Rattle.std.proofs.Common.{◌≡◌, ℕ, ◌+◌, ◌<◌, ◌≤◌, List, [], ◌∷◌, ◌++◌, map, length, get_or, set, take, arith, refl, ap, sym, subst, ◌∙◌, Option, Some, None, append-nil, append_assoc}
use Rattle.std.specs.List.{flat_map, cons_option}
use Rattle.std.specs.Option.{option_to_list}
use Rattle.std.proofs.lemmas.List.{take_more, map-append}
use Rattle.std.proofs.lemmas.List.Concat.{flat_map-append}
use Rattle.lists.specs.Lists.{least}
use Rattle.mdns_probe.specs.Kept.{Kept}
use Rattle.mdns_claimants.specs.declared.renewal.Renewal.{Renewal}
use Rattle.mdns_claimants.specs.Named.{with_renewal, with_renewals, IsNamed, AreNamed}

least_of_one : (o : Option ℕ) → o ≡ least (option_to_list o)
least_of_one None = refl
least_of_one (Some n) = refl

pub one_more : {X : Type 0} (f : X → List ℕ) (xs : List X) (n : ℕ) (x : X) (first then_first next : Option ℕ) → n < length xs → x ≡ get_or xs n x → option_to_list next ≡ f x →
    first ≡ least (flat_map f (take n xs)) → ((ones others : List ℕ) → first ≡ least ones → next ≡ least others → then_first ≡ least (ones ++ others)) → then_first ≡ least (flat_map f (take (n + 1) xs))
one_more f xs n x first then_first next within is e so_far joined =
    joined (flat_map f (take n xs)) (f x) so_far (least_of_one next ∙ ap least e)
    ∙ ap (λ l. least (flat_map f (take n xs) ++ l)) (sym (append-nil (f x)))
    ∙ ap least (sym (flat_map-append f (take n xs) (x ∷ [])))
    ∙ ap (λ l. least (flat_map f l)) (ap (λ y. take n xs ++ y ∷ []) is ∙ sym (take_more xs n x within))

-- a list with one that may be there behind it, and others behind that
pub behind_one : {X : Type 0} (xs ys : List X) (o : Option X) → (xs ++ option_to_list o) ++ ys ≡ xs ++ cons_option o ys
behind_one xs ys None = ap (λ l. l ++ ys) (append-nil xs)
behind_one xs ys (Some x) = append_assoc xs (x ∷ []) ys

-- no more renewals than groups
pub named_within : (renewals : List (Option Renewal)) (kept : List Kept) → AreNamed renewals kept → length renewals ≤ length kept
named_within [] kept named = omega arith
named_within (renewal ∷ renewals) [] named = absurd named
named_within (renewal ∷ renewals) (one ∷ kept) named = let rest : length renewals ≤ length kept = named_within renewals kept named.1 in omega (arith, rest)

-- the last renewal is for the group in its place
named_at : (renewals : List (Option Renewal)) (renewal : Option Renewal) (kept : List Kept) (d : Kept) → AreNamed (renewals ++ renewal ∷ []) kept → IsNamed (with_renewal renewal (get_or kept (length renewals) d))
named_at [] renewal [] d named = absurd named
named_at [] renewal (other ∷ kept) d named = named.0
named_at (first ∷ renewals) renewal [] d named = absurd named
named_at (first ∷ renewals) renewal (other ∷ kept) d named = named_at renewals renewal kept d named.1

done_at : (renewals : List (Option Renewal)) (renewal : Option Renewal) (kept : List Kept) (now d : Kept) → AreNamed (renewals ++ renewal ∷ []) kept → now ≡ with_renewal renewal (get_or kept (length renewals) d) →
    with_renewals renewals (set kept (length renewals) now) ≡ with_renewals (renewals ++ renewal ∷ []) kept
done_at [] renewal [] now d named is = absurd named
done_at [] renewal (other ∷ kept) now d named is = ap (λ k. k ∷ kept) is
done_at (first ∷ renewals) renewal [] now d named is = absurd named
done_at (first ∷ renewals) renewal (other ∷ kept) now d named is = ap (λ l. with_renewal first other ∷ l) (done_at renewals renewal kept now d named.1 is)

others_named : (renewals : List (Option Renewal)) (renewal : Option Renewal) (kept : List Kept) (now : Kept) → AreNamed (renewals ++ renewal ∷ []) kept → AreNamed renewals (set kept (length renewals) now)
others_named [] renewal kept now named = tt
others_named (first ∷ renewals) renewal [] now named = absurd named
others_named (first ∷ renewals) renewal (other ∷ kept) now named = (named.0, others_named renewals renewal kept now named.1)

pub last_named : (kept : List Kept) (before renewals : List (Option Renewal)) (renewal : Option Renewal) (i : ℕ) (d : Kept) → before ≡ renewals ++ renewal ∷ [] → i ≡ length renewals → AreNamed before kept →
    IsNamed (with_renewal renewal (get_or kept i d))
last_named kept before renewals renewal i d is at named =
    subst (λ (k : ℕ). IsNamed (with_renewal renewal (get_or kept k d))) (sym at) (named_at renewals renewal kept d (subst (λ (rs : List (Option Renewal)). AreNamed rs kept) is named))

-- what the last renewal leaves to do
pub record Leaves (kept : List Kept) (before renewals : List (Option Renewal)) (i : ℕ) (now : Kept) : Type 0 where
  pub done : with_renewals renewals (set kept i now) ≡ with_renewals before kept
  pub named : AreNamed renewals (set kept i now)

pub last_leaves : (kept : List Kept) (before renewals : List (Option Renewal)) (renewal : Option Renewal) (i : ℕ) (now d : Kept) → before ≡ renewals ++ renewal ∷ [] → i ≡ length renewals → AreNamed before kept →
    now ≡ with_renewal renewal (get_or kept i d) → Leaves kept before renewals i now
last_leaves kept before renewals renewal i now d is at named e =
    let named_here : AreNamed (renewals ++ renewal ∷ []) kept = subst (λ (rs : List (Option Renewal)). AreNamed rs kept) is named in
    subst (λ (k : ℕ). Leaves kept before renewals k now) (sym at) (record {
      done = done_at renewals renewal kept now d named_here (subst (λ (k : ℕ). now ≡ with_renewal renewal (get_or kept k d)) at e) ∙ ap (λ (rs : List (Option Renewal)). with_renewals rs kept) (sym is);
      named = others_named renewals renewal kept now named_here;
    })

pub none_of : {X : Type 0} (xs : List X) → length xs ≡ 0 → xs ≡ []
none_of [] h = refl
none_of (x ∷ xs) h = absurd (omega arith)

-- renewals of groups, one more
named_push : (f : Kept → Option Renewal) (kept : List Kept) (one : Kept) → AreNamed (map f kept) kept → IsNamed (with_renewal (f one) one) → AreNamed (map f (kept ++ one ∷ [])) (kept ++ one ∷ [])
named_push f [] one named new = (new, tt)
named_push f (other ∷ kept) one named new = (named.0, named_push f kept one named.1 new)

pub named_more : (f : Kept → Option Renewal) (kept : List Kept) (n : ℕ) (one : Kept) → n < length kept → one ≡ get_or kept n one → AreNamed (map f (take n kept)) (take n kept) → IsNamed (with_renewal (f one) one) →
    AreNamed (map f (take (n + 1) kept)) (take (n + 1) kept)
named_more f kept n one within is named new =
    subst (λ (ks : List Kept). AreNamed (map f ks) ks) (ap (λ k. take n kept ++ k ∷ []) is ∙ sym (take_more kept n one within)) (named_push f (take n kept) one named new)

pub mapped_more : (f : Kept → Option Renewal) (kept : List Kept) (n : ℕ) (one : Kept) (renewals after : List (Option Renewal)) (renewal : Option Renewal) → n < length kept → one ≡ get_or kept n one →
    renewals ≡ map f (take n kept) → renewal ≡ f one → after ≡ renewals ++ renewal ∷ [] → after ≡ map f (take (n + 1) kept)
mapped_more f kept n one renewals after renewal within is before e put =
    put ∙ (λ i. before i ++ e i ∷ []) ∙ sym (map-append f (take n kept) (one ∷ []))
    ∙ ap (map f) (ap (λ k. take n kept ++ k ∷ []) is ∙ sym (take_more kept n one within))
