-- The first record that ends, whatever the order.
use Rattle.std.proofs.Common.{◌≡◌, ℕ, zero, suc, ◌<◌, ◌≤◌, cond, nat_lt, eqb, Bool, true, false, List, [], ◌∷◌, map, Some, slice_get, refl, sym, ap, subst, ◌∙◌, arith, IsPermutation, Less, Equal, Greater}
use Rattle.std.specs.List.{AllByRecursion, HoldsAt, flat_map}
use Rattle.std.specs.Map.{values_of}
use Rattle.std.specs.Ordering.{is_le, ordering_then}
use Rattle.std.proofs.lemmas.Bool.{ltb-true, eqb-true, false≢true}
use Rattle.std.proofs.lemmas.List.Elements.{All-from_recursion, recursion_from_All}
use Rattle.std.proofs.lemmas.List.Sorted.{All-permutation, IsPermutation-sym, IsPermutation-trans, IsPermutation-cons}
use Rattle.std.proofs.lemmas.Option.{get_or_from_slice_get}
use Rattle.lists.specs.Lists.{least_of}
use Rattle.dns_record.specs.Records.{record_cmp}
use Rattle.mdns_history.specs.declared.held.Held.{Held}
use Rattle.mdns_cache.specs.Lifetimes.{AllLive, IsFirstEnded, ending_cmp, next_end_of}
use Rattle.mdns_cache.proofs.ListLemmas.{each-weaker}
use Rattle.mdns_cache.proofs.LeastEnd.{next_end_of-permutation}
use Rattle.mdns_cache.specs.Ends.{IsFirst}
use Rattle.mdns_cache.specs.Named.{Entry}
use Rattle.by_name.specs.Filed.{in_layers, IsWithout}
use Rattle.by_name.proofs.Layers.{in_layers-permutes}

-- what is of each is so in another order
pub each-permuted : (P : Held → Type 0) (one other : List Held) → IsPermutation one other → AllByRecursion P one → AllByRecursion P other
each-permuted P one other moved h = recursion_from_All P other (All-permutation P one other moved (All-from_recursion P one h))

-- what comes first ends first
pub first_ends : (one other : Held) → is_le (ending_cmp one other) ≡ true → one.end ≤ other.end
first_ends one other h = of (nat_lt one.end other.end) (eqb one.end other.end) refl refl h
  where
    of : (b c : Bool) → nat_lt one.end other.end ≡ b → eqb one.end other.end ≡ c → is_le (ordering_then (cond b Less (cond c Equal Greater)) (record_cmp one.rr other.rr)) ≡ true → one.end ≤ other.end
    of true c p q h = let less = ltb-true one.end other.end p in omega arith
    of false true p q h = let same = eqb-true one.end other.end q in omega arith
    of false false p q h = absurd (false≢true h)

-- where the first hasn't ended, none has
pub all_live : (moment : ℕ) (es : List Entry) (one : Held) → IsFirst (values_of es) one → moment < one.end → AllLive moment (in_layers es)
all_live moment es one first later =
    each-permuted (λ other. moment < other.end) (values_of es) (in_layers es) (IsPermutation-sym _ _ (in_layers-permutes es))
    (each-weaker (λ other. moment < other.end) (λ other. is_le (ending_cmp one other) ≡ true) (λ other h. let k = first_ends one other h in omega (arith, k, later)) (values_of es) first)

pub none_live : (moment : ℕ) (es : List Entry) → values_of es ≡ [] → AllLive moment (in_layers es)
none_live moment es e =
    each-permuted (λ other. moment < other.end) (values_of es) (in_layers es) (IsPermutation-sym _ _ (in_layers-permutes es)) (subst (AllLive moment) (sym e) tt)

pub first_ended : (moment : ℕ) (es : List Entry) (one : Held) → IsFirst (values_of es) one → one.end ≤ moment → IsFirstEnded moment (in_layers es) one
first_ended moment es one first ended = record {
  ended = ended;
  first = each-permuted (λ other. other.end ≤ moment → is_le (ending_cmp one other) ≡ true) (values_of es) (in_layers es) (IsPermutation-sym _ _ (in_layers-permutes es))
      (each-weaker (λ other. other.end ≤ moment → is_le (ending_cmp one other) ≡ true) (λ other. is_le (ending_cmp one other) ≡ true) (λ other h k. h) (values_of es) first);
}

singles : (es : List Entry) → flat_map (λ (e : Entry). e.1 ∷ []) es ≡ values_of es
singles [] = refl
singles (e ∷ es) = ap (λ (l : List Held). e.1 ∷ l) (singles es)

-- what is taken out is taken from the values
pub values_without : (owner : List ℕ) (number : ℕ) (one : Held) (before after : List Entry) → IsWithout owner number one before after → IsPermutation (values_of before) (one ∷ values_of after)
values_without owner number one before after without =
    let moved = without (λ (e : Entry). e.1 ∷ []) (λ more other least. refl) in
    subst (λ (l : List Held). IsPermutation l (one ∷ values_of after)) (singles before) (subst (λ (l : List Held). IsPermutation (flat_map (λ (e : Entry). e.1 ∷ []) before) (one ∷ l)) (singles after) moved)

-- and from the held records
pub held_without : (owner : List ℕ) (number : ℕ) (one : Held) (before after : List Entry) → IsWithout owner number one before after → IsPermutation (in_layers before) (one ∷ in_layers after)
held_without owner number one before after without =
    IsPermutation-trans _ _ _ (in_layers-permutes before) (IsPermutation-trans _ _ _ (values_without owner number one before after without) (IsPermutation-cons one _ _ (IsPermutation-sym _ _ (in_layers-permutes after))))

-- ---- the least end

-- the least of a number and of those in a list is one that none is below
least_low : (low n : ℕ) (held : List Held) → low ≤ n → AllByRecursion (λ (other : Held). low ≤ other.end) held → low ≤ least_of n (map (λ (other : Held). other.end) held)
least_low low n [] h all = h
least_low low n (x ∷ held) h all = let k = least_low low n held h all.1 in omega (arith, k, all.0)

least_high : (n place : ℕ) (one : Held) (held : List Held) → slice_get held place ≡ Some one → least_of n (map (λ (other : Held). other.end) held) ≤ one.end
least_high n place one [] there = absurd (cc)
least_high n zero one (x ∷ held) there = let same : x ≡ one = cc in let e : x.end ≡ one.end = ap (λ (h : Held). h.end) same in omega (arith, e)
least_high n (suc place) one (x ∷ held) there = let k = least_high n place one held there in omega (arith, k)

least_first : (n : ℕ) (held : List Held) → least_of n (map (λ (other : Held). other.end) held) ≤ n
least_first n [] = omega arith
least_first n (x ∷ held) = let k = least_first n held in omega (arith, k)

pub least_found : (held : List Held) (place : ℕ) (one : Held) → slice_get held place ≡ Some one → AllByRecursion (λ (other : Held). one.end ≤ other.end) held → next_end_of held ≡ Some one.end
least_found [] place one there all = absurd (cc)
least_found (x ∷ held) zero one there all =
    let same : x ≡ one = cc in
    let e : x.end ≡ one.end = ap (λ (h : Held). h.end) same in
    let low = least_low one.end x.end held all.0 all.1 in
    let high = least_first x.end held in
    ap Some (let r : least_of x.end (map (λ (other : Held). other.end) held) ≡ one.end = omega (arith, e, low, high) in r)
least_found (x ∷ held) (suc place) one there all =
    let low = least_low one.end x.end held all.0 all.1 in
    let high = least_high x.end place one held there in
    ap Some (let r : least_of x.end (map (λ (other : Held). other.end) held) ≡ one.end = omega (arith, low, high) in r)

pub least_end_is : (es : List Entry) (place : ℕ) (one : Held) → slice_get (values_of es) place ≡ Some one → IsFirst (values_of es) one → next_end_of (in_layers es) ≡ Some one.end
least_end_is es place one there first = next_end_of-permutation (in_layers es) (values_of es) (in_layers-permutes es) ∙ least_found (values_of es) place one there (each-weaker (λ other. one.end ≤ other.end) (λ other. is_le (ending_cmp one other) ≡ true) (λ other h. first_ends one other h) (values_of es) first)

-- the record at the place that was found
pub first_at : (held : List Held) (place : ℕ) (one : Held) → HoldsAt (IsFirst held) held place → slice_get held place ≡ Some one → IsFirst held one
first_at held place one holds there = subst (IsFirst held) (get_or_from_slice_get held place one one there) (holds one)

pub value_at : (es : List Entry) (i : ℕ) (e : Entry) → slice_get es i ≡ Some e → slice_get (values_of es) i ≡ Some e.1
value_at [] i e h = absurd (cc)
value_at (x ∷ es) zero e h = let same : x ≡ e = cc in ap (λ (y : Entry). Some y.1) same
value_at (x ∷ es) (suc i) e h = value_at es i e h
