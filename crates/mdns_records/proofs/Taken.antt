-- Records that have ended, taken out one after another.
use Rattle.std.proofs.Common.{◌≡◌, ℕ, suc, ◌+◌, ◌<◌, ◌≤◌, Bool, true, false, cond, not, List, [], ◌∷◌, length, filter, Option, Some, None, IfSome, refl, ap, sym, ◌∙◌, subst, arith, IsPermutation}
use Rattle.std.specs.Prelude.{IfNone}
use Rattle.std.specs.Option.{is_some}
use Rattle.std.proofs.lemmas.List.Sorted.{length_permutation, IsPermutation-sym}
use Rattle.lists.proofs.Permutations.{IsPermutation-filter}
use Rattle.mdns_history.specs.declared.held.Held.{Held}
use Rattle.mdns_history.specs.Lifetimes.{is_live_at}
use Rattle.mdns_cache.specs.Lifetimes.{IsFirstEnded, AllLive}
use Rattle.mdns_records.specs.Visits.{ended_in}

-- one record is taken out, so fewer are left
pub fewer : (o : Option Held) (before after : List Held) → is_some o ≡ true → IfSome o (λ one. IsPermutation before (one ∷ after)) → length after + 1 ≡ length before
fewer None before after some taken = cc
fewer (Some one) before after some taken = let same = length_permutation before (one ∷ after) taken in omega arith

-- and it wasn't live
pub live_left : (moment : ℕ) (o : Option Held) (before after : List Held) → is_some o ≡ true → IfSome o (IsFirstEnded moment before) → IfSome o (λ one. IsPermutation before (one ∷ after)) →
    IsPermutation (filter (is_live_at moment) after) (filter (is_live_at moment) before)
live_left moment None before after some first taken = cc
live_left moment (Some one) before after some first taken =
    let ended : one.end ≤ moment = first.ended in
    let gone : is_live_at moment one ≡ false = grind arith in
    let q = IsPermutation-filter (is_live_at moment) before (one ∷ after) taken in
    IsPermutation-sym _ _
    (subst (λ (b : Bool). IsPermutation (filter (is_live_at moment) before) (cond b (one ∷ filter (is_live_at moment) after) (filter (is_live_at moment) after))) gone q)

-- what is said of no record
pub of_none : {A : Type 0} (o : Option Held) → is_some o ≡ false → IfNone o A → A
of_none None none h = h
of_none (Some one) none h = cc

-- and of those that have ended there is one less
pub one_ended : (moment : ℕ) (o : Option Held) (before after : List Held) → is_some o ≡ true → IfSome o (IsFirstEnded moment before) → IfSome o (λ one. IsPermutation before (one ∷ after)) →
    length (ended_in moment before) ≡ length (ended_in moment after) + 1
one_ended moment None before after some first taken = cc
one_ended moment (Some one) before after some first taken =
    let ended : one.end ≤ moment = first.ended in
    let gone : is_live_at moment one ≡ false = grind arith in
    let q = IsPermutation-filter (λ (held : Held). not (is_live_at moment held)) before (one ∷ after) taken in
    let counted : length (ended_in moment before) ≡ length (cond (not (is_live_at moment one)) (one ∷ ended_in moment after) (ended_in moment after)) = sym (length_permutation _ _ q) in
    let here : length (cond (not (is_live_at moment one)) (one ∷ ended_in moment after) (ended_in moment after)) ≡ suc (length (ended_in moment after)) =
    ap (λ (b : Bool). length (cond (not b) (one ∷ ended_in moment after) (ended_in moment after))) gone in
    omega (arith, counted, here)

-- of records that are live none has ended
pub none_ended : (moment : ℕ) (held : List Held) → AllLive moment held → length (ended_in moment held) ≡ 0
none_ended moment [] live = refl
none_ended moment (one ∷ held) live =
    let lasts : moment < one.end = live.0 in
    let here : is_live_at moment one ≡ true = grind arith in
    ap (λ (b : Bool). length (cond (not b) (one ∷ ended_in moment held) (ended_in moment held))) here ∙ none_ended moment held live.1
