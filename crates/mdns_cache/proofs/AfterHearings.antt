-- Hearings of records in another order.
use Rattle.std.proofs.Common.{◌≡◌, ℕ, Bool, true, false, cond, List, [], ◌∷◌, ◌++◌, map, filter, nat_lt, ◌+◌, ◌&&◌, count_by, length, sym, ap, subst, ◌∙◌, IsPermutation}
use Rattle.std.proofs.lemmas.List.Sums.{length-filter}
use Rattle.std.proofs.lemmas.List.Sorted.{length_permutation, IsPermutation-sym, IsPermutation-trans, IsPermutation-map, IsPermutation-append_left}
use Rattle.std.specs.Map.{values_of}
use Rattle.mdns_cache.specs.Named.{Entry}
use Rattle.by_name.specs.Filed.{in_layers}
use Rattle.by_name.proofs.Layers.{in_layers-permutes}
use Rattle.lists.proofs.Permutations.{IsPermutation-filter}
use Rattle.dns_record.specs.declared.record.Rr.{Rr}
use Rattle.mdns_history.specs.declared.held.Held.{Held}
use Rattle.mdns_history.specs.Hearings.{Hearing}
use Rattle.mdns_history.specs.Lifetimes.{is_live_at, is_other}
use Rattle.mdns_cache.specs.Lifetimes.{hearing_at, renewed, shortened, after_hearing, after_hearings, count_renewed}
use Rattle.mdns_cache.proofs.Counting.{is_left, length-after_hearings}
use Rattle.mdns_cache.proofs.ListLemmas.{filter-filter}

pub after_hearing-permuted : (hearing : Hearing) (one other : List Held) → IsPermutation one other → IsPermutation (after_hearing one hearing) (after_hearing other hearing)
after_hearing-permuted hearing one other moved = of (nat_lt 0 hearing.rr.ttl)
  where
    of : (b : Bool) → IsPermutation (cond b (map (shortened hearing) (filter (is_other hearing.rr) one) ++ renewed hearing ∷ []) (map (shortened hearing) one))
        (cond b (map (shortened hearing) (filter (is_other hearing.rr) other) ++ renewed hearing ∷ []) (map (shortened hearing) other))
    of true = IsPermutation-append_left (renewed hearing ∷ []) _ _ (IsPermutation-map (shortened hearing) _ _ (IsPermutation-filter (is_other hearing.rr) _ _ moved))
    of false = IsPermutation-map (shortened hearing) _ _ moved

pub after_hearings-permuted : (heard : List Hearing) (one other : List Held) → IsPermutation one other → IsPermutation (after_hearings one heard) (after_hearings other heard)
after_hearings-permuted [] one other moved = moved
after_hearings-permuted (hearing ∷ heard) one other moved = after_hearings-permuted heard (after_hearing one hearing) (after_hearing other hearing) (after_hearing-permuted hearing one other moved)

-- counts don't depend on the order
pub count_permuted : (p : Held → Bool) (one other : List Held) → IsPermutation one other → count_by p one ≡ count_by p other
count_permuted p one other moved =
    sym (length-filter p one) ∙ sym (length_permutation (filter p one) (filter p other) (IsPermutation-filter p one other moved)) ∙ length-filter p other

-- what is held after hearings, told of the records that are held
pub heard_in : (heard : List Hearing) (held : List Held) (before after : List Entry) → in_layers before ≡ held → IsPermutation (after_hearings (values_of before) heard) (values_of after) →
    IsPermutation (after_hearings held heard) (in_layers after)
heard_in heard held before after was moved =
    subst (λ (l : List Held). IsPermutation (after_hearings l heard) (in_layers after)) was
    (IsPermutation-trans _ _ _ (after_hearings-permuted heard (in_layers before) (values_of before) (in_layers-permutes before)) (IsPermutation-trans _ _ _ moved (IsPermutation-sym _ _ (in_layers-permutes after))))

-- how many are held after hearings, where what has ended is gone before
pub length-after_ended : (moment word : ℕ) (rrs : List Rr) (held : List Held) →
    length (after_hearings (filter (is_live_at moment) held) (map (hearing_at moment word) rrs)) ≡ count_by (λ one. is_live_at moment one && is_left rrs one) held + count_renewed rrs
length-after_ended moment word rrs held =
    length-after_hearings moment word rrs (filter (is_live_at moment) held)
    ∙ ap (λ (n : ℕ). n + count_renewed rrs) (ap length (filter-filter (is_left rrs) (is_live_at moment) held) ∙ length-filter (λ one. is_live_at moment one && is_left rrs one) held)
