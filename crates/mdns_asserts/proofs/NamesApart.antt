-- The live groups of a legal history have different numbers and different names, as a test of their list.
use Rattle.std.proofs.Common.{◌≡◌, ◌==◌, inl, inr, Bool, true, false, not, List, [], ◌∷◌, refl, sym}
use Rattle.std.specs.List.{list_all}
use Rattle.dns_name.specs.Names.{folded_eq}
use Rattle.mdns_history.specs.declared.entry.Entry.{Entry}
use Rattle.mdns_history.specs.Groups.{Group, groups, group_name}
use Rattle.mdns_asserts.specs.Names.{are_apart, all_apart, HaveNamesApart}
use Rattle.mdns_asserts.proofs.Elements.{In, all_in, and_both, not_false}
use Rattle.mdns_asserts.proofs.Distinct.{are_distinct}
use Rattle.mdns_asserts.proofs.Numbered.{HaveNumbers, other_id}
use Rattle.mdns_asserts.proofs.HeldNames.{AreDistinct}

apart_each : (h : List Entry) (gs : List Group) → HaveNumbers gs → ((a b : Group) → In a gs → In b gs → folded_eq (group_name a h) (group_name b h) ≡ true → a.id ≡ b.id) → all_apart h gs ≡ true
apart_each h [] numbers names = refl
apart_each h (g ∷ gs) numbers names =
    and_both (list_all (are_apart h g) gs) (all_apart h gs)
    (all_in (are_apart h g) gs (λ other m. and_both (not (g.id == other.id)) (not (folded_eq (group_name g h) (group_name other h))) (not_false (g.id == other.id) (other_id g.id other.id (λ e. absurd (numbers.0 other m (sym e))))) (of other m (folded_eq (group_name g h) (group_name other h)) refl)))
    (apart_each h gs numbers.1 (λ a b m n e. names a b (inr m) (inr n) e))
  where
    of : (other : Group) → In other gs → (b : Bool) → folded_eq (group_name g h) (group_name other h) ≡ b → not b ≡ true
    of other m true e = absurd (numbers.0 other m (sym (names g other (inl refl) (inr m) e)))
    of other m false e = refl

pub names_apart : HaveNamesApart
names_apart duties h legal = let d : AreDistinct h = are_distinct duties h legal in apart_each h (groups h) d.numbers d.names
