-- An operation has at most one live group, and a live registration exactly one until that fails.
use Rattle.std.proofs.Common.{◌≡◌, ℕ, ◌≤◌, ◌==◌, ◌≢◌, inl, inr, Bool, true, false, ◌&&◌, ◌||◌, List, [], ◌∷◌, map, length, Some, refl, ap, subst, ◌∙◌, sym, arith}
use Rattle.mdns_history.specs.declared.entry.Entry.{Entry}
use Rattle.mdns_history.specs.InForce.{Duties}
use Rattle.mdns_history.specs.Sessions.{is_attached, operation_request}
use Rattle.mdns_history.specs.Groups.{Group, groups}
use Rattle.mdns_history.specs.Fitting.{IsLegal}
use Rattle.mdns_history.proofs.LegalReplay.{Holds, holds_from}
use Rattle.mdns_asserts.proofs.Elements.{In, in_filter, of_filter, all_in, both_no}
use Rattle.mdns_asserts.proofs.Numbered.{HaveNumbers, numbers_filter, own_id, some_eq}
use Rattle.mdns_asserts.proofs.HeldNames.{AreDistinct}
use Rattle.mdns_asserts.proofs.Distinct.{are_distinct}
use Rattle.mdns_groups.specs.Registered.{is_of, groups_of, is_registration, number_of_registration, has_failed, numbers_left, HaveGroups}
use Rattle.mdns_groups.proofs.Limits.{are_limited}
use Rattle.mdns_groups.proofs.Changes.{registers_in}
use Rattle.mdns_groups.proofs.Owned.{AreOwned, IsPresent, are_owned}

pub holds_of : (duties : Duties) (h : List Entry) → IsLegal duties h → Holds h
holds_of duties [] legal = absurd legal
holds_of duties (entry ∷ past) legal = holds_from duties entry past legal

of_is : (session op : ℕ) (group : Group) → is_of session op group ≡ true → (group.session ≡ session) × (group.op ≡ op)
of_is session op group h = of (group.session == session) refl (group.op == op) refl h
  where
    of : (a : Bool) → (group.session == session) ≡ a → (b : Bool) → (group.op == op) ≡ b → (a && b) ≡ true → (group.session ≡ session) × (group.op ≡ op)
    of true e true f k = (grind (arith, e), grind (arith, f))
    of true e false f k = cc
    of false e b f k = cc

is_of_own : (group : Group) (session op : ℕ) → group.session ≡ session → group.op ≡ op → is_of session op group ≡ true
is_of_own group session op e f = ap (λ s. (group.session == s) && (group.op == op)) (sym e) ∙ ap (λ o. (group.session == group.session) && (group.op == o)) (sym f) ∙ rw (own_id group.session, own_id group.op) refl

-- a list of groups with different numbers, all of one number
few_of_one : (gs : List Group) → HaveNumbers gs → ((a b : Group) → In a gs → In b gs → a.id ≡ b.id) → length gs ≤ 1
few_of_one [] numbers same = omega arith
few_of_one (g ∷ []) numbers same = omega arith
few_of_one (g ∷ other ∷ gs) numbers same = absurd (numbers.0 other (inl refl) (same other g (inr (inl refl)) (inl refl)))

numbers_one_of : (gs : List Group) (group : Group) → length gs ≤ 1 → In group gs → map (λ (g : Group). g.id) gs ≡ group.id ∷ []
numbers_one_of [] group few m = absurd m
numbers_one_of (g ∷ []) group few (inl e) = ap (λ (x : Group). x.id ∷ []) (sym e)
numbers_one_of (g ∷ []) group few (inr m) = absurd m
numbers_one_of (g ∷ other ∷ gs) group few m = let no : ⊥ = omega (arith, few) in absurd no

none_left : (gs : List Group) → ((g : Group) → In g gs → ⊥) → map (λ (g : Group). g.id) gs ≡ []
none_left [] none = refl
none_left (g ∷ gs) none = absurd (none g (inl refl))

module _ (duties : Duties) (h : List Entry) (legal : IsLegal duties h) where
  abbrev owned : AreOwned h
  owned = are_owned duties h legal

  abbrev apart : AreDistinct h
  apart = are_distinct duties h legal

  -- a registration is of an attached session
  pub registration_attached : (session op : ℕ) → is_registration session op h ≡ true → is_attached session h ≡ true
  unfolding operation_request
  registration_attached session op live = of (is_attached session h) refl
    where
      of : (b : Bool) → is_attached session h ≡ b → is_attached session h ≡ true
      of true e = e
      of false e = let none : is_registration session op h ≡ false = ap (registers_in op) ((are_limited duties h legal).idle session e) in absurd (both_no (is_registration session op h) live none)

  -- no registration is of session 0
  unhosted : (op : ℕ) → is_registration 0 op h ≡ true → ⊥
  unhosted op live = let low : 1 ≤ 0 = ((holds_of duties h legal).numbered 0 (registration_attached 0 op live)).0 in let no : ⊥ = omega (arith, low) in no

  -- live groups of one operation have one number
  pub one_number : (a b : Group) → In a (groups h) → In b (groups h) → a.session ≡ b.session → a.op ≡ b.op → a.id ≡ b.id
  one_number a b m n e f = of (a.id == 0) refl (b.id == 0) refl
    where
      zero_id : (k : ℕ) → (k == 0) ≡ true → k ≡ 0
      zero_id k g = grind (arith, g)

      other_id : (k : ℕ) → (k == 0) ≡ false → k ≢ 0
      other_id k g same = let no : (k == 0) ≡ true = grind (arith, same) in both_no (k == 0) no g

      of : (x : Bool) → (a.id == 0) ≡ x → (y : Bool) → (b.id == 0) ≡ y → a.id ≡ b.id
      of true i true j = zero_id a.id i ∙ sym (zero_id b.id j)
      of true i false j = absurd (unhosted b.op (subst (λ s. is_registration s b.op h ≡ true) (sym e ∙ (owned.host a m (zero_id a.id i)).0) (owned.owned b n (other_id b.id j))))
      of false i true j = absurd (unhosted a.op (subst (λ s. is_registration s a.op h ≡ true) (e ∙ (owned.host b n (zero_id b.id j)).0) (owned.owned a m (other_id a.id i))))
      of false i false j =
          some_eq a.id b.id (sym (owned.numbered a m (other_id a.id i)) ∙ ap (λ s. number_of_registration s a.op h) e ∙ ap (λ o. number_of_registration b.session o h) f ∙ owned.numbered b n (other_id b.id j))

  one_group : (session op : ℕ) → length (groups_of session op h) ≤ 1
  one_group session op = few_of_one (groups_of session op h) (numbers_filter (is_of session op) (groups h) apart.numbers) same
    where
      same : (a b : Group) → In a (groups_of session op h) → In b (groups_of session op h) → a.id ≡ b.id
      same a b m n =
          let k : In a (groups h) × (is_of session op a ≡ true) = of_filter (is_of session op) a (groups h) m in
          let l : In b (groups h) × (is_of session op b ≡ true) = of_filter (is_of session op) b (groups h) n in
          let p : (a.session ≡ session) × (a.op ≡ op) = of_is session op a k.1 in
          let q : (b.session ≡ session) × (b.op ≡ op) = of_is session op b l.1 in
          one_number a b k.0 l.0 (p.0 ∙ sym q.0) (p.1 ∙ sym q.1)

  owner : (group : Group) → In group (groups h) → ((group.id == 0) || is_registration group.session group.op h) ≡ true
  owner group m = of (group.id == 0) refl
    where
      of : (b : Bool) → (group.id == 0) ≡ b → (b || is_registration group.session group.op h) ≡ true
      of true e = refl
      of false e = owned.owned group m (λ same. let no : (group.id == 0) ≡ true = grind (arith, same) in both_no (group.id == 0) no e)

  its_groups : (session op : ℕ) → is_registration session op h ≡ true → (number : ℕ) × (number_of_registration session op h ≡ Some number) × (map (λ group. group.id) (groups_of session op h) ≡ numbers_left number h)
  its_groups session op live =
      let found : (number : ℕ) × (number_of_registration session op h ≡ Some number) × IsPresent session op number h = owned.grouped session op live in
      (found.0, found.1, of found.0 found.1 found.2)
    where
      other : (group : Group) → In group (groups_of session op h) → group.id ≢ 0
      other group m zero_id =
          let k : In group (groups h) × (is_of session op group ≡ true) = of_filter (is_of session op) group (groups h) m in
          let p : (group.session ≡ session) × (group.op ≡ op) = of_is session op group k.1 in
          unhosted op (subst (λ s. is_registration s op h ≡ true) (sym p.0 ∙ (owned.host group k.0 zero_id).0) live)

      of : (number : ℕ) → number_of_registration session op h ≡ Some number → IsPresent session op number h → map (λ (group : Group). group.id) (groups_of session op h) ≡ numbers_left number h
      of number e (inl there) =
          let group : Group = there.0 in
          let stands : has_failed number h ≡ false = ap (λ n. has_failed n h) (sym there.4) ∙ owned.standing there.0 there.1 in
          numbers_one_of (groups_of session op h) there.0 (one_group session op) (in_filter (is_of session op) there.0 (groups h) there.1 (is_of_own there.0 session op there.2 there.3))
          ∙ ap (λ n. n ∷ []) there.4 ∙ sym (rw stands refl)
      of number e (inr failed) = none_left (groups_of session op h) none ∙ sym (rw failed refl)
        where
          none : (group : Group) → In group (groups_of session op h) → ⊥
          none group m =
              let k : In group (groups h) × (is_of session op group ≡ true) = of_filter (is_of session op) group (groups h) m in
              let p : (group.session ≡ session) × (group.op ≡ op) = of_is session op group k.1 in
              let same : group.id ≡ number = some_eq group.id number (sym (owned.numbered group k.0 (other group m)) ∙ ap (λ s. number_of_registration s group.op h) p.0 ∙ ap (λ o. number_of_registration session o h) p.1 ∙ e) in
              both_no (has_failed number h) failed (ap (λ n. has_failed n h) (sym same) ∙ owned.standing group k.0)

pub have_groups : HaveGroups
have_groups duties h legal = record {
  one = one_group duties h legal;
  owned = all_in _ (groups h) (owner duties h legal);
  registered = its_groups duties h legal;
}
