-- Groups with different numbers and names, and what a packet may do to the claim of one.
use Rattle.std.proofs.Common.{◌≡◌, ℕ, suc, ◌+◌, ◌<◌, ◌≤◌, Bool, true, false, cond, not, ◌&&◌, ◌||◌, List, [], ◌∷◌, ◌++◌, ◌==◌, nat_lt, refl, ap, sym, ◌∙◌, arith, Option, Some, None}
use Rattle.std.specs.List.{list_any}
use Rattle.std.proofs.lemmas.Bool.{leb-false}
use Rattle.dns_name.specs.Names.{folded_eq}
use Rattle.dns_name.proofs.Folding.{folded_eq-tells, same_tests}
use Rattle.mdns_base.specs.Hosts.{mdns_port}
use Rattle.dns_record.specs.Conflicts.{clashes, loses_tie}
use Rattle.mdns_history.specs.declared.mark.Mark.{Mark}
use Rattle.mdns_history.specs.declared.mark.Mark.TheVariants as mark
use Rattle.mdns_history.specs.declared.entry.Entry.{Entry}
use Rattle.mdns_history.specs.Hearings.{Heard, counted_records}
use Rattle.mdns_history.specs.Groups.{Group, group_name, number_of, free_number, is_taken, unique_records}
use Rattle.mdns_history.specs.Sureness.{is_sure}
use Rattle.mdns_history.specs.Claims.{was_probed, greatest_number, claim_mark}

pub taken-append : (xs ys : List (List (List ℕ))) (name : List (List ℕ)) → is_taken (xs ++ ys) name ≡ (is_taken xs name || is_taken ys name)
taken-append [] ys name = refl
taken-append (x ∷ xs) ys name = ap (λ b. folded_eq name x || b) (taken-append xs ys name) ∙ sym (or_assoc (folded_eq name x) (is_taken xs name) (is_taken ys name))
  where
    or_assoc : (a b c : Bool) → ((a || b) || c) ≡ (a || (b || c))
    or_assoc true b c = refl
    or_assoc false b c = refl

pub neither : (a b : Bool) → (a || b) ≡ false → (a ≡ false) × (b ≡ false)
neither true b h = absurd (cc)
neither false b h = (refl, h)

pub turned_about : (a b : List (List ℕ)) → folded_eq a b ≡ folded_eq b a
turned_about a b = same_tests (folded_eq a b) (folded_eq b a) (λ h. (folded_eq-tells b a).1 (sym ((folded_eq-tells a b).0 h))) (λ h. (folded_eq-tells a b).1 (sym ((folded_eq-tells b a).0 h)))

-- no name is one with a later one
abbrev pub AreApart : List (List (List ℕ)) → Type 0
AreApart [] = Unit {0}
AreApart (name ∷ names) = (is_taken names name ≡ false) × AreApart names

-- each number is that of one group
abbrev pub has_id : ℕ → List Group → Bool
has_id id gs = list_any (λ group. group.id == id) gs

abbrev pub AreOnce : List Group → Type 0
AreOnce [] = Unit {0}
AreOnce (group ∷ rest) = (has_id group.id rest ≡ false) × AreOnce rest

module _ (heard : Heard) (past : List Entry) where
  -- what a packet may do to the claim of a group
  pub verdict_cases : (P : Option Mark → Type 0) (group : Group) (others : List (List (List ℕ))) → P None → P (Some (mark.Contested group.id)) → P (Some (mark.TieLost group.id)) → P (Some (mark.Failed group.id)) →
      ((number : ℕ) → number ≡ free_number (number_of group past + 1) others group → number ≤ 999999 → P (Some (mark.Renamed group.id number))) → P (claim_mark heard past group others)
  verdict_cases P group others none contested tied failed renamed =
      at (is_sure group past) (clashes (group_name group past) (unique_records group past) (counted_records (Some heard))) (was_probed group past)
      (not heard.message.response && (heard.from.port == mdns_port) && loses_tie (group_name group past) (unique_records group past) heard.message.authority)
      (group.norename || nat_lt greatest_number n) refl
    where
      n : ℕ
      n = free_number (number_of group past + 1) others group

      at : (s c w t r : Bool) → (group.norename || nat_lt greatest_number n) ≡ r →
          P (cond s (cond c (Some (mark.Contested group.id)) None) (cond (not w) None (cond c (Some (cond r (mark.Failed group.id) (mark.Renamed group.id n))) (cond t (Some (mark.TieLost group.id)) None))))
      at true true w t r e = contested
      at true false w t r e = none
      at false c false t r e = none
      at false true true t true e = failed
      at false true true t false e =
          let small : n < suc greatest_number = leb-false (suc greatest_number) n (neither group.norename (nat_lt greatest_number n) e).1 in
          renamed n refl (omega arith)
      at false false true true r e = tied
      at false false true false r e = none
