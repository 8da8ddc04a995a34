-- Marks of records: records that are the same have one, and sets with no mark in common have no such records.
use Rattle.std.proofs.Common.{◌≡◌, ℕ, ◌+◌, ◌%◌, ◌<◌, List, [], ◌∷◌, true, false, Bool, length, refl, ap, sym, subst, ◌∙◌, arith, length-append}
use Rattle.std.specs.Int.{bit_at}
use Rattle.std.specs.Int.RustNames.{bit_or}
use lib.Bits.{bit_and}
use Rattle.std.specs.List.{All, list_any}
use Rattle.std.specs.Char.{to_ascii_lowercase}
use Rattle.std.proofs.lemmas.Nat.Bits.{bit_at_and, bit_at_or, bit_at-zero, bit_at-lt}
use Rattle.std.proofs.lemmas.List.{length-map}
use Rattle.std.proofs.lemmas.List.Elements.{All-weaker}
use Rattle.std.proofs.lemmas.List.Folds.{list_any_none}
use Rattle.dns_name.specs.Names.{wire_of, folded, folded_label}
use Rattle.dns_record.specs.declared.record.Rr.{Rr}
use Rattle.dns_record.specs.Records.{Identity, identity_of, kind_of, same}
use Rattle.dns_record.proofs.Same.{same_tells}
use Rattle.mdns_owing.specs.Marks.{mark_of, HasMark}

-- folding a name leaves the length of its wire form
length_folded : (name : List (List ℕ)) → length (wire_of (folded name)) ≡ length (wire_of name)
length_folded [] = refl
length_folded (label ∷ rest) =
    omega (arith, length_folded rest, length-map label to_ascii_lowercase, length-append (folded_label label) (wire_of (folded rest)), length-append label (wire_of rest))

pub mark_small : (rr : Rr) → mark_of rr < 64
mark_small rr = omega arith

pub mark_same : (one other : Rr) → same one other ≡ true → mark_of one ≡ mark_of other
mark_same one other h =
    let e : identity_of one ≡ identity_of other = (same_tells one other).0 h in
    let kind : kind_of one.rdata ≡ kind_of other.rdata = ap (λ (i : Identity). i.kind) e in
    let owner : length (wire_of one.owner) ≡ length (wire_of other.owner) = sym (length_folded one.owner) ∙ ap (λ (i : Identity). length i.owner) e ∙ length_folded other.owner in
    (λ i. kind i % 32 + owner i % 32)

-- a mark that is there stays where others are put beside it
pub mark_stays : (marks more mark : ℕ) → bit_at marks mark ≡ 1 → bit_at (bit_or marks more) mark ≡ 1
mark_stays marks more mark h = omega (arith, bit_at_or marks more mark, bit_at-lt more mark, h)

-- a mark that is in two sets is in what they have in common
pub in_common : (marks others mark : ℕ) → bit_and marks others ≡ 0 → bit_at marks mark ≡ 1 → bit_at others mark ≡ 1 → ⊥
in_common marks others mark none h k = omega (arith, bit_at_and marks others mark, ap (λ (n : ℕ). bit_at n mark) none, bit_at-zero mark, h, k)

-- what has a mark isn't the same as a record without it
pub none_same : (marks others : ℕ) (rr : Rr) (rrs : List Rr) → ((one : Rr) → HasMark marks one → HasMark others one → ⊥) → HasMark marks rr → All (HasMark others) rrs → list_any (same rr) rrs ≡ false
none_same marks others rr rrs apart has all = list_any_none (same rr) rrs (All-weaker (HasMark others) (λ (one : Rr). same rr one ≡ false) other rrs all)
  where
    other : (one : Rr) → HasMark others one → same rr one ≡ false
    other one marked = of (same rr one) refl
      where
        of : (b : Bool) → same rr one ≡ b → b ≡ false
        of true e = absurd (apart rr has (subst (λ (mark : ℕ). bit_at others mark ≡ 1) (sym (mark_same rr one e)) marked))
        of false e = refl
