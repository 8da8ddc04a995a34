-- Bits of names: they are the same in any case, and a record whose owner's bit isn't there doesn't have the name.
use Rattle.std.proofs.Common.{◌≡◌, ℕ, ◌+◌, ◌*◌, ◌%◌, ◌^◌, ◌<◌, Bool, true, false, cond, not, ◌&&◌, List, [], ◌∷◌, ◌++◌, length, get_or, take, map, refl, ap, sym, subst, ◌∙◌, ⊎_elim, append_assoc, arith}
use Rattle.std.specs.Prelude.{nat_lt, bit_and, bit_or, ◌==◌}
use Rattle.std.specs.Char.{to_ascii_lowercase}
use Rattle.std.proofs.lemmas.Bool.{cases_eq, eq-eqb, eqb-true, and_parts}
use Rattle.std.proofs.lemmas.List.{take_more}
use Rattle.std.proofs.lemmas.List.Elements.{filter-append}
use Rattle.std.proofs.lemmas.List.Folds.{list_all-append}
use Rattle.std.proofs.lemmas.Nat.{pow_pos, pow_apart, and_or_self, and_or_apart}
use Rattle.dns_name.specs.Names.{folded, folded_eq}
use Rattle.dns_name.proofs.Folding.{folded_eq-tells}
use Rattle.dns_record.specs.declared.record.Rr.{Rr}
use Rattle.mdns_probe.specs.declared.claim.Claim.{Claim}
use Rattle.mdns_claimants.specs.Bits.{place_from, place_of, bit_of, have_bits}
use Rattle.mdns_claimants.specs.Owned.{of_name, claimed_of}

-- the two cases of a letter are 32 apart
same_letter : (byte : ℕ) → to_ascii_lowercase byte % 32 ≡ byte % 32
same_letter byte = of (nat_lt byte 65) (nat_lt byte 91)
  where
    of : (a b : Bool) → cond a byte (cond b (byte + 32) byte) % 32 ≡ byte % 32
    of true b = refl
    of false true = omega arith
    of false false = refl

folded_place : (place : ℕ) (label : List ℕ) → place_from place (map to_ascii_lowercase label) ≡ place_from place label
folded_place place [] = refl
folded_place place (byte ∷ bytes) =
    ap (λ (n : ℕ). place_from ((place * 5 + n) % 64) (map to_ascii_lowercase bytes)) (same_letter byte)
    ∙ folded_place ((place * 5 + byte % 32) % 64) bytes

same_place : (left right : List (List ℕ)) → folded left ≡ folded right → place_of left ≡ place_of right
same_place [] [] e = refl
same_place [] (label ∷ labels) e = absurd (cc)
same_place (label ∷ labels) [] e = absurd (cc)
same_place (label ∷ labels) (other ∷ others) e =
    let first : map to_ascii_lowercase label ≡ map to_ascii_lowercase other = cc in
    sym (folded_place 0 label) ∙ ap (place_from 0) first ∙ folded_place 0 other

-- one name has one bit, case aside
same_bit : (left right : List (List ℕ)) → folded_eq left right ≡ true → bit_of left ≡ bit_of right
same_bit left right e = ap (λ (place : ℕ). 2 ^ place) (same_place left right ((folded_eq-tells left right).0 e))

-- a bit that is there stays with another one
bit_stays : (bits i j : ℕ) → bit_and bits (2 ^ j) ≡ 2 ^ j → bit_and (bit_or bits (2 ^ i)) (2 ^ j) ≡ 2 ^ j
bit_stays bits i j e =
    ⊎_elim (λ same. ap (λ (k : ℕ). bit_and (bit_or bits (2 ^ k)) (2 ^ j)) same ∙ and_or_self (2 ^ j) bits)
    (λ apart. and_or_apart (2 ^ j) bits (2 ^ i) (pow_apart i j apart) ∙ e) (cases_eq i j)

bits_stay : (bits : ℕ) (name : List (List ℕ)) (rrs : List Rr) → have_bits bits rrs ≡ true → have_bits (bit_or bits (bit_of name)) rrs ≡ true
unfolding have_bits
bits_stay bits name [] h = refl
bits_stay bits name (rr ∷ rrs) h =
    let parts = and_parts (bit_and bits (bit_of rr.owner) == bit_of rr.owner) (have_bits bits rrs) h in
    let here : (bit_and (bit_or bits (bit_of name)) (bit_of rr.owner) == bit_of rr.owner) ≡ true =
    eq-eqb _ _ (bit_stays bits (place_of name) (place_of rr.owner) (eqb-true _ _ parts.0)) in
    λ i. here i && bits_stay bits name rrs parts.1 i

-- the bit of one record more
pub bits_more : (bits all : ℕ) (some rrs : List Rr) (i : ℕ) (rr : Rr) → i < length rrs → rr ≡ get_or rrs i rr → have_bits bits (some ++ take i rrs) ≡ true → all ≡ bit_or bits (bit_of rr.owner) →
    have_bits all (some ++ take (i + 1) rrs) ≡ true
unfolding have_bits
bits_more bits all some rrs i rr within is h put =
    ap (have_bits all) (ap (λ (l : List Rr). some ++ l) (take_more rrs i rr within ∙ ap (λ (r : Rr). take i rrs ++ r ∷ []) (sym is)) ∙ sym (append_assoc some (take i rrs) (rr ∷ [])))
    ∙ ap (λ (b : ℕ). have_bits b ((some ++ take i rrs) ++ rr ∷ [])) put
    ∙ list_all-append (λ r. bit_and (bit_or bits (bit_of rr.owner)) (bit_of r.owner) == bit_of r.owner) (some ++ take i rrs) (rr ∷ [])
    ∙ (λ k. bits_stay bits rr.owner (some ++ take i rrs) h k && (eq-eqb _ _ (and_or_self (bit_of rr.owner) bits) k && true))

-- no record has a name whose bit isn't there
pub none_own : (bits : ℕ) (rrs : List Rr) (name : List (List ℕ)) → have_bits bits rrs ≡ true → bit_and bits (bit_of name) ≡ 0 → of_name name rrs ≡ []
unfolding have_bits
none_own bits [] name h none = refl
none_own bits (rr ∷ rrs) name h none =
    let parts = and_parts (bit_and bits (bit_of rr.owner) == bit_of rr.owner) (have_bits bits rrs) h in
    let here : bit_and bits (bit_of rr.owner) ≡ bit_of rr.owner = eqb-true _ _ parts.0 in
    of (folded_eq rr.owner name) refl here (none_own bits rrs name parts.1 none)
  where
    of : (b : Bool) → folded_eq rr.owner name ≡ b → bit_and bits (bit_of rr.owner) ≡ bit_of rr.owner → of_name name rrs ≡ [] → cond b (rr ∷ of_name name rrs) (of_name name rrs) ≡ []
    of false e here rest = rest
    of true e here rest =
        let gone : bit_of name ≡ 0 = sym (subst (λ (bit : ℕ). bit_and bits bit ≡ bit) (same_bit rr.owner name e) here) ∙ none in
        absurd (omega (arith, pow_pos (place_of name), gone))

pub zero_of : (n : ℕ) → not (n == 0) ≡ false → n ≡ 0
zero_of n e = eqb-true n 0 (of (n == 0) e)
  where
    of : (b : Bool) → not b ≡ false → b ≡ true
    of true e = refl
    of false e = absurd (cc)

pub none_claimed : (name : List (List ℕ)) (sure : Bool) (claim : Claim) → of_name name (claim.unique ++ claim.shared) ≡ [] → claimed_of name sure claim ≡ []
none_claimed name true claim none = sym (filter-append (λ rr. folded_eq rr.owner name) claim.unique claim.shared) ∙ none
none_claimed name false claim none = refl
