-- Records whose data are as their types allow: bytes, names, and the own records of groups.
use Rattle.std.proofs.Common.{◌≡◌, ℕ, suc, ◌<◌, Bool, true, false, cond, ◌&&◌, List, [], ◌∷◌, ◌++◌, map, filter, length, get_or, refl, sym, ◌∙◌, arith}
use Rattle.std.specs.List.{list_all, flat_map}
use Rattle.std.proofs.lemmas.Bool.{lt-ltb}
use Rattle.std.proofs.lemmas.List.Folds.{list_all-append}
use Rattle.dns_name.specs.Names.{wire_of, is_name}
use Rattle.dns_record.specs.declared.record.Rr.{Rr}
use Rattle.dns_message.specs.Writing.{is_below, are_bytes, is_spellable_data, is_spellable_name}
use Rattle.mdns_probe.specs.declared.claim.Claim.{Claim}
use Rattle.mdns_probe.specs.Kept.{Kept}
use Rattle.mdns_claimants.specs.Owned.{own_in}
use Rattle.mdns_claimants.specs.Typed.{have_data, records_of, HaveData}

both : (a b : Bool) → a ≡ true → b ≡ true → (a && b) ≡ true
both true true h k = refl
both false b h k = cc
both true false h k = cc

parts : (a b : Bool) → (a && b) ≡ true → (a ≡ true) × (b ≡ true)
parts true true h = (refl, refl)
parts false b h = absurd (cc)
parts true false h = absurd (cc)

-- bytes

pub bytes_each : (bytes : List ℕ) → ((i : ℕ) → i < length bytes → get_or bytes i 0 < 256) → are_bytes bytes ≡ true
bytes_each [] h = refl
bytes_each (b ∷ bytes) h =
    both (is_below 8 b) (are_bytes bytes) (lt-ltb b 256 (h 0 (omega arith))) (bytes_each bytes (λ i within. h (suc i) (omega arith)))

-- a name whose wire form is bytes
pub labels_bytes : (name : List (List ℕ)) → are_bytes (wire_of name) ≡ true → list_all are_bytes name ≡ true
labels_bytes [] h = refl
labels_bytes (label ∷ rest) h =
    let behind = parts (is_below 8 (length label)) (are_bytes (label ++ wire_of rest)) h in
    let both_parts = parts (are_bytes label) (are_bytes (wire_of rest)) (sym (list_all-append (is_below 8) label (wire_of rest)) ∙ behind.1) in
    both (are_bytes label) (list_all are_bytes rest) both_parts.0 (labels_bytes rest both_parts.1)

pub spellable_name : (name : List (List ℕ)) → is_name name ≡ true → are_bytes (wire_of name) ≡ true → is_spellable_name name ≡ true
spellable_name name is h = both (is_name name) (list_all are_bytes name) is (labels_bytes name h)

-- the records of groups

own_of_one : (one : Kept) (kept : List Kept) → have_data (records_of one.claim) ≡ true → have_data (own_in kept) ≡ true → have_data (own_in (one ∷ kept)) ≡ true
own_of_one one kept h rest = of one.claim.sure
  where
    of : (b : Bool) → have_data (flat_map (λ (claim : Claim). claim.unique ++ claim.shared) (cond b (one.claim ∷ filter (λ (claim : Claim). claim.sure) (map (λ (k : Kept). k.claim) kept)) (filter (λ (claim : Claim). claim.sure) (map (λ (k : Kept). k.claim) kept)))) ≡ true
    of true = list_all-append (λ (rr : Rr). is_spellable_data rr.rdata) (records_of one.claim) (own_in kept) ∙ both (have_data (records_of one.claim)) (have_data (own_in kept)) h rest
    of false = rest

-- own records are of groups
pub own_data : (kept : List Kept) → HaveData kept → have_data (own_in kept) ≡ true
own_data [] h = refl
own_data (one ∷ kept) h =
    let ps = parts (have_data (records_of one.claim)) (list_all (λ (k : Kept). have_data (records_of k.claim)) kept) h in
    own_of_one one kept ps.0 (own_data kept ps.1)
