-- The first claim of a group: found, changed and taken out at its place.
use Rattle.std.proofs.Common.{◌≡◌, ℕ, zero, suc, ◌+◌, ◌<◌, Bool, true, false, cond, not, nat_lt, ◌≤◌, List, [], ◌∷◌, ◌++◌, length, get_or, set, take, drop, arith, refl, ap, sym, ◌∙◌, Option, Some, None}
use Rattle.std.specs.List.{position, position_or_len, find, remove}
use Rattle.std.proofs.lemmas.List.Quantifiers.{position-Some}
use Rattle.std.proofs.lemmas.Bool.{ltb-false}
use Rattle.mdns_probe.specs.declared.claim.Claim.{Claim}
use Rattle.mdns_probe.specs.Claiming.{is_of, changed_first, without_first}

-- it stands at a place, and none does before it
pub record IsFirst (group : ℕ) (claims : List Claim) (place : ℕ) (claim : Claim) : Type 0 where
  pub within : place < length claims
  pub here : is_of group (get_or claims place claim) ≡ true
  pub before : (k : ℕ) → k < place → is_of group (get_or claims k claim) ≡ false

pub is_first : (group : ℕ) (claims : List Claim) (place : ℕ) (claim : Claim) → Some place ≡ position (is_of group) claims → IsFirst group claims place claim
is_first group claims place claim e =
    let all = position-Some (is_of group) claims place claim (sym e) in record { within = all.0; here = all.1; before = all.2 }

next_first : (group : ℕ) (one : Claim) (claims : List Claim) (place : ℕ) (claim : Claim) → IsFirst group (one ∷ claims) (suc place) claim → IsFirst group claims place claim
next_first group one claims place claim first = record {
  within = let l : suc place < length (one ∷ claims) = first.within in omega (arith, l);
  here = first.here;
  before = λ k below. first.before (suc k) (omega (arith, below));
}

pub changed_there : (group : ℕ) (change : Claim → Claim) (claims : List Claim) (place : ℕ) (claim : Claim) → IsFirst group claims place claim →
    set claims place (change (get_or claims place claim)) ≡ changed_first group change claims
changed_there group change [] place claim first = absurd (let l : place < 0 = first.within in omega (arith, l))
changed_there group change (one ∷ claims) zero claim first = sym (ap (λ b. cond b (change one ∷ claims) (one ∷ changed_first group change claims)) first.here)
changed_there group change (one ∷ claims) (suc place) claim first =
    ap (λ l. one ∷ l) (changed_there group change claims place claim (next_first group one claims place claim first))
    ∙ sym (ap (λ b. cond b (change one ∷ claims) (one ∷ changed_first group change claims)) (first.before 0 (omega arith)))

pub taken_out : (group : ℕ) (claims : List Claim) (place : ℕ) (claim : Claim) → IsFirst group claims place claim → remove claims place ≡ without_first group claims
taken_out group [] place claim first = absurd (let l : place < 0 = first.within in omega (arith, l))
taken_out group (one ∷ claims) zero claim first = sym (ap (λ b. cond b claims (one ∷ without_first group claims)) first.here)
taken_out group (one ∷ claims) (suc place) claim first =
    ap (λ l. one ∷ l) (taken_out group claims place claim (next_first group one claims place claim first))
    ∙ sym (ap (λ b. cond b claims (one ∷ without_first group claims)) (first.before 0 (omega arith)))

pub found_there : (group : ℕ) (claims : List Claim) (place : ℕ) (claim : Claim) → IsFirst group claims place claim → find (is_of group) claims ≡ Some (get_or claims place claim)
found_there group [] place claim first = absurd (let l : place < 0 = first.within in omega (arith, l))
found_there group (one ∷ claims) zero claim first = ap (λ b. cond b (Some one) (find (is_of group) claims)) first.here
found_there group (one ∷ claims) (suc place) claim first =
    ap (λ b. cond b (Some one) (find (is_of group) claims)) (first.before 0 (omega arith)) ∙ found_there group claims place claim (next_first group one claims place claim first)

-- where it stands at no place

none_passes : (group : ℕ) (claims : List Claim) → None ≡ position (is_of group) claims → length claims ≤ position_or_len (is_of group) claims
none_passes group claims e = of (nat_lt (position_or_len (is_of group) claims) (length claims)) refl e
  where
    of : (b : Bool) → nat_lt (position_or_len (is_of group) claims) (length claims) ≡ b → None ≡ cond b (Some (position_or_len (is_of group) claims)) None → length claims ≤ position_or_len (is_of group) claims
    of true t e = absurd (cc)
    of false t e = ltb-false (position_or_len (is_of group) claims) (length claims) t

none_there : (group : ℕ) (one : Claim) (claims : List Claim) → length (one ∷ claims) ≤ position_or_len (is_of group) (one ∷ claims) →
    (is_of group one ≡ false) × (length claims ≤ position_or_len (is_of group) claims)
none_there group one claims long = of (is_of group one) refl long
  where
    of : (b : Bool) → is_of group one ≡ b → length (one ∷ claims) ≤ cond (not b) (1 + position_or_len (is_of group) claims) 0 → (is_of group one ≡ false) × (length claims ≤ position_or_len (is_of group) claims)
    of true e long = absurd (omega (arith, long))
    of false e long = (e, omega (arith, long))

all_unchanged : (group : ℕ) (change : Claim → Claim) (claims : List Claim) → length claims ≤ position_or_len (is_of group) claims → claims ≡ changed_first group change claims
all_unchanged group change [] long = refl
all_unchanged group change (one ∷ claims) long =
    let both = none_there group one claims long in
    ap (λ l. one ∷ l) (all_unchanged group change claims both.1) ∙ sym (ap (λ b. cond b (change one ∷ claims) (one ∷ changed_first group change claims)) both.0)

all_left : (group : ℕ) (claims : List Claim) → length claims ≤ position_or_len (is_of group) claims → (claims ≡ without_first group claims) × (find (is_of group) claims ≡ None)
all_left group [] long = (refl, refl)
all_left group (one ∷ claims) long =
    let both = none_there group one claims long in
    let rest = all_left group claims both.1 in (
      ap (λ l. one ∷ l) rest.0 ∙ sym (ap (λ b. cond b claims (one ∷ without_first group claims)) both.0),
      ap (λ b. cond b (Some one) (find (is_of group) claims)) both.0 ∙ rest.1,
    )

pub unchanged : (group : ℕ) (change : Claim → Claim) (claims : List Claim) → None ≡ position (is_of group) claims → claims ≡ changed_first group change claims
unchanged group change claims e = all_unchanged group change claims (none_passes group claims e)

pub none_out : (group : ℕ) (claims : List Claim) → None ≡ position (is_of group) claims → claims ≡ without_first group claims
none_out group claims e = (all_left group claims (none_passes group claims e)).0

pub none_found : (group : ℕ) (claims : List Claim) → None ≡ position (is_of group) claims → find (is_of group) claims ≡ None
none_found group claims e = (all_left group claims (none_passes group claims e)).1
