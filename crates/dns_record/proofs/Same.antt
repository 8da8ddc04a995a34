-- Records are the same exactly where their identities are one, and record order is an order of identities.
use Rattle.std.proofs.Common.{◌≡◌, ◌&&◌, ◌∙◌, ℕ, List, Bool, true, false, ap, eqb, refl, subst, Ordering, Less, Equal, Greater}
use Rattle.std.specs.Prelude.{◌↔◌, IsTrue}
use Rattle.std.specs.Bool.{Decides}
use Rattle.std.specs.Str.{bytes_eq}
use Rattle.std.specs.Cmp.{IsTotalOrder}
use Rattle.std.specs.Cmp.Lexicographic.{slice_cmp}
use Rattle.std.specs.Ordering.{nat_cmp, ordering_then, ordering_reverse, is_eq}
use Rattle.std.proofs.lemmas.Cmp.{on_total, then_total, nat_cmp_total, nat_list_cmp_total}
use Rattle.std.proofs.lemmas.Map.Lookups.{exact_bytes, exact_unsigned}
use Rattle.std.proofs.lemmas.Map.Text.{is_eq-slice_cmp}
use Rattle.std.proofs.lemmas.Slice.Eq.{bytes_eq-Decides}
use Rattle.std.proofs.lemmas.Bool.{false≢true}
use Rattle.std.proofs.lemmas.Bool.Decides.{Decides-eqb}
use Rattle.dns_name.specs.Names.{folded_eq, name_cmp}
use Rattle.dns_record.specs.declared.record.Rr.{Rr}
use Rattle.dns_record.specs.Records.{Identity, identity_of, same, data_eq, rdata_cmp, record_cmp}

all_three : (a b c : Bool) → (a && (b && c)) ≡ true → (a ≡ true) × (b ≡ true) × (c ≡ true)
all_three true true c h = (refl, refl, h)
all_three true false c h = absurd (false≢true h)
all_three false b c h = absurd (false≢true h)

one_identity : (left right : Identity) → left.owner ≡ right.owner → left.kind ≡ right.kind → left.bytes ≡ right.bytes → left ≡ right
one_identity left right owner kind content = λ i. record { owner = owner i; kind = kind i; bytes = content i }

-- the order of identities: by owner, then by type, then by data
abbrev pub identity_cmp : Identity → Identity → Ordering
identity_cmp left right =
    ordering_then (slice_cmp nat_cmp left.owner right.owner)
    (ordering_then (nat_cmp left.kind right.kind) (slice_cmp nat_cmp left.bytes right.bytes))

-- whether two identities are one
abbrev pub is_same : Identity → Identity → Bool
is_same left right = bytes_eq left.owner right.owner && (eqb left.kind right.kind && bytes_eq left.bytes right.bytes)

-- the test of sameness decides equality of identities
pub is_same-Decides : (left right : Identity) → Decides (is_same left right) (left ≡ right)
is_same-Decides left right =
    let owners = bytes_eq-Decides left.owner right.owner in
    let kinds = Decides-eqb left.kind right.kind in
    let contents = bytes_eq-Decides left.bytes right.bytes in (
      λ h. let p = all_three _ _ _ h in one_identity left right (owners.0 p.0) (kinds.0 p.1) (contents.0 p.2),
      λ h. rw (owners.1 (ap (λ (i : Identity). i.owner) h), kinds.1 (ap (λ (i : Identity). i.kind) h), contents.1 (ap (λ (i : Identity). i.bytes) h)) refl,
    )

-- sameness of records is that of their identities
pub same-identities : (left right : Rr) → same left right ≡ is_same (identity_of left) (identity_of right)
unfolding same folded_eq data_eq
same-identities left right = refl

-- records are the same exactly where their identities are one
pub same_tells : (left right : Rr) → IsTrue (same left right) ↔ (identity_of left ≡ identity_of right)
same_tells left right = rw (same-identities left right) (is_same-Decides (identity_of left) (identity_of right))

-- an answer that is the test tells whether the identities are one
pub same_told : (left right : Rr) (r : Bool) → r ≡ same left right → IsTrue r ↔ (identity_of left ≡ identity_of right)
same_told left right r e = rw e (same_tells left right)

equal_then : (a b : Ordering) → ordering_then a b ≡ Equal → (a ≡ Equal) × (b ≡ Equal)
equal_then Less b h = absurd (cc)
equal_then Equal b h = (refl, h)
equal_then Greater b h = absurd (cc)

-- the order of identities is total
pub identity_cmp-total : IsTotalOrder identity_cmp
identity_cmp-total =
    then_total (on_total (λ (i : Identity). i.owner) nat_list_cmp_total)
    (then_total (on_total (λ (i : Identity). i.kind) nat_cmp_total) (on_total (λ (i : Identity). i.bytes) nat_list_cmp_total))

own_reverse : (r : Ordering) → r ≡ ordering_reverse r → r ≡ Equal
own_reverse Less h = absurd (cc)
own_reverse Equal h = refl
own_reverse Greater h = absurd (cc)

-- identities are equal in order exactly where they are one
pub identity_cmp-equal : (left right : Identity) → (identity_cmp left right ≡ Equal) ↔ (left ≡ right)
identity_cmp-equal left right = (
  λ h. let p = equal_then _ _ h in let q = equal_then _ _ p.1 in
      one_identity left right (exact_bytes _ _ p.0) (exact_unsigned _ _ q.0) (exact_bytes _ _ q.1),
  λ h. subst (λ (i : Identity). identity_cmp left i ≡ Equal) h (own_reverse _ (identity_cmp-total.antisymm left left)),
)

-- record order is that of identities
pub record_cmp-identities : (left right : Rr) → record_cmp left right ≡ identity_cmp (identity_of left) (identity_of right)
unfolding record_cmp rdata_cmp name_cmp
record_cmp-identities left right = refl

-- records are equal in order exactly where they are the same
pub record_cmp_equal : (left right : Rr) → (record_cmp left right ≡ Equal) ↔ (identity_of left ≡ identity_of right)
record_cmp_equal left right = rw (record_cmp-identities left right) (identity_cmp-equal (identity_of left) (identity_of right))

-- an answer that is record order tells whether the identities are one
pub record_cmp_told : (left right : Rr) (r : Ordering) → r ≡ record_cmp left right → (r ≡ Equal) ↔ (identity_of left ≡ identity_of right)
record_cmp_told left right r e = rw e (record_cmp_equal left right)

unequal_then : (a b : Ordering) → (a ≡ Equal → ⊥) → a ≡ ordering_then a b
unequal_then Less b h = refl
unequal_then Equal b h = absurd (h refl)
unequal_then Greater b h = refl

-- owners that differ decide
pub owners_decide : (left right : Rr) (r : Ordering) → r ≡ name_cmp left.owner right.owner → (r ≡ Equal → ⊥) → r ≡ record_cmp left right
unfolding record_cmp
owners_decide left right r e h = unequal_then r (rdata_cmp left.rdata right.rdata) h ∙ ap (λ (o : Ordering). ordering_then o (rdata_cmp left.rdata right.rdata)) e

-- where the owners agree, the data decide
pub data_decide : (left right : Rr) (r : Ordering) → Equal ≡ name_cmp left.owner right.owner → r ≡ rdata_cmp left.rdata right.rdata → r ≡ record_cmp left right
unfolding record_cmp
data_decide left right r e h = rw (← e) h

-- record order is total
pub record_cmp_total : IsTotalOrder record_cmp
unfolding record_cmp rdata_cmp name_cmp
record_cmp_total = on_total identity_of identity_cmp-total

-- data whose order is equal have the same bytes
pub equal_bytes : (left right : List ℕ) → is_eq (slice_cmp nat_cmp left right) ≡ bytes_eq left right
equal_bytes left right = is_eq-slice_cmp left right

turned : (a b : Bool) → (a && b) ≡ (b && a)
turned true true = refl
turned true false = refl
turned false true = refl
turned false false = refl

-- records are the same where their data agree, and then their owners
pub same_by_data : (left right : Rr) → same left right ≡ (data_eq left.rdata right.rdata && folded_eq left.owner right.owner)
unfolding same
same_by_data left right = turned (folded_eq left.owner right.owner) (data_eq left.rdata right.rdata)
