-- Two sides of a tie are equal exactly where the types and data of their records agree.
use Rattle.std.proofs.Common.{◌≡◌, ℕ, Bool, true, false, cond, List, [], ◌∷◌, map, eqb, eqb-true, ltb, ◌<◌, arith, refl, ap, sym, ◌∙◌, Ordering, Less, Equal, Greater}
use Rattle.std.specs.Prelude.{◌↔◌}
use Rattle.std.specs.Cmp.Lexicographic.{slice_cmp}
use Rattle.std.specs.Ordering.{nat_cmp, ordering_then, is_eq}
use Rattle.std.proofs.lemmas.Map.Text.{is_eq-slice_cmp}
use Rattle.std.proofs.lemmas.Slice.Eq.{bytes_eq-Decides}
use Rattle.std.proofs.lemmas.Bool.{eq-eqb, ltb-true}
use Rattle.dns_record.specs.declared.record.Rr.{Rr}
use Rattle.dns_record.specs.Records.{kind_of, data_of}
use Rattle.dns_record.specs.Conflicts.{tie_cmp}
use Rattle.mdns_conflict.specs.Ties.{counted}

both : (a b : Ordering) → ordering_then a b ≡ Equal → (a ≡ Equal) × (b ≡ Equal)
both Less b e = absurd (cc)
both Equal b e = (refl, e)
both Greater b e = absurd (cc)

numbers : (k l : ℕ) → nat_cmp k l ≡ Equal → k ≡ l
numbers k l e = of (ltb k l) (eqb k l) refl e
  where
    of : (less same : Bool) → eqb k l ≡ same → cond less Less (cond same Equal Greater) ≡ Equal → k ≡ l
    of true same s h = absurd (cc)
    of false true s h = eqb-true k l s
    of false false s h = absurd (cc)

bytes : (xs ys : List ℕ) → slice_cmp nat_cmp xs ys ≡ Equal → xs ≡ ys
bytes xs ys e = (bytes_eq-Decides xs ys).0 (sym (is_eq-slice_cmp xs ys) ∙ ap is_eq e)

-- records tie exactly where their types and data agree
record_there : (a b : Rr) → tie_cmp a b ≡ Equal → counted a ≡ counted b
record_there a b e =
    let parts = both (nat_cmp (kind_of a.rdata) (kind_of b.rdata)) (slice_cmp nat_cmp (data_of a.rdata) (data_of b.rdata)) e in
    λ i. (numbers (kind_of a.rdata) (kind_of b.rdata) parts.0 i, bytes (data_of a.rdata) (data_of b.rdata) parts.1 i)

own_bytes : (xs : List ℕ) → slice_cmp nat_cmp xs xs ≡ Equal
own_bytes xs = of (slice_cmp nat_cmp xs xs) (is_eq-slice_cmp xs xs ∙ (bytes_eq-Decides xs xs).1 refl)
  where
    of : (o : Ordering) → is_eq o ≡ true → o ≡ Equal
    of Less e = absurd (cc)
    of Equal e = refl
    of Greater e = absurd (cc)

own_number : (k : ℕ) → nat_cmp k k ≡ Equal
own_number k = of (ltb k k) refl
  where
    of : (less : Bool) → ltb k k ≡ less → cond less Less (cond (eqb k k) Equal Greater) ≡ Equal
    of true e = absurd (let below : k < k = ltb-true k k e in omega (arith, below))
    of false e = ap (λ b. cond b Equal Greater) (eq-eqb k k refl)

abbrev counted_cmp : ℕ × List ℕ → ℕ × List ℕ → Ordering
counted_cmp x y = ordering_then (nat_cmp x.0 y.0) (slice_cmp nat_cmp x.1 y.1)

record_back : (a b : Rr) → counted a ≡ counted b → tie_cmp a b ≡ Equal
record_back a b e =
    sym (ap (counted_cmp (counted a)) e) ∙ (λ i. ordering_then (own_number (kind_of a.rdata) i) (own_bytes (data_of a.rdata) i))

abbrev first_of : ℕ × List ℕ → List (ℕ × List ℕ) → ℕ × List ℕ
first_of x [] = x
first_of x (y ∷ ys) = y

abbrev rest_of : List (ℕ × List ℕ) → List (ℕ × List ℕ)
rest_of [] = []
rest_of (y ∷ ys) = ys

there : (ours theirs : List Rr) → slice_cmp tie_cmp ours theirs ≡ Equal → map counted ours ≡ map counted theirs
there [] [] e = refl
there [] (other ∷ theirs) e = absurd (cc)
there (mine ∷ ours) [] e = absurd (cc)
there (mine ∷ ours) (other ∷ theirs) e =
    let parts = both (tie_cmp mine other) (slice_cmp tie_cmp ours theirs) e in
    λ i. record_there mine other parts.0 i ∷ there ours theirs parts.1 i

back : (ours theirs : List Rr) → map counted ours ≡ map counted theirs → slice_cmp tie_cmp ours theirs ≡ Equal
back [] [] e = refl
back [] (other ∷ theirs) e = absurd (cc)
back (mine ∷ ours) [] e = absurd (cc)
back (mine ∷ ours) (other ∷ theirs) e =
    (λ i. ordering_then (record_back mine other (ap (first_of (counted mine)) e) i) (slice_cmp tie_cmp ours theirs)) ∙ back ours theirs (ap rest_of e)

pub sides_equal : (ours theirs : List Rr) → (slice_cmp tie_cmp ours theirs ≡ Equal) ↔ (map counted ours ≡ map counted theirs)
sides_equal ours theirs = (there ours theirs, back ours theirs)
