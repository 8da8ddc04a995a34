-- The order of answers, number by number.
use Rattle.std.proofs.Common.{◌≡◌, ◌<◌, ℕ, ◌/◌, ◌%◌, ◌^◌, ◌∙◌, List, ◌++◌, refl, sym, ap, arith, Ordering, Less, Equal, Greater}
use Rattle.std.specs.Prelude.{◌↔◌}
use Rattle.std.specs.Int.{to_be_bytes, w16}
use Rattle.std.specs.Ordering.{nat_cmp, ordering_then, ordering_reverse, MatchOrdering}
use Rattle.std.specs.Cmp.{ranks, nat_cmp_is}
use Rattle.std.specs.Cmp.Lexicographic.{slice_cmp, nat_list_cmp_total}
use Rattle.std.proofs.lemmas.Map.Lookups.{exact_bytes}
use Rattle.dns_name.specs.Names.{wire_of}
use Rattle.dns_record.specs.declared.record.Rdata.{Rdata}
use Rattle.dns_record.specs.Records.{kind_of, data_of, rdata_cmp}
use Rattle.sd_call.specs.declared.answer.Answer.{Answer}
use Rattle.sd_call.specs.declared.answer.Answer.TheVariants.{Datum, Resolved}
use Rattle.sd_call.specs.Answers.{answer_bytes, answer_cmp}

-- the order of two numbers of 16 bits is that of their bytes
pub number_first : (m n : ℕ) (x y : List ℕ) → m < 2 ^ 16 → n < 2 ^ 16 →
    slice_cmp nat_cmp (to_be_bytes w16 m ++ x) (to_be_bytes w16 n ++ y) ≡ ordering_then (nat_cmp m n) (slice_cmp nat_cmp x y)
number_first m n x y small little =
    of (nat_cmp (m / 256 ^ 1 % 256) (n / 256 ^ 1 % 256)) (ranks (m / 256 ^ 1 % 256) (n / 256 ^ 1 % 256)) (nat_cmp (m % 256) (n % 256)) (ranks (m % 256) (n % 256))
  where
    of : (r : Ordering) → MatchOrdering r (m / 256 ^ 1 % 256 < n / 256 ^ 1 % 256) (m / 256 ^ 1 % 256 ≡ n / 256 ^ 1 % 256) (n / 256 ^ 1 % 256 < m / 256 ^ 1 % 256) →
        (s : Ordering) → MatchOrdering s (m % 256 < n % 256) (m % 256 ≡ n % 256) (n % 256 < m % 256) →
        ordering_then r (ordering_then s (slice_cmp nat_cmp x y)) ≡ ordering_then (nat_cmp m n) (slice_cmp nat_cmp x y)
    of Less h s k = ap (λ (o : Ordering). ordering_then o (slice_cmp nat_cmp x y)) (nat_cmp_is m n Less (omega arith))
    of Greater h s k = ap (λ (o : Ordering). ordering_then o (slice_cmp nat_cmp x y)) (nat_cmp_is m n Greater (omega arith))
    of Equal h Less k = ap (λ (o : Ordering). ordering_then o (slice_cmp nat_cmp x y)) (nat_cmp_is m n Less (omega arith))
    of Equal h Equal k = ap (λ (o : Ordering). ordering_then o (slice_cmp nat_cmp x y)) (nat_cmp_is m n Equal (omega arith))
    of Equal h Greater k = ap (λ (o : Ordering). ordering_then o (slice_cmp nat_cmp x y)) (nat_cmp_is m n Greater (omega arith))

-- the order of data with their types is that of their bytes
pub datum : (ours theirs : Rdata) (r : Ordering) → kind_of ours < 2 ^ 16 → kind_of theirs < 2 ^ 16 → r ≡ rdata_cmp ours theirs → r ≡ answer_cmp (Datum ours) (Datum theirs)
unfolding answer_cmp rdata_cmp
datum ours theirs r small little e = e ∙ sym (number_first (kind_of ours) (kind_of theirs) (data_of ours) (data_of theirs) small little)

then_assoc : (a b c : Ordering) → ordering_then (ordering_then a b) c ≡ ordering_then a (ordering_then b c)
then_assoc Less b c = refl
then_assoc Equal b c = refl
then_assoc Greater b c = refl

-- the order of places is by the three numbers, and then by what follows
pub places : (p w q m n k : ℕ) (name theirs : List (List ℕ)) (x y : List ℕ) (r : Ordering) → p < 2 ^ 16 → w < 2 ^ 16 → q < 2 ^ 16 → m < 2 ^ 16 → n < 2 ^ 16 → k < 2 ^ 16 →
    r ≡ ordering_then (ordering_then (ordering_then (nat_cmp p m) (nat_cmp w n)) (nat_cmp q k)) (slice_cmp nat_cmp (wire_of name ++ x) (wire_of theirs ++ y)) →
    r ≡ answer_cmp (Resolved p w q name x) (Resolved m n k theirs y)
unfolding answer_cmp
places p w q m n k name theirs x y r hp hw hq hm hn hk e =
    let rest : Ordering = slice_cmp nat_cmp (wire_of name ++ x) (wire_of theirs ++ y) in
    e
    ∙ then_assoc (ordering_then (nat_cmp p m) (nat_cmp w n)) (nat_cmp q k) rest
    ∙ then_assoc (nat_cmp p m) (nat_cmp w n) (ordering_then (nat_cmp q k) rest)
    ∙ ap (λ (o : Ordering). ordering_then (nat_cmp p m) (ordering_then (nat_cmp w n) o)) (sym (number_first q k (wire_of name ++ x) (wire_of theirs ++ y) hq hk))
    ∙ ap (λ (o : Ordering). ordering_then (nat_cmp p m) o) (sym (number_first w n (to_be_bytes w16 q ++ (wire_of name ++ x)) (to_be_bytes w16 k ++ (wire_of theirs ++ y)) hw hn))
    ∙ sym (number_first p m (to_be_bytes w16 w ++ (to_be_bytes w16 q ++ (wire_of name ++ x))) (to_be_bytes w16 n ++ (to_be_bytes w16 k ++ (wire_of theirs ++ y))) hp hm)

-- answers are equal in order exactly where their bytes are the same
pub answer_cmp_equal : (left right : Answer) (r : Ordering) → r ≡ answer_cmp left right → (r ≡ Equal) ↔ (answer_bytes left ≡ answer_bytes right)
unfolding answer_cmp
answer_cmp_equal left right r e = (λ h. exact_bytes _ _ (sym e ∙ h), λ h. e ∙ ap (slice_cmp nat_cmp (answer_bytes left)) (sym h) ∙ equal_self (answer_bytes left))
  where
    own_reverse : (o : Ordering) → o ≡ ordering_reverse o → o ≡ Equal
    own_reverse Less h = absurd (cc)
    own_reverse Equal h = refl
    own_reverse Greater h = absurd (cc)

    equal_self : (bytes : List ℕ) → slice_cmp nat_cmp bytes bytes ≡ Equal
    equal_self bytes = own_reverse _ (nat_list_cmp_total.antisymm bytes bytes)
