-- What one more listed answer silences.
use Rattle.std.proofs.Common.{◌≡◌, ℕ, ◌*◌, leb, max, Bool, true, false, ◌&&◌, ◌||◌, cond, List, Option, Some, None, refl, ap, sym, ◌∙◌, arith, unwrap_or}
use Rattle.std.specs.Map.{lookup}
use Rattle.std.proofs.lemmas.Bool.{leb-true, leb-false, le-leb, lt-leb}
use Rattle.dns_record.specs.declared.record.Rr.{Rr}
use Rattle.dns_record.specs.Records.{same}
use Rattle.mdns_history.specs.Debts.{suppresses}
use Rattle.mdns_reply.specs.Marks.{same_is_equivalence}
use Rattle.mdns_owing.specs.Listed.{Listing, silenced_by, is_silenced}

-- a number is at most twice the greater of two where it is at most twice one of them
of_greater : (n a b : ℕ) → leb n (2 * max a b) ≡ (leb n (2 * a) || leb n (2 * b))
of_greater n a b = of (leb n (2 * a)) (leb n (2 * b)) refl refl
  where
    of : (s t : Bool) → leb n (2 * a) ≡ s → leb n (2 * b) ≡ t → leb n (2 * max a b) ≡ (s || t)
    of true t e f = let h = leb-true n (2 * a) e in le-leb n (2 * max a b) (omega arith)
    of false true e f = let h = leb-true n (2 * b) f in le-leb n (2 * max a b) (omega arith)
    of false false e f = let h = leb-false n (2 * a) e in let k = leb-false n (2 * b) f in lt-leb n (2 * max a b) (omega arith)

with_one : (own : Rr) (before : Option ℕ) (ttl : ℕ) → silenced_by own (Some (max (unwrap_or before 0) ttl)) ≡ (silenced_by own before || leb own.ttl (2 * ttl))
with_one own None ttl = let e : max 0 ttl ≡ ttl = omega arith in ap (λ n. leb own.ttl (2 * n)) e
with_one own (Some a) ttl = of_greater own.ttl a ttl

or_nothing : (b : Bool) → b ≡ (b || false)
or_nothing true = refl
or_nothing false = refl

-- Once an answer is listed with the greater of its TTL and that of before, it silences too.
pub listed_more : (own rr : Rr) (before after : List Listing) → lookup (same own) after ≡ cond (same rr own) (Some (max (unwrap_or (lookup (same rr) before) 0) rr.ttl)) (lookup (same own) before)
    → is_silenced after own ≡ (is_silenced before own || suppresses own rr)
listed_more own rr before after put = of (same rr own) refl
  where
    of : (b : Bool) → same rr own ≡ b → is_silenced after own ≡ (is_silenced before own || (same own rr && leb own.ttl (2 * rr.ttl)))
    of true e =
        ap (silenced_by own) (put ∙ ap (λ b. cond b (Some (max (unwrap_or (lookup (same rr) before) 0) rr.ttl)) (lookup (same own) before)) e)
        ∙ (λ i. silenced_by own (Some (max (unwrap_or (lookup (λ z. same_is_equivalence.congr rr own z e i) before) 0) rr.ttl)))
        ∙ with_one own (lookup (same own) before) rr.ttl
        ∙ ap (λ b. is_silenced before own || (b && leb own.ttl (2 * rr.ttl))) (sym (same_is_equivalence.symm own rr ∙ e))
    of false e =
        ap (silenced_by own) (put ∙ ap (λ b. cond b (Some (max (unwrap_or (lookup (same rr) before) 0) rr.ttl)) (lookup (same own) before)) e)
        ∙ or_nothing (is_silenced before own)
        ∙ ap (λ b. is_silenced before own || (b && leb own.ttl (2 * rr.ttl))) (sym (same_is_equivalence.symm own rr ∙ e))
