-- The order of questions.
use Rattle.std.proofs.Common.{◌≡◌, ℕ, ◌==◌, Bool, true, false, cond, ◌&&◌, Ordering, Less, Equal, Greater, refl, ap, ◌∙◌, sym, arith}
use Rattle.std.specs.Prelude.{nat_lt}
use Rattle.std.specs.Ordering.{is_eq, nat_cmp, ordering_then, ordering_reverse}
use Rattle.std.specs.Cmp.{IsTotalOrder}
use Rattle.std.specs.Cmp.Lexicographic.{slice_cmp}
use Rattle.std.proofs.lemmas.Cmp.{on_total, then_total, nat_cmp_total, nat_list_cmp_total}
use Rattle.std.proofs.lemmas.Map.Text.{is_eq-slice_cmp}
use Rattle.dns_name.specs.Names.{wire_of, folded, folded_eq, name_cmp}
use Rattle.dns_record.specs.declared.record.Key.{Key}
use Rattle.dns_record.specs.Records.{key_eq, key_cmp}

pub key_cmp_total : IsTotalOrder key_cmp
unfolding key_cmp name_cmp
key_cmp_total = then_total (on_total (λ (k : Key). wire_of (folded k.name)) nat_list_cmp_total) (on_total (λ (k : Key). k.kind) nat_cmp_total)

eq_then : (o p : Ordering) → is_eq (ordering_then o p) ≡ (is_eq o && is_eq p)
eq_then Less p = refl
eq_then Equal p = refl
eq_then Greater p = refl

eq_numbers : (m n : ℕ) → is_eq (nat_cmp m n) ≡ (m == n)
eq_numbers m n = of (nat_lt m n) refl (m == n) refl
  where
    of : (b : Bool) → nat_lt m n ≡ b → (c : Bool) → (m == n) ≡ c → is_eq (cond b Less (cond c Equal Greater)) ≡ c
    of true e true f = grind arith
    of true e false f = refl
    of false e true f = refl
    of false e false f = refl

-- questions are one where the order says so
pub key_eq_is : (a b : Key) → key_eq a b ≡ is_eq (key_cmp a b)
unfolding key_eq key_cmp name_cmp folded_eq
key_eq_is a b =
    sym (eq_then (slice_cmp nat_cmp (wire_of (folded a.name)) (wire_of (folded b.name))) (nat_cmp a.kind b.kind)
    ∙ ap (λ t. t && is_eq (nat_cmp a.kind b.kind)) (is_eq-slice_cmp (wire_of (folded a.name)) (wire_of (folded b.name)))
    ∙ ap (λ t. key_names a b && t) (eq_numbers a.kind b.kind))
  where
    key_names : Key → Key → Bool
    key_names x y = folded_eq x.name y.name

pub key_turned : (a b : Key) → key_cmp a b ≡ Equal → key_cmp b a ≡ Equal
key_turned a b h = key_cmp_total.antisymm b a ∙ ap ordering_reverse h
