-- The order of questions: it is total, and two questions are one exactly where neither comes before the other.
use Rattle.std.proofs.Common.{◌≡◌, ℕ, ◌==◌, Bool, true, false, cond, ◌&&◌, Ordering, Less, Equal, Greater, refl, ap, ◌∙◌, sym, arith}
use Rattle.std.specs.Prelude.{nat_lt}
use Rattle.std.specs.Ordering.{is_lt, is_eq, nat_cmp, ordering_then, eq_by_cmp}
use Rattle.std.specs.Cmp.{IsTotalOrder, IsEquivalence}
use Rattle.std.specs.Cmp.Lexicographic.{slice_cmp}
use Rattle.std.proofs.lemmas.Cmp.{on_total, then_total, nat_cmp_total, nat_list_cmp_total, alike_right, eq_by_cmp_equiv}
use Rattle.std.proofs.lemmas.Map.Text.{is_eq-slice_cmp}
use Rattle.dns_name.specs.Names.{wire_of, folded, folded_eq, name_cmp}
use Rattle.dns_record.specs.declared.record.Key.{Key}
use Rattle.dns_record.specs.Records.{key_eq, key_cmp}

-- the order of questions is total, and questions are one where it says so
pub key_cmp-total : IsTotalOrder key_cmp
unfolding key_cmp name_cmp
key_cmp-total = then_total (on_total (λ (k : Key). wire_of (folded k.name)) nat_list_cmp_total) (on_total (λ (k : Key). k.kind) nat_cmp_total)

eq_then : (o p : Ordering) → is_eq (ordering_then o p) ≡ (is_eq o && is_eq p)
eq_then Less p = refl
eq_then Equal p = refl
eq_then Greater p = refl

eq_numbers : (m n : ℕ) → is_eq (nat_cmp m n) ≡ (m == n)
eq_numbers m n = of (nat_lt m n) refl (m == n) refl
  where
    of : (b : Bool) → nat_lt m n ≡ b → (c : Bool) → (m == n) ≡ c → is_eq (cond b Less (cond c Equal Greater)) ≡ c
    of true e true f = grind arith
    of true e false f = refl
    of false e true f = refl
    of false e false f = refl

pub key_eq-is : (a b : Key) → key_eq a b ≡ is_eq (key_cmp a b)
unfolding key_eq key_cmp name_cmp folded_eq
key_eq-is a b =
    sym (eq_then (slice_cmp nat_cmp (wire_of (folded a.name)) (wire_of (folded b.name))) (nat_cmp a.kind b.kind)
    ∙ ap (λ t. t && is_eq (nat_cmp a.kind b.kind)) (is_eq-slice_cmp (wire_of (folded a.name)) (wire_of (folded b.name)))
    ∙ ap (λ t. key_names a b && t) (eq_numbers a.kind b.kind))
  where
    key_names : Key → Key → Bool
    key_names x y = folded_eq x.name y.name

keys_alike : IsEquivalence (eq_by_cmp key_cmp)
keys_alike = eq_by_cmp_equiv key_cmp-total

pub key_eq-itself : (a : Key) → key_eq a a ≡ true
key_eq-itself a = key_eq-is a a ∙ keys_alike.refl a

pub key_eq-turned : (a b : Key) → key_eq a b ≡ key_eq b a
key_eq-turned a b = key_eq-is a b ∙ keys_alike.symm a b ∙ sym (key_eq-is b a)

pub key_eq-same : (a b : Key) → key_eq a b ≡ true → (c : Key) → key_eq a c ≡ key_eq b c
key_eq-same a b e c = key_eq-is a c ∙ keys_alike.congr a b c (sym (key_eq-is a b) ∙ e) ∙ sym (key_eq-is b c)

-- whether a question comes before another
abbrev pub comes_before : Key → Key → Bool
comes_before a b = is_lt (key_cmp a b)

less_unequal : (o : Ordering) → is_lt o ≡ true → is_eq o ≡ false
less_unequal Less h = refl
less_unequal Equal h = absurd (cc)
less_unequal Greater h = refl

is_less : (o : Ordering) → is_lt o ≡ true → o ≡ Less
is_less Less h = refl
is_less Equal h = absurd (cc)
is_less Greater h = absurd (cc)

is_equal : (o : Ordering) → is_eq o ≡ true → o ≡ Equal
is_equal Less h = absurd (cc)
is_equal Equal h = refl
is_equal Greater h = absurd (cc)

pub before_other : (a b : Key) → comes_before a b ≡ true → key_eq a b ≡ false
before_other a b h = key_eq-is a b ∙ less_unequal (key_cmp a b) h

pub before_before : (a b c : Key) → comes_before a b ≡ true → comes_before b c ≡ true → comes_before a c ≡ true
before_before a b c h g = ap is_lt (key_cmp-total.trans a b c (is_less (key_cmp a b) h) (is_less (key_cmp b c) g))

pub before_left : (a b : Key) → key_eq a b ≡ true → (c : Key) → comes_before a c ≡ comes_before b c
before_left a b e c = ap is_lt (key_cmp-total.congr a b c (is_equal (key_cmp a b) (sym (key_eq-is a b) ∙ e)))

pub before_right : (a b : Key) → key_eq a b ≡ true → (c : Key) → comes_before c a ≡ comes_before c b
before_right a b e c = ap is_lt (alike_right key_cmp-total a b c (is_equal (key_cmp a b) (sym (key_eq-is a b) ∙ e)))
