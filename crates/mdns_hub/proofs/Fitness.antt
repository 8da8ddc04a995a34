-- Packets under way stay in order as they are put, taken, and time passes.
use Rattle.std.proofs.Common.{◌≡◌, ℕ, zero, suc, ◌+◌, ◌<◌, ◌≤◌, Bool, true, false, cond, not, List, [], ◌∷◌, insert, nat_lt, nat_le, Option, Some, None, IfSome, subst, refl, ap, sym, ◌∙◌, arith}
use Rattle.std.specs.List.{prefix_len}
use Rattle.mdns_hub.specs.declared.delivery.Delivery.{Delivery}
use Rattle.mdns_hub.specs.declared.link.Link.{Link}
use Rattle.mdns_hub.specs.Links.{put_delivery, put_where}
use Rattle.mdns_hub.specs.Order.{AreFit, first_moment, early_count}
use Rattle.mdns_hub.specs.Plays.{comes_by}

-- an insertion before the first packet that is later
pub inserted : (delivery : Delivery) (ds : List Delivery) → insert ds (prefix_len (λ next. not (nat_lt delivery.moment next.moment)) ds) delivery ≡ put_delivery delivery ds
inserted delivery [] = refl
inserted delivery (next ∷ ds) = at (nat_lt delivery.moment next.moment) (inserted delivery ds)
  where
    n : ℕ
    n = prefix_len (λ other. not (nat_lt delivery.moment other.moment)) ds

    at : (b : Bool) → insert ds n delivery ≡ put_delivery delivery ds → insert (next ∷ ds) (cond (not b) (1 + n) 0) delivery ≡ cond b (delivery ∷ next ∷ ds) (next ∷ put_delivery delivery ds)
    at true ih = refl
    at false ih = rw one_more (ap (λ (l : List Delivery). next ∷ l) ih)
      where
        one_more : 1 + n ≡ suc n
        one_more = omega arith

-- the first packet decides from when on all are
pub fit_from : (from to : ℕ) (kept : ℕ → Bool) (ds : List Delivery) → AreFit from kept ds → IfSome (first_moment ds) (λ first. to ≤ first) → AreFit to kept ds
fit_from from to kept [] h l = tt
fit_from from to kept (d ∷ ds) h l = ((l, h.0.1), h.1)

-- none is heard by a moment where all are heard later
pub fit_later : (moment : ℕ) (kept : ℕ → Bool) (ds : List Delivery) → AreFit (moment + 1) kept ds → comes_by moment ds ≡ false
fit_later moment kept [] h = refl
fit_later moment kept (d ∷ ds) h = ap not (ltb-of (omega (arith, h.0.0)))
  where
    ltb-of : moment < d.moment → nat_lt moment d.moment ≡ true
    ltb-of l = grind (arith, l)

-- all are heard later than a moment where the first isn't heard by it
pub fit_after : (from moment : ℕ) (kept : ℕ → Bool) (ds : List Delivery) → AreFit from kept ds → comes_by moment ds ≡ false → AreFit (moment + 1) kept ds
fit_after from moment kept [] h e = tt
fit_after from moment kept (d ∷ ds) h e = ((of (nat_lt moment d.moment) refl e, h.0.1), h.1)
  where
    of : (b : Bool) → nat_lt moment d.moment ≡ b → not b ≡ false → moment + 1 ≤ d.moment
    of true t e = let l : moment < d.moment = grind (arith, t) in omega (arith, l)
    of false t e = cc

-- one that is put
pub fit_put : (from : ℕ) (kept : ℕ → Bool) (d : Delivery) (ds : List Delivery) → from ≤ d.moment → kept d.daemon ≡ true → AreFit from kept ds → AreFit from kept (put_delivery d ds)
fit_put from kept d [] l k h = ((l, k), tt)
fit_put from kept d (x ∷ ds) l k h = of (nat_lt d.moment x.moment) refl (λ past. fit_put x.moment kept d ds past k h.1)
  where
    of : (b : Bool) → nat_lt d.moment x.moment ≡ b → (x.moment ≤ d.moment → AreFit x.moment kept (put_delivery d ds)) → AreFit from kept (cond b (d ∷ x ∷ ds) (x ∷ put_delivery d ds))
    of true t ih = let below : d.moment < x.moment = grind (arith, t) in ((l, k), ((omega (arith, below), h.0.1), h.1))
    of false t ih = let past : x.moment ≤ d.moment = grind (arith, t) in (h.0, ih past)

pub fit_where : (test : Bool) (from : ℕ) (kept : ℕ → Bool) (d : Delivery) (ds : List Delivery) → from ≤ d.moment → (test ≡ true → kept d.daemon ≡ true) → AreFit from kept ds → AreFit from kept (put_where test d ds)
fit_where true from kept d ds l k h = fit_put from kept d ds l (k refl) h
fit_where false from kept d ds l k h = h

-- where more daemons are kept
pub fit_kept : (from : ℕ) (kept more : ℕ → Bool) → ((daemon : ℕ) → kept daemon ≡ true → more daemon ≡ true) → (ds : List Delivery) → AreFit from kept ds → AreFit from more ds
fit_kept from kept more k [] h = tt
fit_kept from kept more k (d ∷ ds) h = ((h.0.0, k d.daemon h.0.1), fit_kept d.moment kept more k ds h.1)

-- one that is heard later is none of the early ones
early_next : (now : ℕ) (x : Delivery) (ds : List Delivery) (n : ℕ) → early_count now ds ≡ n → early_count now (x ∷ ds) ≡ cond (nat_le x.moment now) (suc n) n
early_next now x ds n e = rw e refl

pub early_put : (now : ℕ) (d : Delivery) (ds : List Delivery) → now < d.moment → early_count now (put_delivery d ds) ≡ early_count now ds
early_put now d [] l = late (nat_le d.moment now) refl
  where
    late : (b : Bool) → nat_le d.moment now ≡ b → cond {A = ℕ} b (suc zero) zero ≡ zero
    late true t = let below : d.moment ≤ now = grind (arith, t) in absurd (omega (arith, below, l))
    late false t = refl
early_put now d (x ∷ ds) l = of (nat_lt d.moment x.moment) (early_put now d ds l)
  where
    late : (b : Bool) (n : ℕ) → nat_le d.moment now ≡ b → cond b (suc n) n ≡ n
    late true n t = let below : d.moment ≤ now = grind (arith, t) in absurd (omega (arith, below, l))
    late false n t = refl

    of : (b : Bool) → early_count now (put_delivery d ds) ≡ early_count now ds → early_count now (cond b (d ∷ x ∷ ds) (x ∷ put_delivery d ds)) ≡ early_count now (x ∷ ds)
    of true ih = late (nat_le d.moment now) (early_count now (x ∷ ds)) refl
    of false ih = early_next now x (put_delivery d ds) (early_count now ds) ih ∙ sym (early_next now x ds (early_count now ds) refl)

pub early_where : (test : Bool) (now : ℕ) (d : Delivery) (ds : List Delivery) → now < d.moment → early_count now (put_where test d ds) ≡ early_count now ds
early_where true now d ds l = early_put now d ds l
early_where false now d ds l = refl

-- one fewer is early once the first is taken
pub early_taken : (now : ℕ) (d : Delivery) (ds : List Delivery) → d.moment ≤ now → early_count now ds < early_count now (d ∷ ds)
early_taken now d ds l = of (nat_le d.moment now) refl
  where
    of : (b : Bool) → nat_le d.moment now ≡ b → early_count now ds < cond b (suc (early_count now ds)) (early_count now ds)
    of true t = omega arith
    of false t = let above : now < d.moment = grind (arith, t) in absurd (omega (arith, above, l))

-- what is left once the first is taken
pub fit_rest : (from : ℕ) (kept : ℕ → Bool) (d : Delivery) (ds : List Delivery) → AreFit from kept (d ∷ ds) → AreFit from kept ds
fit_rest from kept d [] h = tt
fit_rest from kept d (x ∷ ds) h = ((omega (arith, h.0.0, h.1.0.0), h.1.0.1), h.1.1)

-- what is left once the first is taken, where it may be
pub fit_taken : (from moment : ℕ) (kept : ℕ → Bool) (old new : Link) (r : Option Delivery) → IfSome r (λ d. (old.under_way.items ≡ d ∷ new.under_way.items) × (d.moment ≤ moment))
    → (r ≡ None → (new ≡ old) × (comes_by moment old.under_way.items ≡ false)) → AreFit from kept old.under_way.items → AreFit from kept new.under_way.items
fit_taken from moment kept old new (Some d) taken none h = fit_rest from kept d new.under_way.items (subst (AreFit from kept) taken.0 h)
fit_taken from moment kept old new None taken none h = subst (λ (l : Link). AreFit from kept l.under_way.items) (sym (none refl).0) h
