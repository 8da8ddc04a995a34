-- One record more in the tests of what is multicast and taken back.
use Rattle.std.proofs.Common.{◌≡◌, ◌∙◌, ◌==◌, ◌||◌, ◌&&◌, ℕ, Bool, true, false, cond, eqb, List, [], ◌∷◌, ◌++◌, ◌<◌, ◌+◌, length, get_or, take, Option, Some, None, nat_lt, add-one, refl, sym, ap, arith}
use Rattle.std.specs.List.{list_any}
use Rattle.std.proofs.lemmas.Bool.{lt-ltb, eq-eqb, ne_eqb}
use Rattle.std.proofs.Math.Seq.{take-suc}
use Rattle.std.proofs.lemmas.List.Folds.{list_any-append}
use Rattle.dns_record.specs.declared.record.Rr.{Rr}
use Rattle.dns_record.specs.Records.{same}
use Rattle.mdns_history.specs.Debts.{is_multicast, is_goodbye}
use Rattle.mdns_reply.specs.Marks.{same_is_equivalence}

or_false : (b : Bool) → (b || false) ≡ b
or_false true = refl
or_false false = refl

and_true : (b : Bool) → (b && true) ≡ b
and_true true = refl
and_true false = refl

and_false : (b : Bool) → (b && false) ≡ false
and_false true = refl
and_false false = refl

push_any : (p : Rr → Bool) (front : List Rr) (one : Rr) → list_any p (front ++ one ∷ []) ≡ (list_any p front || p one)
push_any p front one = list_any-append p front (one ∷ []) ∙ ap (λ b. list_any p front || b) (or_false (p one))

-- one record more that is taken back, and one that isn't
pub goodbye_more : (rr one : Rr) (front : List Rr) → eqb one.ttl 0 ≡ true → is_goodbye rr (front ++ one ∷ []) ≡ (is_goodbye rr front || same one rr)
goodbye_more rr one front e =
    push_any (λ r. same rr r && (r.ttl == 0)) front one
    ∙ ap (λ b. is_goodbye rr front || b) (ap (λ b. same rr one && b) e ∙ and_true (same rr one) ∙ same_is_equivalence.symm rr one)

pub goodbye_other : (rr one : Rr) (front : List Rr) → eqb one.ttl 0 ≡ false → is_goodbye rr (front ++ one ∷ []) ≡ is_goodbye rr front
goodbye_other rr one front e =
    push_any (λ r. same rr r && (r.ttl == 0)) front one
    ∙ ap (λ b. is_goodbye rr front || b) (ap (λ b. same rr one && b) e ∙ and_false (same rr one))
    ∙ or_false (is_goodbye rr front)

-- one record more that is multicast, and one that isn't
pub multicast_more : (rr one : Rr) (front : List Rr) → nat_lt 0 one.ttl ≡ true → is_multicast rr (front ++ one ∷ []) ≡ (is_multicast rr front || same one rr)
multicast_more rr one front e =
    push_any (λ r. same rr r && nat_lt 0 r.ttl) front one
    ∙ ap (λ b. is_multicast rr front || b) (ap (λ b. same rr one && b) e ∙ and_true (same rr one) ∙ same_is_equivalence.symm rr one)

pub multicast_other : (rr one : Rr) (front : List Rr) → nat_lt 0 one.ttl ≡ false → is_multicast rr (front ++ one ∷ []) ≡ is_multicast rr front
multicast_other rr one front e =
    push_any (λ r. same rr r && nat_lt 0 r.ttl) front one
    ∙ ap (λ b. is_multicast rr front || b) (ap (λ b. same rr one && b) e ∙ and_false (same rr one))
    ∙ or_false (is_multicast rr front)

-- a moment that one record more takes out
pub step_out : (b s more : Bool) (old new start : Option ℕ) → more ≡ (b || s) → old ≡ cond b None start → new ≡ cond s None old → new ≡ cond more None start
step_out true true more old new start m o n = n ∙ sym (ap (λ c. cond c None start) m)
step_out true false more old new start m o n = n ∙ o ∙ sym (ap (λ c. cond c None start) m)
step_out false true more old new start m o n = n ∙ sym (ap (λ c. cond c None start) m)
step_out false false more old new start m o n = n ∙ o ∙ sym (ap (λ c. cond c None start) m)

-- a moment that one record more gives
pub step_in : (b s more : Bool) (now : ℕ) (old new : Option ℕ) → more ≡ (b || s) → new ≡ cond s (Some now) old → cond b (Some now) new ≡ cond more (Some now) old
step_in true s more now old new m n = sym (ap (λ c. cond c (Some now) old) m)
step_in false s more now old new m n = n ∙ sym (ap (λ c. cond c (Some now) old) m)

pub above_zero : (n : ℕ) → 0 < n → nat_lt 0 n ≡ true
above_zero n h = lt-ltb 0 n h

pub is_zero : (n : ℕ) → n ≡ 0 → eqb n 0 ≡ true
is_zero n h = eq-eqb n 0 h

pub not_zero : (n : ℕ) → (n ≡ 0 → ⊥) → eqb n 0 ≡ false
not_zero n h = ne_eqb n 0 h

-- the records before the next index
pub take_next : (sent : List Rr) (i : ℕ) (one : Rr) → i < length sent → one ≡ get_or sent i one → take (i + 1) sent ≡ take i sent ++ one ∷ []
take_next sent i one h is = rw add-one (take-suc sent i one h ∙ ap (λ (r : Rr). take i sent ++ r ∷ []) (sym is))

pub none_left : (rrs : List Rr) → length rrs ≡ 0 → rrs ≡ []
none_left [] h = refl
none_left (rr ∷ rrs) h = absurd (omega arith)
