-- Chains of pointers: turns that are enough, and where a chain ends.
use Rattle.std.proofs.Common.{◌≡◌, ℕ, zero, suc, ◌+◌, ◌-◌, ◌*◌, ◌<◌, ◌≤◌, ◌++◌, List, [], ◌∷◌, ◌∙◌, Bool, true, false, cond, eqb, ltb, length, refl, arith, ap, sym, subst, Option, Some, None, Result, Ok, Err}
use Rattle.std.specs.Option.{unwrap_or, option_or}
use Rattle.std.specs.Prelude.{slice_index}
use Rattle.std.proofs.lemmas.Bool.{ltb-true, ltb-false, ne_eqb, le-ltb}
use Rattle.dns_name.proofs.Wire.{length-wire_of-push, wire_some}
use Rattle.dns_pointers.specs.declared.fault.NameFault.{NameFault}
use Rattle.dns_pointers.specs.declared.fault.NameFault.TheVariants.{Truncated, BadPointer, LongName}
use Rattle.dns_pointers.specs.Reading.{◌>>=◌, NameAt, labels_at, label_at, target_at, byte_at}
use Rattle.dns_pointers.specs.Chains.{AreEnough, labels_in, IsEndOf}
use Rattle.dns_pointers.proofs.NameTurns.{behind, used_by, IsUnderWay}

-- the same at each value gives the same
next_same : {X Y : Type 0} (r : Result X NameFault) (f g : X → Result Y NameFault) → ((x : X) → r ≡ Ok x → f x ≡ g x) → (r >>= f) ≡ (r >>= g)
next_same (Ok x) f g h = h x refl
next_same (Err e) f g h = refl

either_same : {X : Type 0} (b : Bool) (x y z w : Result X NameFault) → (b ≡ true → x ≡ z) → (b ≡ false → y ≡ w) → cond b x y ≡ cond b z w
either_same true x y z w h k = h refl
either_same false x y z w h k = k refl

-- a label for which there is room
pub label_room : (bytes : List ℕ) (at size used : ℕ) (label : List ℕ) → label_at bytes at size used ≡ Ok label → used + 1 + size + 1 ≤ 255
unfolding label_at
label_room bytes at size used label e = past (ltb (length bytes) (at + size)) (ltb 255 (used + 1 + size + 1)) refl _ e
  where
    past : (b d : Bool) → ltb 255 (used + 1 + size + 1) ≡ d → (l : List ℕ) → cond b (Err Truncated) (cond d (Err LongName) (Ok l)) ≡ Ok label → used + 1 + size + 1 ≤ 255
    past true d t l e = cc
    past false true t l e = cc
    past false false t l e = ltb-false 255 (used + 1 + size + 1) t

pub target_below : (bytes : List ℕ) (start at target : ℕ) → target_at bytes start at ≡ Ok target → target < start
unfolding target_at
target_below bytes start at target e = aimed (byte_at bytes (at + 1)) (λ low. (slice_index bytes at - 192) * 256 + low) e
  where
    tested : (b : Bool) (t : ℕ) → ltb t start ≡ b → cond b (Ok t) (Err BadPointer) ≡ Ok target → target < start
    tested true t h e = let same : t ≡ target = cc in subst (λ (n : ℕ). n < start) same (ltb-true t start h)
    tested false t h e = cc

    aimed : (r : Result ℕ NameFault) (f : ℕ → ℕ) → (r >>= λ low. cond (ltb (f low) start) (Ok (f low)) (Err BadPointer)) ≡ Ok target → target < start
    aimed (Ok low) f e = tested (ltb (f low) start) (f low) refl e
    aimed (Err fault) f e = cc

-- the turns that are left behind a label
pub enough_behind : (turns start used size : ℕ) → AreEnough (suc turns) start used → 1 ≤ size → used + 1 + size + 1 ≤ 255 → AreEnough turns start (used + 1 + size)
enough_behind turns start used size h some room = omega arith

-- One more turn than enough changes nothing.
pub one_more : (turns : ℕ) (bytes : List ℕ) (start at used : ℕ) → AreEnough turns start used → labels_at turns bytes start at used ≡ labels_at (suc turns) bytes start at used
unfolding labels_at
one_more zero bytes start at used h = absurd (omega arith)
one_more (suc turns) bytes start at used h =
    next_same (byte_at bytes at) _ _ (λ first b. either_same (eqb first 0) _ _ _ _ (λ z. refl) (λ some. either_same (ltb first 64) _ _ _ _
    (λ low. next_same (label_at bytes (at + 1) first used) _ _ (λ label l.
    ap (λ (r : Result NameAt NameFault). r >>= λ rest. Ok (label ∷ rest.0, rest.1))
    (one_more turns bytes start (at + 1 + first) (used + 1 + first)
    (enough_behind turns start used first h (above_zero first some) (label_room bytes (at + 1) first used label l)))))
    (λ high. either_same (ltb first 192) _ _ _ _ (λ reserved. refl) (λ pointer. next_same (target_at bytes start at) _ _ (λ target t.
    ap (λ (r : Result NameAt NameFault). r >>= λ rest. Ok (rest.0, at + 2))
    (one_more turns bytes target target used (enough_below turns start target used h (target_below bytes start at target t))))))))
  where
    above_zero : (first : ℕ) → eqb first 0 ≡ false → 1 ≤ first
    above_zero zero e = cc
    above_zero (suc n) e = omega arith

    enough_below : (turns start target used : ℕ) → AreEnough (suc turns) start used → target < start → AreEnough turns target used
    enough_below turns start target used h k = omega arith

-- a pointer at a start
pointer_turn : (turns : ℕ) (bytes : List ℕ) (start used first target : ℕ) → byte_at bytes start ≡ Ok first → 192 ≤ first → target_at bytes start start ≡ Ok target
    → labels_at (suc turns) bytes start start used ≡ (labels_at turns bytes target target used >>= λ rest. Ok (rest.0, start + 2))
unfolding labels_at
pointer_turn turns bytes start used first target b high t =
    rw (b, ne_eqb first 0 (λ z. absurd (omega arith)), le-ltb first 64 (omega arith), le-ltb first 192 high, t) refl

kept : (r : Result NameAt NameFault) (stop : ℕ) → labels_in (r >>= λ rest. Ok (rest.0, stop)) ≡ labels_in r
kept (Ok found) stop = refl
kept (Err e) stop = refl

-- the end of the chain behind a pointer
pub end_behind : (bytes : List ℕ) (start first target end : ℕ) → byte_at bytes start ≡ Ok first → 192 ≤ first → target_at bytes start start ≡ Ok target
    → IsEndOf bytes target end → IsEndOf bytes start end
end_behind bytes start first target end b high t e = record { below = omega (arith, target_below bytes start start target t, e.below); alike = alike }
  where
    alike : (turns used : ℕ) → AreEnough turns start used → labels_in (labels_at turns bytes start start used) ≡ labels_in (labels_at turns bytes end end used)
    alike zero used h = absurd (omega arith)
    alike (suc turns) used h =
        let low : target < start = target_below bytes start start target t in
        let few : end ≤ target = e.below in
        let some : AreEnough turns target used = omega arith in
        let others : AreEnough turns end used = omega arith in
        ap labels_in (pointer_turn turns bytes start used first target b high t) ∙ kept (labels_at turns bytes target target used) (start + 2)
        ∙ e.alike turns used some ∙ ap labels_in (one_more turns bytes end end used others)

-- The turns that are left while a name is read.
pub enough_first : (size at : ℕ) → at < size → AreEnough (size + 129 - 0) at 0
enough_first size at h = omega arith

pub enough_left : (all turn start used : ℕ) → turn < all → AreEnough (all - turn) start used → AreEnough (suc (all - (turn + 1))) start used
enough_left all turn start used h e = omega arith

pub enough_label : (turns : ℕ) (front : List (List ℕ)) (start : ℕ) (bytes : List ℕ) (at first : ℕ) (label : List ℕ) → AreEnough (suc turns) start (used_by front) → 1 ≤ first
    → label_at bytes at first (used_by front) ≡ Ok label → length label ≡ first → AreEnough turns start (used_by (front ++ label ∷ []))
enough_label turns front start bytes at first label h some l size =
    let u : used_by (front ++ label ∷ []) ≡ used_by front + 1 + first = omega (arith, length-wire_of-push front label, wire_some front) in
    rw u (enough_behind turns start (used_by front) first h some (label_room bytes at first (used_by front) label l))

pub enough_pointer : (turns start target end used : ℕ) → AreEnough (suc turns) start used → target < start → end ≤ target → AreEnough turns end used
enough_pointer turns start target end used h low few = omega arith

-- a name whose end is known, by its labels
abbrev placed : List (List ℕ) → Option ℕ → ℕ → Result (List (List ℕ)) NameFault → Result NameAt NameFault
placed front end stop labels = labels >>= λ l. Ok (front ++ l, unwrap_or end stop)

by_labels : (front : List (List ℕ)) (end : Option ℕ) (stop : ℕ) (r : Result NameAt NameFault) → behind front (option_or end (Some stop)) r ≡ placed front end stop (labels_in r)
by_labels front None stop (Ok found) = refl
by_labels front None stop (Err e) = refl
by_labels front (Some o) stop (Ok found) = refl
by_labels front (Some o) stop (Err e) = refl

-- the end of a chain in place of its first start
pub turn_jump : (turns : ℕ) (front : List (List ℕ)) (end : Option ℕ) (stop start last : ℕ) (bytes : List ℕ) (at : ℕ)
    → IsUnderWay turns front (option_or end (Some stop)) start start bytes at → IsEndOf bytes start last → AreEnough turns start (used_by front)
    → IsUnderWay turns front (option_or end (Some stop)) last last bytes at
turn_jump turns front end stop start last bytes at w e h = record {
  same = by_labels front end stop (labels_at turns bytes last last (used_by front)) ∙ ap (placed front end stop) (sym (e.alike turns (used_by front) h))
      ∙ sym (by_labels front end stop (labels_at turns bytes start start (used_by front))) ∙ w.same;
}
