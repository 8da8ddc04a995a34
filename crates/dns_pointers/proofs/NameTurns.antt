-- One turn of reading a name.
use Rattle.std.proofs.Common.{◌≡◌, ℕ, suc, ◌+◌, ◌-◌, subst, ◌<◌, ◌≤◌, ◌++◌, List, [], ◌∷◌, ◌∙◌, Bool, true, false, cond, ltb, length, refl, arith, ap, sym, append-nil, append_assoc, Option, Some, None, Result, Ok, Err}
use Rattle.std.specs.Option.{unwrap_or, option_or, IfSome}
use Rattle.std.proofs.lemmas.Bool.{ne_eqb, lt-ltb, le-ltb}
use Rattle.dns_name.specs.Names.{wire_of}
use Rattle.dns_name.proofs.Wire.{length-wire_of-push, wire_some}
use Rattle.dns_pointers.specs.declared.fault.NameFault.{NameFault}
use Rattle.dns_pointers.specs.declared.fault.NameFault.TheVariants.{Truncated, BadLabel}
use Rattle.dns_pointers.specs.Reading.{◌>>=◌, NameAt, name_at, labels_at, label_at, target_at, byte_at}

-- how many bytes labels take in wire form, the zero byte left out
abbrev pub used_by : List (List ℕ) → ℕ
used_by front = length (wire_of front) - 1

-- a name whose labels so far were read, and the rest of it
abbrev pub behind : List (List ℕ) → Option ℕ → Result NameAt NameFault → Result NameAt NameFault
behind front end rest = rest >>= λ found. Ok (front ++ found.0, unwrap_or end found.1)

-- what is left to read gives the name at an offset
pub record IsUnderWay (turns : ℕ) (front : List (List ℕ)) (end : Option ℕ) (start place : ℕ) (bytes : List ℕ) (at : ℕ) : Type 0 where
  pub same : behind front end (labels_at turns bytes start place (used_by front)) ≡ name_at bytes at

pub turn_first : (bytes : List ℕ) (at : ℕ) → IsUnderWay (length bytes + 129) [] None at at bytes at
unfolding name_at
turn_first bytes at = record { same = whole (labels_at (length bytes + 129) bytes at at 0) }
  where
    whole : (r : Result NameAt NameFault) → behind [] None r ≡ r
    whole (Ok found) = refl
    whole (Err e) = refl

pub turn_past : (turns : ℕ) (front : List (List ℕ)) (end : Option ℕ) (start place : ℕ) (bytes : List ℕ) (at : ℕ) (fault : NameFault)
    → IsUnderWay (suc turns) front end start place bytes at → byte_at bytes place ≡ Err fault → Err fault ≡ name_at bytes at
unfolding labels_at
turn_past turns front end start place bytes at fault w e = rw e at w.same

pub turn_done : (turns : ℕ) (front : List (List ℕ)) (end : Option ℕ) (start place first : ℕ) (bytes : List ℕ) (at : ℕ)
    → IsUnderWay (suc turns) front end start place bytes at → byte_at bytes place ≡ Ok first → first ≡ 0
    → Ok (front, unwrap_or end (place + 1)) ≡ name_at bytes at
unfolding labels_at
turn_done turns front end start place first bytes at w e z =
    let h = rw (e, z) at w.same in
    let named : List (List ℕ) → Result NameAt NameFault = λ l. Ok (l, unwrap_or end (place + 1)) in ap named (sym (append-nil front)) ∙ h

pub turn_label_fault : (turns : ℕ) (front : List (List ℕ)) (end : Option ℕ) (start place first : ℕ) (bytes : List ℕ) (at : ℕ) (fault : NameFault)
    → IsUnderWay (suc turns) front end start place bytes at → byte_at bytes place ≡ Ok first → 1 ≤ first → first < 64
    → label_at bytes (place + 1) first (used_by front) ≡ Err fault → Err fault ≡ name_at bytes at
unfolding labels_at
turn_label_fault turns front end start place first bytes at fault w e low high l =
    let h = rw e at w.same in
    rw (ne_eqb first 0 (λ z. absurd (omega arith)), lt-ltb first 64 high, l) at h

pub turn_label : (turns : ℕ) (front : List (List ℕ)) (end : Option ℕ) (start place first : ℕ) (label bytes : List ℕ) (at : ℕ)
    → IsUnderWay (suc turns) front end start place bytes at → byte_at bytes place ≡ Ok first → 1 ≤ first → first < 64
    → label_at bytes (place + 1) first (used_by front) ≡ Ok label → length label ≡ first
    → IsUnderWay turns (front ++ label ∷ []) end start (place + 1 + first) bytes at
unfolding labels_at
turn_label turns front end start place first label bytes at w e low high l size =
    let h = rw e at w.same in
    let k = rw (ne_eqb first 0 (λ z. absurd (omega arith)), lt-ltb first 64 high, l) at h in
    let u : used_by (front ++ label ∷ []) ≡ used_by front + 1 + first = omega (arith, length-wire_of-push front label, wire_some front) in
    record { same = rw u (moved (labels_at turns bytes start (place + 1 + first) (used_by front + 1 + first)) ∙ k) }
  where
    moved : (r : Result NameAt NameFault) → behind (front ++ label ∷ []) end r ≡ behind front end (r >>= λ rest. Ok (label ∷ rest.0, rest.1))
    moved (Ok found) = let named : List (List ℕ) → Result NameAt NameFault = λ l. Ok (l, unwrap_or end found.1) in ap named (append_assoc front (label ∷ []) found.0)
    moved (Err e) = refl

-- where a byte that begins no label leads
abbrev pub led : List ℕ → ℕ → ℕ → ℕ → Result ℕ NameFault
led bytes start place first = cond (ltb first 192) (Err BadLabel) (target_at bytes start place)

pub turn_pointer_fault : (turns : ℕ) (front : List (List ℕ)) (end : Option ℕ) (start place first : ℕ) (bytes : List ℕ) (at : ℕ) (fault : NameFault)
    → IsUnderWay (suc turns) front end start place bytes at → byte_at bytes place ≡ Ok first → 64 ≤ first
    → led bytes start place first ≡ Err fault → Err fault ≡ name_at bytes at
unfolding labels_at
turn_pointer_fault turns front end start place first bytes at fault w e high l =
    let h = rw e at w.same in
    at_test (ltb first 192) l (rw (ne_eqb first 0 (λ z. absurd (omega arith)), le-ltb first 64 high) at h)
  where
    at_test : (b : Bool) → cond b (Err BadLabel) (target_at bytes start place) ≡ Err fault → behind front end (cond b (Err BadLabel) (target_at bytes start place >>= λ target. labels_at turns bytes target target (used_by front) >>= λ rest. Ok (rest.0, place + 2))) ≡ name_at bytes at → Err fault ≡ name_at bytes at
    at_test true k h = cc
    at_test false k h = rw k at h

pub turn_pointer : (turns : ℕ) (front : List (List ℕ)) (end : Option ℕ) (start place first target : ℕ) (bytes : List ℕ) (at : ℕ)
    → IsUnderWay (suc turns) front end start place bytes at → byte_at bytes place ≡ Ok first → 64 ≤ first
    → led bytes start place first ≡ Ok target
    → IsUnderWay turns front (option_or end (Some (place + 2))) target target bytes at
unfolding labels_at
turn_pointer turns front end start place first target bytes at w e high l =
    let h = rw e at w.same in
    record { same = at_test (ltb first 192) l (rw (ne_eqb first 0 (λ z. absurd (omega arith)), le-ltb first 64 high) at h) }
  where
    moved : (o : Option ℕ) (r : Result NameAt NameFault) → behind front (option_or o (Some (place + 2))) r ≡ behind front o (r >>= λ rest. Ok (rest.0, place + 2))
    moved None (Ok found) = refl
    moved None (Err e) = refl
    moved (Some o) (Ok found) = refl
    moved (Some o) (Err e) = refl

    at_test : (b : Bool) → cond b (Err BadLabel) (target_at bytes start place) ≡ Ok target
        → behind front end (cond b (Err BadLabel) (target_at bytes start place >>= λ target. labels_at turns bytes target target (used_by front) >>= λ rest. Ok (rest.0, place + 2))) ≡ name_at bytes at
        → behind front (option_or end (Some (place + 2))) (labels_at turns bytes target target (used_by front)) ≡ name_at bytes at
    at_test true k h = cc
    at_test false k h = moved end (labels_at turns bytes target target (used_by front)) ∙ (rw k at h)

pub turn_over : (front : List (List ℕ)) (end : Option ℕ) (start place : ℕ) (bytes : List ℕ) (at : ℕ)
    → IsUnderWay 0 front end start place bytes at → Err Truncated ≡ name_at bytes at
unfolding labels_at
turn_over front end start place bytes at w = w.same

-- a turn is left
pub turn_left : (all turn : ℕ) (front : List (List ℕ)) (end : Option ℕ) (start place : ℕ) (bytes : List ℕ) (at : ℕ)
    → turn < all → IsUnderWay (all - turn) front end start place bytes at → IsUnderWay (suc (all - (turn + 1))) front end start place bytes at
turn_left all turn front end start place bytes at h w =
    let e : all - turn ≡ suc (all - (turn + 1)) = omega arith in
    subst (λ (n : ℕ). IsUnderWay n front end start place bytes at) e w

-- the end of a name stays once it is known
pub end_within : (end : Option ℕ) (place most : ℕ) → IfSome end (λ e. e ≤ most) → place + 2 ≤ most → IfSome (option_or end (Some (place + 2))) (λ e. e ≤ most)
end_within None place most h k = k
end_within (Some e) place most h k = h
