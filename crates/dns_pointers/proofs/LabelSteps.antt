-- One turn of reading a name, where it is known what stands there.
use Rattle.std.proofs.Common.{◌≡◌, ℕ, suc, ◌+◌, ◌-◌, ◌*◌, ◌/◌, ◌%◌, ◌<◌, ◌≤◌, List, [], ◌∷◌, ◌∙◌, true, false, eqb, ltb, length, refl, arith, ap, Ok}
use Rattle.std.proofs.lemmas.Bool.{ne_eqb, le-ltb, lt-ltb}
use Rattle.dns_name.specs.Names.{is_label}
use Rattle.dns_name.proofs.Wire.{label_some, label_most}
use Rattle.dns_pointers.specs.Reading.{label_at, target_at, labels_at}
use Rattle.dns_pointers.specs.Writing.{pointer_to}
use Rattle.dns_pointers.proofs.Standing.{Stands, within, last_part, ranged, index_is, byte_is}

-- the zero byte
pub end_step : (turns : ℕ) (bytes : List ℕ) (start at used : ℕ) → Stands bytes at (0 ∷ []) → labels_at (suc turns) bytes start at used ≡ Ok ([], at + 1)
unfolding labels_at
end_step turns bytes start at used s = rw (byte_is bytes at 0 [] s) refl

-- the label behind its length
label_is : (bytes : List ℕ) (at used : ℕ) (label : List ℕ) → Stands bytes at label → used + length label + 2 ≤ 255 → label_at bytes at (length label) used ≡ Ok label
unfolding label_at
label_is bytes at used label s room =
    let there : ltb (length bytes) (at + length label) ≡ false = le-ltb (length bytes) (at + length label) (within bytes at label s) in
    let short : ltb 255 (used + 1 + length label + 1) ≡ false = le-ltb 255 (used + 1 + length label + 1) (omega arith) in
    rw (there, short, ranged bytes at (at + length label) label s refl) refl

pub label_step : (turns : ℕ) (bytes : List ℕ) (start at used : ℕ) (label : List ℕ) (rest : List (List ℕ)) (stop : ℕ) → Stands bytes at (length label ∷ label)
    → is_label label ≡ true → used + length label + 2 ≤ 255
    → labels_at turns bytes start (at + 1 + length label) (used + 1 + length label) ≡ Ok (rest, stop)
    → labels_at (suc turns) bytes start at used ≡ Ok (label ∷ rest, stop)
unfolding labels_at
label_step turns bytes start at used label rest stop s h room e =
    let first = byte_is bytes at (length label) label s in
    let some : eqb (length label) 0 ≡ false = ne_eqb (length label) 0 (λ n. absurd (omega (arith, label_some label h))) in
    let small : ltb (length label) 64 ≡ true = lt-ltb (length label) 64 (omega (arith, label_most label h)) in
    let l = label_is bytes (at + 1) used label (last_part bytes at (length label ∷ []) label s) room in
    rw (first, some, small, l, e) refl

-- a pointer
two_bytes : (n : ℕ) → n < 16384 → pointer_to n ≡ (192 + n / 256) ∷ n % 256 ∷ []
two_bytes n h =
    let high : (192 * 256 + n) / 256 % 256 ≡ 192 + n / 256 = omega arith in
    let low : (192 * 256 + n) % 256 ≡ n % 256 = omega arith in
    ap (λ (a : ℕ). a ∷ (192 * 256 + n) % 256 ∷ []) high ∙ ap (λ (b : ℕ). (192 + n / 256) ∷ b ∷ []) low

aimed : (bytes : List ℕ) (start at offset : ℕ) → Stands bytes at ((192 + offset / 256) ∷ offset % 256 ∷ []) → offset < start → target_at bytes start at ≡ Ok offset
unfolding target_at
aimed bytes start at offset s h =
    let low = byte_is bytes (at + 1) (offset % 256) [] (last_part bytes at ((192 + offset / 256) ∷ []) (offset % 256 ∷ []) s) in
    let high = index_is bytes at (192 + offset / 256) (offset % 256 ∷ []) s in
    let whole : (192 + offset / 256 - 192) * 256 + offset % 256 ≡ offset = omega arith in
    let below : ltb offset start ≡ true = lt-ltb offset start h in
    rw (low, high, whole, below) refl

pub pointer_step : (turns : ℕ) (bytes : List ℕ) (start at used offset : ℕ) (name : List (List ℕ)) (stop : ℕ) → Stands bytes at (pointer_to offset)
    → offset < start → offset < 16384 → labels_at turns bytes offset offset used ≡ Ok (name, stop)
    → labels_at (suc turns) bytes start at used ≡ Ok (name, at + 2)
unfolding labels_at
pointer_step turns bytes start at used offset name stop s h small e =
    let t : Stands bytes at ((192 + offset / 256) ∷ offset % 256 ∷ []) = rw (two_bytes offset small) at s in
    let first = byte_is bytes at (192 + offset / 256) (offset % 256 ∷ []) t in
    let some : eqb (192 + offset / 256) 0 ≡ false = ne_eqb (192 + offset / 256) 0 (λ n. absurd (omega arith)) in
    let large : ltb (192 + offset / 256) 64 ≡ false = le-ltb (192 + offset / 256) 64 (omega arith) in
    let larger : ltb (192 + offset / 256) 192 ≡ false = le-ltb (192 + offset / 256) 192 (omega arith) in
    rw (first, some, large, larger, aimed bytes start at offset t h, e) refl
