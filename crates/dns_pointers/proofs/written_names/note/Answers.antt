use Rattle.std.proofs.Common.{◌≤◌, ◌<◌, ℕ, ap, sym, arith, length, get_or}
use Rattle.std.proofs.lemmas.List.{get_or_past}
use Rattle.dns_name.specs.Names.{wire_of}
use Rattle.dns_pointers.specs.Compressing.{slot_of}
use Rattle.dns_pointers.proofs.Searching.{kept_first, new_first}
use Rattle.dns_pointers.proofs.written_names.note.Goals as goal

pub returns-then-slot-firsts : goal.returns-then-slot-firsts
returns-then-slot-firsts c = λ names name offset slot len h.
    let firsts = c.args.firsts.now in
    let past : length firsts ≤ slot_of (wire_of name) = omega (arith, c.if-slot-firsts.true, slot) in
    kept_first names firsts name offset h (omega (arith, get_or_past firsts (slot_of (wire_of name)) 0 past))

pub returns-then-from-place : goal.returns-then-from-place
returns-then-from-place c = λ names name offset slot len h.
    let firsts = c.args.firsts.now in
    let within : c.args.slot < length firsts = omega (arith, c.if-slot-firsts.false) in
    let past : length names ≤ get_or firsts (slot_of (wire_of name)) 0 =
    omega (arith, c.if-from-place.true, c.from.ensures, len, ap (λ (i : ℕ). get_or firsts i 0) slot) in
    rw (slot, sym len) (new_first names firsts name offset h (omega (arith, within, slot)) past)

pub returns-else-from-place : goal.returns-else-from-place
returns-else-from-place c = λ names name offset slot len h.
    let firsts = c.args.firsts.now in
    kept_first names firsts name offset h (omega (arith, c.if-from-place.false, c.from.ensures, len, ap (λ (i : ℕ). get_or firsts i 0) slot))
