use Rattle.std.proofs.Common.{◌≡◌, inl, inr, ◌≤◌, ◌<◌, sym, ◌∙◌, ◌++◌, ◌∷◌, [], List, ℕ, length, filter, ltb, arith, ap}
use Rattle.dns_name.proofs.Wire.{name_each, push_is_name, label_is}
use Rattle.dns_name.proofs.Spelled.{finished, finished_dot, some_bytes, no_bytes, no_list}
use Rattle.dns_name.proofs.reading.Reading.finish.Goals as goal

pub push_bytes-requires-clause-room : goal.push_bytes-requires-clause-room
push_bytes-requires-clause-room c =
    let room = c.self.invariant.1 (some_bytes c.self.inside.label.items (c.if-not-is_empty.ensures)) in
    omega (arith, room, ap length c.as_slice.ensures.value)

pub returns-then-not-is_empty-clause-value : goal.returns-then-not-is_empty-clause-value
returns-then-not-is_empty-clause-value c =
    c.push_bytes.ensures ∙ ap (λ (l : List ℕ). c.self.inside.name ++ l ∷ []) c.as_slice.ensures.value
    ∙ finished c.self.inside.name c.self.inside.label.items (name_each c.self.inside.name c.self.invariant.0) (some_bytes c.self.inside.label.items c.if-not-is_empty.ensures)
    ∙ ap (filter (λ l. ltb 0 (length l))) c.self.view_is

pub returns-else-not-is_empty-clause-value : goal.returns-else-not-is_empty-clause-value
returns-else-not-is_empty-clause-value c =
    finished_dot c.self.inside.name c.self.inside.label.items (name_each c.self.inside.name c.self.invariant.0) (no_bytes c.self.inside.label.items c.if-not-is_empty.ensures)
    ∙ ap (filter (λ l. ltb 0 (length l))) c.self.view_is

pub returns-then-not-is_empty-clause-name : goal.returns-then-not-is_empty-clause-name
returns-then-not-is_empty-clause-name c =
    let some : 0 < length c.self.inside.label.items = some_bytes c.self.inside.label.items c.if-not-is_empty.ensures in
    let same : length c.as_slice.result.now ≡ length c.self.inside.label.items = ap length c.as_slice.ensures.value in
    let fits : length c.as_slice.result.now ≤ 63 = c.as_slice.ensures.fits in
    let room = c.self.invariant.1 some in
    rw c.push_bytes.ensures (push_is_name c.self.inside.name c.as_slice.result.now c.self.invariant.0 (label_is c.as_slice.result.now (omega arith) fits) (omega (arith, room)))

pub returns-then-not-is_empty-clause-ends : goal.returns-then-not-is_empty-clause-ends
returns-then-not-is_empty-clause-ends c =
    inr (sym c.self.view_is ∙ ap (λ (l : List ℕ). c.self.inside.name ++ l ∷ []) (sym c.as_slice.ensures.value) ∙ sym c.push_bytes.ensures)

pub returns-else-not-is_empty-clause-name : goal.returns-else-not-is_empty-clause-name
returns-else-not-is_empty-clause-name c = c.self.invariant.0

pub returns-else-not-is_empty-clause-ends : goal.returns-else-not-is_empty-clause-ends
returns-else-not-is_empty-clause-ends c =
    let none = no_list c.self.inside.label.items (no_bytes c.self.inside.label.items c.if-not-is_empty.ensures) in
    inl (sym c.self.view_is ∙ ap (λ (l : List ℕ). c.self.inside.name ++ l ∷ []) none)
