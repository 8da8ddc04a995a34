use Rattle.std.proofs.Common.{◌≡◌, ◌∙◌, ◌++◌, ◌∷◌, [], List, ℕ, ◌<◌, ◌≤◌, length, arith, sym, ap}
use Rattle.dns_name.proofs.Wire.{push_is_name, label_is}
use Rattle.dns_name.proofs.Spelled.{spelled-dot, dot_empty, dot_ends, some_bytes, no_bytes}
use Rattle.dns_name.proofs.reading.Reading.take_dot.Goals as goal

pub returns-then-is_empty-clause-err : goal.returns-then-is_empty-clause-err
returns-then-is_empty-clause-err c before e = dot_empty before c.self.inside.name c.self.inside.label.items (e ∙ sym c.self.view_is) (no_bytes c.self.inside.label.items c.if-is_empty.ensures)

pub push_bytes-requires-clause-room : goal.push_bytes-requires-clause-room
push_bytes-requires-clause-room c =
    let room = c.self.invariant.1 (some_bytes c.self.inside.label.items (c.if-is_empty.ensures)) in
    omega (arith, room, ap length c.as_slice.ensures.value)

pub returns-clause-ok : goal.returns-clause-ok
returns-clause-ok c before e = (
  dot_ends before c.self.inside.name c.self.inside.label.items (e ∙ sym c.self.view_is) (some_bytes c.self.inside.label.items c.if-is_empty.ensures),
  spelled-dot before ∙ ap (λ (l : List (List ℕ)). l ++ [] ∷ []) (e ∙ sym c.self.view_is ∙ ap (λ (l : List ℕ). c.self.inside.name ++ l ∷ []) (sym c.as_slice.ensures.value) ∙ sym c.push_bytes.ensures)
      ∙ ap (λ (l : List ℕ). c.push_bytes.new.self ++ l ∷ []) (sym c.clear.ensures),
)

pub invariant_of-self : goal.invariant_of-self
invariant_of-self c =
    let some : 0 < length c.self.inside.label.items = some_bytes c.self.inside.label.items c.if-is_empty.ensures in
    let same : length c.as_slice.result.now ≡ length c.self.inside.label.items = ap length c.as_slice.ensures.value in
    let fits : length c.as_slice.result.now ≤ 63 = c.as_slice.ensures.fits in
    let room = c.self.invariant.1 some in (
      rw c.push_bytes.ensures (push_is_name c.self.inside.name c.as_slice.result.now c.self.invariant.0 (label_is c.as_slice.result.now (omega arith) fits) (omega (arith, room))),
      λ h. absurd (omega (arith, ap length c.clear.ensures)),
    )
