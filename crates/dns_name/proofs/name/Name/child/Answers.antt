use Rattle.std.proofs.Common.{◌≡◌, ◌∙◌, ◌++◌, ◌∷◌, [], List, ℕ, length, arith, ap}
use Rattle.dns_name.specs.Names.{labels_of, IsNameInWire}
use Rattle.dns_name.specs.InPlace.{bytes_in}
use Rattle.dns_name.proofs.Wire.{put_in_front}
use Rattle.dns_name.proofs.name.Name.child.Goals as goal

-- the bytes that are written are the wire form with the label in front
written : (c : goal.After-extend-2) → IsNameInWire (bytes_in c.extend-2.new.self) × (labels_of (bytes_in c.extend-2.new.self) ≡ c.args.label.now ∷ c.args.self.now)
written c =
    let wire = bytes_in c.self.inside.wire in
    let label = c.as_slice-label.result.now in
    let total : c.len.result ≡ length wire = c.len.ensures in
    let parts = put_in_front wire label (bytes_in c.push.new.self) (bytes_in c.extend.new.self) (bytes_in c.extend-2.new.self)
    c.args.self.now c.self.invariant c.self.view_is c.as_slice-label.ensures.label (omega arith)
    (c.push.ensures ∙ ap (λ (l : List ℕ). l ++ length label ∷ []) c.new-wire.ensures) c.extend.ensures
    (c.extend-2.ensures ∙ ap (λ (l : List ℕ). bytes_in c.extend.new.self ++ l) c.as_slice.ensures) in
    (parts.0, parts.1 ∙ ap (λ (l : List ℕ). l ∷ c.args.self.now) c.as_slice-label.ensures.value)

pub invariant_of-result : goal.invariant_of-result
invariant_of-result c = (written c).0

pub returns-clause-child : goal.returns-clause-child
returns-clause-child c = (written c).1
