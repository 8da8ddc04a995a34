use Rattle.std.proofs.Common.{◌≡◌, ◌++◌, ◌∷◌, []}
use Rattle.dns_name.specs.Names.{labels_of, IsNameInWire}
use Rattle.dns_name.specs.InPlace.{bytes_in}
use Rattle.dns_name.proofs.Wire.{pushed}
use Rattle.dns_name.proofs.name.Name.push_bytes.Goals as goal

-- the bytes that are written are the wire form with the label at its end
written : (c : goal.After-push-2) → IsNameInWire (bytes_in c.push-2.new.self) × (labels_of (bytes_in c.push-2.new.self) ≡ c.args.self.now ++ c.args.label.now ∷ [])
written c =
    pushed (bytes_in c.self.inside.wire) c.args.label.now (bytes_in c.pop.new.self) (bytes_in c.push.new.self) (bytes_in c.extend.new.self) (bytes_in c.push-2.new.self)
    c.args.self.now c.self.invariant c.self.view_is c.requires.label c.requires.room c.pop.ensures c.push.ensures c.extend.ensures c.push-2.ensures

pub invariant_of-self : goal.invariant_of-self
invariant_of-self c = (written c).0

pub returns : goal.returns
returns c = (written c).1
