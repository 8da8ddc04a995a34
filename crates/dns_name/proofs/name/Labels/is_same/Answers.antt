use Rattle.std.proofs.Common.{◌∙◌, sym, ap, subst}
use Rattle.std.specs.Prelude.{IsTrue}
use Rattle.dns_name.specs.Names.{is_name, wire_of}
use Rattle.dns_name.proofs.Folding.{same_folded}
use Rattle.dns_name.proofs.name.Labels.is_same.Goals as goal

pub returns : goal.returns
returns c =
    same_folded c.args.self.now c.args.name.now c.self.inside.wire.now c.as_wire.result.now c.is_same_folded.result
    (subst (λ n. IsTrue (is_name n)) c.self.view_is c.self.invariant.0) c.as_wire.ensures.name
    (sym c.self.invariant.1 ∙ ap wire_of c.self.view_is) c.as_wire.ensures.value c.is_same_folded.ensures
