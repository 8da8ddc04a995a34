use Rattle.std.proofs.Common.{refl, ap}
use Rattle.dns_name.specs.Names.{folded}
use Rattle.dns_name.proofs.Folding.{same_folded, differ_folded, is_folded_eq}
use Rattle.dns_name.proofs.name.Name.folded_eq.Goals as goal

pub returns-then-surely_differ-clause-same : goal.returns-then-surely_differ-clause-same
returns-then-surely_differ-clause-same c =
    differ_folded _ _ _ _ c.as_wire-ours.ensures.name c.as_wire-theirs.ensures.name c.as_wire-ours.ensures.value c.as_wire-theirs.ensures.value
    (c.surely_differ.ensures c.if-surely_differ.true)

pub returns-then-surely_differ-clause-value : goal.returns-then-surely_differ-clause-value
returns-then-surely_differ-clause-value c =
    is_folded_eq _ _ _
    (differ_folded _ _ _ _ c.as_wire-ours.ensures.name c.as_wire-theirs.ensures.name c.as_wire-ours.ensures.value c.as_wire-theirs.ensures.value
    (c.surely_differ.ensures c.if-surely_differ.true))

pub returns-then-is_spelled_as-clause-value : goal.returns-then-is_spelled_as-clause-value
returns-then-is_spelled_as-clause-value c =
    is_folded_eq c.args.self.now c.args.other.now _ (λ yes. ap folded (c.is_spelled_as.ensures.0 c.if-is_spelled_as.true), λ same. refl)

pub returns-clause-same : goal.returns-clause-same
returns-clause-same c =
    same_folded c.args.self.now c.args.other.now c.as_wire-ours.result.now c.as_wire-theirs.result.now c.is_same_folded.result
    c.as_wire-ours.ensures.name c.as_wire-theirs.ensures.name c.as_wire-ours.ensures.value c.as_wire-theirs.ensures.value c.is_same_folded.ensures

pub returns-clause-value : goal.returns-clause-value
returns-clause-value c =
    is_folded_eq c.args.self.now c.args.other.now c.is_same_folded.result
    (same_folded c.args.self.now c.args.other.now c.as_wire-ours.result.now c.as_wire-theirs.result.now c.is_same_folded.result
    c.as_wire-ours.ensures.name c.as_wire-theirs.ensures.name c.as_wire-ours.ensures.value c.as_wire-theirs.ensures.value c.is_same_folded.ensures)
