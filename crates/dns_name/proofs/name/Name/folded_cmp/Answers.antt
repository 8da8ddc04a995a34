use Rattle.std.proofs.Common.{◌≡◌, ◌∙◌, ap, sym}
use Rattle.dns_name.specs.Names.{name_cmp, folded}
use Rattle.dns_name.proofs.Folding.{is_name_cmp, name_cmp-equal}
use Rattle.dns_name.proofs.name.Name.folded_cmp.Goals as goal

pub returns-then-is_spelled_as-clause-value : goal.returns-then-is_spelled_as-clause-value
returns-then-is_spelled_as-clause-value c =
    sym ((name_cmp-equal c.args.self.now c.args.other.now).1 (ap folded (c.is_spelled_as.ensures.0 c.if-is_spelled_as.true)))

-- what is answered is the order of the names
tells : (c : goal.After-folded_order) → c.folded_order.result ≡ name_cmp c.args.self.now c.args.other.now
tells c =
    c.folded_order.ensures ∙ is_name_cmp c.args.self.now c.args.other.now c.as_wire.result.now c.as_wire-2.result.now
    c.as_wire.ensures.name c.as_wire-2.ensures.name c.as_wire.ensures.value c.as_wire-2.ensures.value

pub returns-clause-value : goal.returns-clause-value
returns-clause-value c = tells c

pub returns-clause-equal : goal.returns-clause-equal
returns-clause-equal c =
    let equal = name_cmp-equal c.args.self.now c.args.other.now in
    (λ e. equal.0 (sym (tells c) ∙ e), λ same. tells c ∙ equal.1 same)
