use Rattle.std.proofs.Common.{◌∙◌, sym, subst}
use Rattle.mdns_owing.specs.Satisfied.{AreTold}
use Rattle.mdns_owing.specs.declared.satisfied.Satisfied.{Satisfied}
use Rattle.mdns_owing.proofs.Told.{told_owed, told_first}
use Rattle.mdns_owing.proofs.satisfied.Satisfied.with.Goals as goal

pub returns-then-is_owed : goal.returns-then-is_owed
returns-then-is_owed c = λ queries query within owed told. told_owed c.args.place c.args.self queries query within (sym owed ∙ c.if-is_owed.true) told

pub returns-in-Nobody : goal.returns-in-Nobody
returns-in-Nobody c = λ queries query within owed told.
    told_first c.args.place queries query within (sym owed ∙ c.if-is_owed.false) (subst (λ (satisfied : Satisfied). AreTold c.args.place satisfied queries) c.in-Nobody.is told)
