use Rattle.std.proofs.Common.{sym, subst}
use Rattle.by_name.specs.Filed.{Filing, AllOwned}
use Rattle.by_name.proofs.filing.ByName.take_out.Goals as goal

pub returns-clause-owned : goal.returns-clause-owned
returns-clause-owned g c = λ test owned.
    c.take_out-taken.ensures.owned test (subst (λ (v : Filing g.row.T.Denot). AllOwned test v.entries) (sym c.self.view_is) owned)
