use Rattle.std.proofs.Common.{sym, subst}
use Rattle.mdns_happened.specs.Told.{told_by}
use Rattle.mdns_claims.specs.Planned.{Means}
use Rattle.mdns_claimants.specs.Typed.{HaveData}
use Rattle.mdns_claims.proofs.Typed.{behind_data}
use Rattle.mdns_claims.proofs.claims.Claims.behind.Goals as goal

pub returns-clause-data : goal.returns-clause-data
returns-clause-data c = λ is_for.
    let means : Means = record { moment = c.at.result; announces = c.self.inside.announces; told = told_by c.args.happened.now; marks = c.as_slice-2.result.now } in
    behind_data means c.as_slice.result.now c.args.plan.now.deed is_for.brought (subst HaveData (sym c.as_slice.ensures) c.self.invariant.0)
