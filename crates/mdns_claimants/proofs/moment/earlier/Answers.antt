use Rattle.std.proofs.Common.{◌∙◌, Some, ap, sym}
use Rattle.mdns_timer.proofs.LeastBoth.{least-both}
use Rattle.mdns_claimants.proofs.moment.earlier.Goals as goal

pub returns-in-Some-Some : goal.returns-in-Some-Some
returns-in-Some-Some c = λ ones others first second.
    ap Some c.min.ensures ∙ least-both c.in-Some-Some.one c.in-Some-Some.other ones others (sym c.in-Some-Some.is-0 ∙ first) (sym c.in-Some-Some.is-1 ∙ second)
