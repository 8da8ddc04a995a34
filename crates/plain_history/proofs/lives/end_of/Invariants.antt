use Rattle.std.proofs.Common.{◌≡◌, ◌+◌, drop}
use Rattle.std.specs.Prelude.{map, filter}
use Rattle.lists.specs.Lists.{least_of, until}
use Rattle.mdns_history.specs.Hearings.{Hearing}
use Rattle.mdns_history.specs.Lifetimes.{renews, cuts, end_from}
use Rattle.plain_history.proofs.lives.end_of.Given as goal

abbrev pub invariant-loop-hearing : goal.invariant-loop-hearing
invariant-loop-hearing l =
    least_of l.end (map (λ (hearing : Hearing). hearing.moment + 1000) (filter (cuts l.renewal.rr l.renewal.moment) (until (renews l.renewal.rr) (drop l.hearing-index l.heard))))
    ≡ end_from l.renewal.rr (until (renews l.renewal.rr) l.heard) l.renewal
