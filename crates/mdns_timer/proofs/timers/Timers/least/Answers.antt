use Rattle.std.proofs.Common.{ap, ◌∙◌, sym, map}
use Rattle.lists.specs.Lists.{least}
use Rattle.mdns_timer.specs.Timing.{Timing}
use Rattle.mdns_timer.proofs.Pairs.{least_moment}
use Rattle.mdns_timer.proofs.timers.Timers.least.Goals as goal

pub returns : goal.returns
returns c =
    c.first_moment.ensures
    ∙ sym (least_moment c.self.inside.pairs.items c.self.invariant)
    ∙ ap (λ (t : Timing). least (map (λ pair. pair.0) t.pairs)) c.self.view_is
