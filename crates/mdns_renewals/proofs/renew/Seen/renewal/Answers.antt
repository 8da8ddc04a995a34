use Rattle.std.proofs.Common.{◌∙◌, ap, sym}
use Rattle.mdns_happened.specs.Told.{told_by}
use Rattle.mdns_renewals.specs.Occasions.{ends_by}
use Rattle.mdns_renewals.specs.Seen.{occasion_in}
use Rattle.mdns_renewals.proofs.Renewed.{ended_none, touched_some}
use Rattle.mdns_renewals.proofs.renew.Seen.renewal.Goals as goal

pub returns-then-ends-clause-value : goal.returns-then-ends-clause-value
returns-then-ends-clause-value c =
    sym (ended_none (occasion_in c.args.self.now) c.args.one.now
    (sym (c.ends.ensures ∙ ap (ends_by (told_by c.args.self.now.happened.now) c.args.self.now.marks.now) c.naming.ensures.naming) ∙ c.if-ends.true))

pub returns-then-touches-clause-value : goal.returns-then-touches-clause-value
returns-then-touches-clause-value c =
    touched_some (occasion_in c.args.self.now) c.args.one.now c.in_ok-renewal.renewal
    (sym (c.ends.ensures ∙ ap (ends_by (told_by c.args.self.now.happened.now) c.args.self.now.marks.now) c.naming.ensures.naming) ∙ c.if-ends.false)
    (sym c.touches.ensures ∙ c.if-touches.true) c.in_ok-renewal.ensures.value.0 c.in_ok-renewal.ensures.value.1
