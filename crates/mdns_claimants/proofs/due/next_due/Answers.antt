use Rattle.std.proofs.Common.{◌≡◌, ◌∙◌, true, ap, sym}
use Rattle.std.specs.List.{flat_map}
use Rattle.lists.specs.Lists.{least}
use Rattle.mdns_claimants.specs.Due.{next_in}
use Rattle.mdns_claimants.proofs.Told.{told_least, told_never}
use Rattle.mdns_claimants.proofs.due.next_due.Goals as goal

pub returns-then-least-lt-LAST_MOMENT : goal.returns-then-least-lt-LAST_MOMENT
returns-then-least-lt-LAST_MOMENT c =
    let yes : c.args.announces ≡ true = c.if-not-announces.false in
    told_least c.args.groups.now c.in_ok-least.least (sym c.in_ok-least.was ∙ c.least.ensures ∙ ap least c.requires) c.if-least-lt-LAST_MOMENT.true
    ∙ ap (λ b. least (flat_map (next_in b) c.args.groups.now)) (sym yes)

pub returns-then-least-gt-LAST_MOMENT : goal.returns-then-least-gt-LAST_MOMENT
returns-then-least-gt-LAST_MOMENT c =
    let yes : c.args.announces ≡ true = c.if-not-announces.false in
    told_never c.args.groups.now c.in_ok-least.least (sym c.in_ok-least.was ∙ c.least.ensures ∙ ap least c.requires) c.if-least-gt-LAST_MOMENT.true
    ∙ ap (λ b. least (flat_map (next_in b) c.args.groups.now)) (sym yes)
