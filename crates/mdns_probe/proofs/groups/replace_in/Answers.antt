use Rattle.std.proofs.Common.{◌≡◌, set, get_or, ap, ◌∙◌}
use Rattle.mdns_probe.specs.Claiming.{replaced}
use Rattle.mdns_probe.proofs.FirstOf.{is_first, changed_there, unchanged}
use Rattle.mdns_probe.proofs.groups.replace_in.Goals as goal

pub returns-in-Some : goal.returns-in-Some
returns-in-Some c =
    ap (set c.args.claims.now c.in-Some.place) c.replace.ensures
    ∙ changed_there c.args.group (replaced c.args.now c.args.unique c.args.shared) c.args.claims.now c.in-Some.place c.index-claims-place.result
    (is_first c.args.group c.args.claims.now c.in-Some.place c.index-claims-place.result c.in-Some.ensures)

pub returns-in_default : goal.returns-in_default
returns-in_default c = unchanged c.args.group (replaced c.args.now c.args.unique c.args.shared) c.args.claims.now c.in_default.ensures
