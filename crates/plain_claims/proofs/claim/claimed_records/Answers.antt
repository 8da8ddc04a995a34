use Rattle.std.proofs.Common.{◌∙◌, List, ap}
use Rattle.std.specs.List.{list_all}
use Rattle.dns_name.specs.Names.{folded_eq}
use Rattle.dns_record.specs.declared.record.Rr.{Rr}
use Rattle.mdns_history.specs.Groups.{group_name}
use Rattle.plain_claims.proofs.Named.{unique_named}
use Rattle.plain_claims.proofs.claim.claimed_records.Goals as goal

pub returns-clause-named : goal.returns-clause-named
returns-clause-named c =
    let group = c.args.group.now in
    let history = c.args.history.now in
    ap (λ (rrs : List Rr). list_all (λ rr. folded_eq rr.owner (group_name group history)) rrs) c.in_ok-records.ensures ∙ unique_named group history
