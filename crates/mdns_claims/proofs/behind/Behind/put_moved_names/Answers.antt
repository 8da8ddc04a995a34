use Rattle.std.proofs.Common.{ap, ◌∙◌}
use Rattle.mdns_claims.specs.Later.{groups_behind}
use Rattle.mdns_claimants.specs.Owned.{is_among, own_in}
use Rattle.mdns_claims.proofs.Moving.{moved_among}
use Rattle.mdns_claims.proofs.behind.Behind.put_moved_names.Goals as goal

pub returns-clause-moved : goal.returns-clause-moved
returns-clause-moved c = λ name moved.
    c.in_ok-put_moved_of.ensures.moved name
    (ap (λ (l : _). is_among l name) c.deref.ensures.value
    ∙ moved_among c.put_names.new.names.items name (own_in c.args.self.now.groups.now) (own_in (groups_behind c.args.self.now)) (c.in_ok-put_names.ensures.changed name) moved)
    moved
