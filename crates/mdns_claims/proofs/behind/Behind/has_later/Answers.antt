use Rattle.std.proofs.Common.{sym}
use Rattle.std.specs.Option.{option_map}
use Rattle.mdns_claims.specs.Later.{later_of, shown_of}
use Rattle.mdns_claims.specs.Seen.{means_in}
use Rattle.mdns_claims.proofs.Stays.{none_shown}
use Rattle.mdns_claims.proofs.behind.Behind.has_later.Goals as goal

pub returns-then-not-may_have : goal.returns-then-not-may_have
returns-then-not-may_have c =
    sym (none_shown c.args.rr.now (option_map shown_of (later_of (means_in c.args.self.now.means) c.args.self.now.deed.now c.args.place c.args.one.now))
    (c.may_have.ensures c.if-not-may_have.true c.args.place c.args.rr.now.owner c.requires))
