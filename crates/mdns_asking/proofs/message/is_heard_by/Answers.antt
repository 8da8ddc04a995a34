use Rattle.std.proofs.Common.{sym, subst}
use Rattle.mdns_cache.specs.Lifetimes.{AllHeard}
use Rattle.mdns_asking.proofs.OfNames.{later_heard}
use Rattle.mdns_asking.proofs.message.is_heard_by.Goals as goal

pub is_asked_by-requires : goal.is_asked_by-requires
is_asked_by-requires c = subst (AllHeard c.args.when.moment) (sym c.later_of.ensures) (later_heard c.args.when.moment c.args.one.now.key.name c.args.walks.now c.requires)
