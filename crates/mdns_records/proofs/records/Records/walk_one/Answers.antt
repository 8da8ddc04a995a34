use Rattle.std.proofs.Common.{◌∙◌, sym, ap, filter}
use Rattle.mdns_records.specs.After.{held_after, is_named}
use Rattle.mdns_records.proofs.Later.{later_of}
use Rattle.mdns_records.proofs.records.Records.walk_one.Goals as goal

pub returns-clause-walk : goal.returns-clause-walk
returns-clause-walk g c = record {
  earlier = c.in_ok-earlier.ensures.held;
  later = c.in_ok-later.ensures
      ∙ ap (held_after c.args.when.moment c.args.when.word (filter (is_named c.args.name) c.args.heard.now)) (c.deref.ensures.value ∙ c.in_ok-earlier.ensures.held)
      ∙ sym (later_of c.args.name c.args.when.moment c.args.when.word c.args.heard.now c.args.self.now.held);
}

pub returns-clause-own : goal.returns-clause-own
returns-clause-own g c = record { earlier = c.none.ensures.earlier; later = c.none.ensures.later }
