use Rattle.dns_name.specs.Names.{labels_of}
use Rattle.dns_pointers.proofs.Searching.{none_behind}
use Rattle.dns_pointers.proofs.written_names.find_behind.Goals as goal

pub returns-then-first-names-clause-value : goal.returns-then-first-names-clause-value
returns-then-first-names-clause-value c = none_behind c.args.names.now (labels_of c.args.wire.now) c.args.first c.if-first-names.true
