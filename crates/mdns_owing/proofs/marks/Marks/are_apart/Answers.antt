use Rattle.std.proofs.Common.{bit_and, eqb-true}
use Rattle.mdns_owing.specs.Marks.{mark_of}
use Rattle.mdns_owing.proofs.Marked.{in_common}
use Rattle.mdns_owing.proofs.marks.Marks.are_apart.Goals as goal

pub returns : goal.returns
returns c = λ none rr has too. in_common c.args.self.bits c.args.others.bits (mark_of rr) (eqb-true (bit_and c.args.self.bits c.args.others.bits) 0 none) has too
