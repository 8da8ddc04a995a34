use Rattle.std.proofs.Common.{arith}
use Rattle.dns_pointers.proofs.NameParts.{cut_in}
use Rattle.dns_pointers.proofs.compressing.behind_label.Goals as goal

pub split_at-requires : goal.split_at-requires
split_at-requires c = let at = cut_in c.args.wire.now c.requires.name c.requires.some in omega (arith, at.within, c.from.ensures)

pub returns : goal.returns
returns c = rw (c.split_at.ensures.back, c.from.ensures) (cut_in c.args.wire.now c.requires.name c.requires.some).cut
