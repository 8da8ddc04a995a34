use Rattle.std.proofs.Common.{◌∙◌, sym, arith}
use Rattle.dns_pointers.proofs.NameParts.{cut_in}
use Rattle.dns_pointers.proofs.Searching.{mixed_step, mixed_end}
use Rattle.dns_pointers.proofs.written_names.slot_of.Goals as goal

pub split_at-requires : goal.split_at-requires
split_at-requires c = let at = cut_in c.args.wire.now c.requires.name c.requires.some in omega (arith, at.within, c.from.ensures)

pub loop-byte-preserved : goal.loop-byte-preserved
loop-byte-preserved c = record {
  same =
      sym (mixed_step c.split_at.result.0.now c.loop-byte.byte-index c.from-in-loop-byte.result c.loop-byte.slot c.loop-byte-test.true c.from-in-loop-byte.ensures)
      ∙ c.loop-byte.invariant.same;
  most = omega arith;
}

pub returns-clause-value : goal.returns-clause-value
returns-clause-value c = sym (mixed_end _ c.loop-byte.byte-index c.loop-byte.slot c.loop-byte-test.false) ∙ c.loop-byte.invariant.same
