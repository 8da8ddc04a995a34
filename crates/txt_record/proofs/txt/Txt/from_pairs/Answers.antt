use Rattle.txt_record.proofs.Runs.{is_txt-made, strings_of-made}
use Rattle.txt_record.proofs.Refusals.{entry_fits, data_passes, written_all}
use Rattle.txt_record.specs.Pairs.{keys_of, entries_of}
use Rattle.txt_record.proofs.txt.Txt.from_pairs.Goals as goal

pub write_entry-requires : goal.write_entry-requires
write_entry-requires c = entry_fits _ _ _ _ _ c.in_default.ensures c.loop-pair-test.true c.pair-item.is c.as_slice.ensures c.value.ensures

pub invariant_of-result : goal.invariant_of-result
invariant_of-result c =
    let pairs = c.args.pairs.now in
    is_txt-made _ _ (written_all _ pairs _ c.loop-pair.invariant c.loop-pair-test.false) (data_passes (keys_of pairs) (entries_of pairs) (entries_of pairs) c.in_default.ensures)

pub returns-clause-ok : goal.returns-clause-ok
returns-clause-ok c = strings_of-made _ _ (written_all _ c.args.pairs.now _ c.loop-pair.invariant c.loop-pair-test.false)
