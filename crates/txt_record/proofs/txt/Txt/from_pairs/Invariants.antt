use Rattle.std.proofs.Common.{◌≡◌, ◌++◌, drop}
use Rattle.txt_record.specs.Strings.{txt_data}
use Rattle.txt_record.specs.Pairs.{entries_of}
use Rattle.txt_record.proofs.txt.Txt.from_pairs.Given as goal

abbrev pub invariant-loop-pair : goal.invariant-loop-pair
invariant-loop-pair l = l.bytes.items ++ txt_data (entries_of (drop l.pair-index l.pairs)) ≡ txt_data (entries_of l.pairs)
