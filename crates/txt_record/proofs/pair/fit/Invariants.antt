use Rattle.std.proofs.Common.{◌≡◌, ◌+◌, drop, length}
use Rattle.txt_record.specs.Strings.{txt_data}
use Rattle.txt_record.specs.Pairs.{entries_of}
use Rattle.txt_record.proofs.pair.fit.Given as goal

abbrev pub invariant-loop-pair : goal.invariant-loop-pair
invariant-loop-pair l =
    length (txt_data (entries_of l.pairs)) + l.left ≡ 8192 + length (txt_data (entries_of (drop l.pair-index l.pairs)))
