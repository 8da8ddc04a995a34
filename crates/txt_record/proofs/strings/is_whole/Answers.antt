use Rattle.txt_record.proofs.Runs.{run_short, run_more}
use Rattle.txt_record.proofs.strings.is_whole.Goals as goal

pub returns-then-after-size : goal.returns-then-after-size
returns-then-after-size c = run_short c.args.bytes.now _ _ _ _ c.strings.invariant c.in-Some.ensures.cases.0 c.from-size.ensures c.if-after-size.true

pub strings-preserved : goal.strings-preserved
strings-preserved c = run_more c.args.bytes.now _ _ _ _ c.strings.invariant c.in-Some.ensures.cases.0 c.from-size.ensures c.if-after-size.false
