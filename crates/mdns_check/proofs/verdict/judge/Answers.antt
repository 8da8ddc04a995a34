use Rattle.mdns_check.proofs.Judged.{few_rows}
use Rattle.mdns_check.proofs.verdict.judge.Goals as goal

pub check-requires : goal.check-requires
check-requires c = few_rows c.in-Ok.transcript c.args.text.now c.in-Ok.ensures.rows c.requires
