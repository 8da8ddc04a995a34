use Rattle.mdns_serve.proofs.Tends.{tended_one}
use Rattle.mdns_serve.proofs.ticking.tend_if_due.Goals as goal

pub returns-then-due-now-clause-tended : goal.returns-then-due-now-clause-tended
returns-then-due-now-clause-tended g c = tended_one c.now-now.result c.word-word.result _ _ _ _ _ _ _ c.tend.ensures.tends
