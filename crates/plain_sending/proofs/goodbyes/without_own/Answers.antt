use Rattle.std.proofs.Common.{◌∙◌, List, ap}
use Rattle.lists.specs.Lists.{without}
use Rattle.dns_record.specs.declared.record.Rr.{Rr}
use Rattle.dns_record.specs.Records.{same}
use Rattle.plain_sending.proofs.goodbyes.without_own.Goals as goal

pub returns : goal.returns
returns c = c.in_ok-left.ensures ∙ ap (λ (l : List Rr). without same c.args.rrs.items l) (c.deref.ensures.value ∙ c.in_ok-own.ensures)
