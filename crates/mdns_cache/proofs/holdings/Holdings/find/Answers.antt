use Rattle.std.proofs.Common.{◌≡◌, ◌∙◌, List, false, ap, subst}
use Rattle.std.specs.Prelude.{IfNone}
use Rattle.std.specs.List.{AllByRecursion}
use Rattle.std.specs.Map.{values_of}
use Rattle.dns_record.specs.Records.{same}
use Rattle.mdns_history.specs.declared.held.Held.{Held}
use Rattle.by_name.specs.Filed.{Filing}
use Rattle.mdns_cache.proofs.holdings.Holdings.find.Goals as goal

pub returns-clause-none : goal.returns-clause-none
returns-clause-none c =
    subst (λ (l : List Held). IfNone c.find.result (AllByRecursion (λ (one : Held). same one.rr c.args.rr.now ≡ false) l)) (c.values.ensures ∙ ap (λ (v : Filing Held). values_of v.entries) c.self.view_is)
    c.find.ensures.none
