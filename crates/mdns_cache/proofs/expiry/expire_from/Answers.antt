use Rattle.std.proofs.Common.{Option, Some, None}
use Rattle.std.specs.Prelude.{IfSome}
use Rattle.mdns_cache.proofs.EndsFirst.{held_without}
use Rattle.mdns_cache.proofs.expiry.expire_from.Goals as goal

if_some : {X : Type 0} (o : Option X) (P Q : X → Type 0) → ((x : X) → P x → Q x) → IfSome o P → IfSome o Q
if_some None P Q gives h = tt
if_some (Some x) P Q gives h = gives x h

pub returns-clause-taken : goal.returns-clause-taken
returns-clause-taken c =
    if_some c.take_out.result _ _
    (λ one without. held_without c.in_ok-place.place.owner c.in_ok-place.place.number one c.args.records.now.entries c.take_out.new.records.entries without) c.take_out.ensures.without
