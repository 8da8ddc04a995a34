use Rattle.std.proofs.Common.{◌∙◌, position, sym, ap}
use Rattle.std.specs.Map.{keys_of}
use Rattle.dns_record.specs.declared.record.Rr.{Rr}
use Rattle.dns_record.specs.Records.{same}
use Rattle.mdns_reply.specs.Lasts.{last_of}
use Rattle.mdns_reply.proofs.Taking.{taken_out, missing, none_found}
use Rattle.mdns_reply.proofs.moments.take_out.Goals as goal

pub returns-in-Some-clause-lasts : goal.returns-in-Some-clause-lasts
returns-in-Some-clause-lasts c = λ other.
    taken_out c.args.moments.now c.swap_remove_index.new.self c.args.rr.now other c.in-Some.index c.swap_remove_index.result
    (c.in-Some.ensures.index ∙ ap (λ (r : Rr). position (same r) (keys_of c.args.moments.now.entries)) c.sought.ensures) c.in-Some.ensures.within c.swap_remove_index.ensures.entry c.swap_remove_index.ensures.updates

pub returns-in_default-clause-lasts : goal.returns-in_default-clause-lasts
returns-in_default-clause-lasts c = λ other.
    missing c.args.rr.now other c.args.moments.now.entries (ap (λ (r : Rr). last_of r c.args.moments.now.entries) (sym c.sought.ensures) ∙ none_found (last_of c.sought.result c.args.moments.now.entries) c.in_default.ensures.found)
