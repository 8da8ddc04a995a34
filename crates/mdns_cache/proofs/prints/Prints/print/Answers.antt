use Rattle.std.proofs.Common.{◌∙◌, ap}
use Rattle.std.specs.List.{fold}
use Rattle.std.specs.Hash as fed
use Rattle.std.specs.Hash.DefaultHasher as sip
use Rattle.dns_record.specs.Records.{data_of}
use Rattle.by_name.specs.At.{At}
use Rattle.mdns_cache.specs.Printed.{written, print_of}
use Rattle.mdns_cache.proofs.prints.Prints.print.Goals as goal

pub returns : goal.returns
unfolding print_of
returns c =
    let owner = c.write.ensures ∙ ap (written c.args.self.now.start) (c.owner.ensures ∙ ap (λ (k : At). k.owner) c.new-owner.ensures) in
    c.finish.ensures
    ∙ ap sip.finish
    (c.write_data.ensures ∙ ap (λ s. written s (data_of c.args.rr.now.rdata)) (c.write_u16.ensures ∙ (λ i. fold sip.write (owner i) (fed.u16 (c.kind.ensures i)))))
