use Rattle.mdns_streams.proofs.Reading.{read_as}
use Rattle.mdns_check.specs.Statuses.{most_bytes, Says, Begins}
use Rattle.mdns_check.proofs.top.mdns_check.Goals as goal

pub returns-in-Ok-clause-told : goal.returns-in-Ok-clause-told
returns-in-Ok-clause-told g c = λ status. let old = g.K.Sink.held c.args.output.now in let new = g.K.Sink.held c.tell.new.output in
    read_as most_bytes (g.S.Source.left c.args.input.now) (g.S.Source.left c.read_all.new.input) c.in-Ok.text.items (λ text. Says text old new c.tell.result) c.in-Ok.ensures.all
    (rw c.as_slice.ensures.value at (c.tell.ensures.told status))

pub returns-in-Ok-clause-broken : goal.returns-in-Ok-clause-broken
returns-in-Ok-clause-broken g c = λ status. let old = g.K.Sink.held c.args.output.now in let new = g.K.Sink.held c.tell.new.output in
    read_as most_bytes (g.S.Source.left c.args.input.now) (g.S.Source.left c.read_all.new.input) c.in-Ok.text.items (λ text. Begins text old new) c.in-Ok.ensures.all
    (rw c.as_slice.ensures.value at (c.tell.ensures.broken status))
