use Rattle.std.proofs.Common.{◌∙◌, inl, inr, sym}
use Rattle.mdns_streams.proofs.Reading.{read_as}
use Rattle.mdns_play.specs.Statuses.{most_bytes, PlaysScript, Stops, BreaksOff}
use Rattle.mdns_play.proofs.Running.{from_done, from_bad, from_write_fault, from_no_memory}
use Rattle.mdns_play.proofs.script.run_script.Goals as goal

pub returns-in-Ok-clause-done : goal.returns-in-Ok-clause-done
returns-in-Ok-clause-done g c = λ status. let old = g.K.Sink.held c.args.output.now in let new = g.K.Sink.held c.run_lines.new.output in
    read_as most_bytes (g.S.Source.left c.args.input.now) (g.S.Source.left c.read_all.new.input) c.in-Ok.script.items (λ script. PlaysScript script old new) c.in-Ok.ensures.all
    (rw c.as_slice.ensures.value at (from_done c.run_lines.result c.run_lines.ensures.done (sym c.status_of.ensures ∙ status)))

pub returns-in-Ok-clause-bad : goal.returns-in-Ok-clause-bad
returns-in-Ok-clause-bad g c = λ status. let old = g.K.Sink.held c.args.output.now in let new = g.K.Sink.held c.run_lines.new.output in
    read_as most_bytes (g.S.Source.left c.args.input.now) (g.S.Source.left c.read_all.new.input) c.in-Ok.script.items (λ script. Stops script old new) c.in-Ok.ensures.all
    (rw c.as_slice.ensures.value at (c.run_lines.ensures.bad (from_bad c.run_lines.result (sym c.status_of.ensures ∙ status))))

pub returns-in-Ok-clause-broken : goal.returns-in-Ok-clause-broken
returns-in-Ok-clause-broken g c = λ status. let old = g.K.Sink.held c.args.output.now in let new = g.K.Sink.held c.run_lines.new.output in
    read_as most_bytes (g.S.Source.left c.args.input.now) (g.S.Source.left c.read_all.new.input) c.in-Ok.script.items (λ script. BreaksOff script old new) c.in-Ok.ensures.all
    (rw c.as_slice.ensures.value at (c.run_lines.ensures.broken (inl (from_write_fault c.run_lines.result (sym c.status_of.ensures ∙ status)))))

pub returns-in-Ok-clause-memory : goal.returns-in-Ok-clause-memory
returns-in-Ok-clause-memory g c = λ status. let old = g.K.Sink.held c.args.output.now in let new = g.K.Sink.held c.run_lines.new.output in
    inr (read_as most_bytes (g.S.Source.left c.args.input.now) (g.S.Source.left c.read_all.new.input) c.in-Ok.script.items (λ script. BreaksOff script old new) c.in-Ok.ensures.all
    (rw c.as_slice.ensures.value at (c.run_lines.ensures.broken (inr (from_no_memory c.run_lines.result (sym c.status_of.ensures ∙ status))))))
