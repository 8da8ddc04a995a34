use Rattle.std.proofs.Common.{ℕ, List, Option, subst}
use Rattle.std.specs.Io.KnownBytes.{Appends}
use Rattle.mdns_play.specs.Scripts.{note_text}
use Rattle.mdns_play.proofs.Running.{stopped, breaks_played, breaks_bad}
use Rattle.mdns_play.proofs.script.run_numbered.Goals as goal

pub returns-in-Err-BadLine-clause-bad : goal.returns-in-Err-BadLine-clause-bad
returns-in-Err-BadLine-clause-bad g c = λ put played stands.
    let cause = c.in-Err-BadLine.ensures.bad (stopped c.in-Err-BadLine.field-0-is) played stands in
    (cause.0, subst (λ (o : Option (List ℕ)). Appends o (g.K.Sink.held c.put_note.new.output) (note_text c.args.number)) cause.1 (c.put_note.ensures.put put))

pub returns-in-Err-BadLine-clause-broken : goal.returns-in-Err-BadLine-clause-broken
returns-in-Err-BadLine-clause-broken g c = λ fault.
    breaks_bad c.args.hub.now c.args.line.now c.args.number (g.K.Sink.held c.args.output.now) (g.K.Sink.held c.run_line.new.output) (g.K.Sink.held c.put_note.new.output)
    (c.in-Err-BadLine.ensures.bad (stopped c.in-Err-BadLine.field-0-is)) (c.put_note.ensures.part fault)

pub returns-in_default-clause-broken : goal.returns-in_default-clause-broken
returns-in_default-clause-broken g c = λ fault.
    breaks_played c.args.hub.now c.args.line.now c.args.number (g.K.Sink.held c.args.output.now) (g.K.Sink.held c.run_line.new.output) (c.in_default.ensures.broken fault)
