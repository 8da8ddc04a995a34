use Rattle.std.proofs.lemmas.Result.{on_ok_weaker, on_err_weaker}
use Rattle.mdns_hub.proofs.Runs.{advances_then, breaks_then}
use Rattle.mdns_hub.proofs.hub.Hub.pass.Goals as goal

pub returns-clause-done : goal.returns-clause-done
returns-clause-done g c = on_ok_weaker c.tick_all.result
    (advances_then c.args.moment c.args.self.now c.hear_all.new.self c.tick_all.new.self (g.K.Sink.held c.args.output.now) (g.K.Sink.held c.hear_all.new.output) (g.K.Sink.held c.tick_all.new.output)
    c.in_ok-hear_all.ensures.done)
    c.tick_all.ensures.done

pub returns-clause-part : goal.returns-clause-part
returns-clause-part g c = on_err_weaker c.tick_all.result
    (breaks_then c.args.moment c.args.self.now c.hear_all.new.self (g.K.Sink.held c.args.output.now) (g.K.Sink.held c.hear_all.new.output) (g.K.Sink.held c.tick_all.new.output)
    c.in_ok-hear_all.ensures.done)
    c.tick_all.ensures.part
