use Rattle.std.proofs.Common.{refl}
use Rattle.std.proofs.lemmas.Result.{on_ok_weaker, on_err_weaker}
use Rattle.mdns_hub.proofs.Happening.{now_done, now_broke}
use Rattle.mdns_hub.proofs.hub.Hub.happen_now.Goals as goal

pub returns-clause-done : goal.returns-clause-done
returns-clause-done g c = on_ok_weaker c.happen.result
    (now_done c.args.number c.args.self.now.clock c.args.event c.args.self.now c.happen.new.self (g.K.Sink.held c.args.output.now) (g.K.Sink.held c.happen.new.output) refl) c.happen.ensures.done

pub returns-clause-part : goal.returns-clause-part
returns-clause-part g c = on_err_weaker c.happen.result
    (now_broke c.args.number c.args.self.now.clock c.args.event c.args.self.now (g.K.Sink.held c.args.output.now) (g.K.Sink.held c.happen.new.output) refl) c.happen.ensures.part
