use Rattle.std.proofs.Common.{ℕ, sym, subst, OnOk, OnErr}
use Rattle.mdns_script.specs.declared.command.Command.{Command}
use Rattle.mdns_hub.specs.Plays.{Does, RunsTo, AreSomeDone}
use Rattle.mdns_hub.specs.Output.{DoesPart}
use Rattle.mdns_hub.specs.Hubs.{Advances, BreaksIn}
use Rattle.mdns_hub.proofs.Goodness.{sets_done, sets_broke, good_boot, good_run, good_attach, good_event}
use Rattle.mdns_hub.proofs.Written.{on_err_from}
use Rattle.mdns_hub.proofs.hub.Hub.play.Goals as goal

pub boot-requires-clause-low : goal.boot-requires-clause-low
boot-requires-clause-low g c = (good_boot c.args.self.now c.args.command c.in-Daemon.number c.in-Daemon.config c.in-Daemon.is c.requires).0.0

pub boot-requires-clause-high : goal.boot-requires-clause-high
boot-requires-clause-high g c = (good_boot c.args.self.now c.args.command c.in-Daemon.number c.in-Daemon.config c.in-Daemon.is c.requires).0.1

pub boot-requires-clause-free : goal.boot-requires-clause-free
boot-requires-clause-free g c = (good_boot c.args.self.now c.args.command c.in-Daemon.number c.in-Daemon.config c.in-Daemon.is c.requires).1

pub boot-requires-clause-host : goal.boot-requires-clause-host
boot-requires-clause-host g c = (good_boot c.args.self.now c.args.command c.in-Daemon.number c.in-Daemon.config c.in-Daemon.is c.requires).2

pub run_to-requires : goal.run_to-requires
run_to-requires g c = record { later = rw c.new.ensures ((good_run c.args.self.now c.args.command c.in-At.moment c.in-At.is c.requires).0) }

pub new-requires : goal.new-requires
new-requires g c = (good_run c.args.self.now c.args.command c.in-At.moment c.in-At.is c.requires).1

pub happen_now-requires-clause-kept : goal.happen_now-requires-clause-kept
happen_now-requires-clause-kept g c = good_attach c.args.self.now c.args.command c.in-Attach.daemon c.in-Attach.is c.requires

pub happen_now-requires-in-Event-clause-kept : goal.happen_now-requires-in-Event-clause-kept
happen_now-requires-in-Event-clause-kept g c = (good_event c.args.self.now c.args.command c.in-Event.daemon c.in-Event.event c.in-Event.is c.requires).0

pub happen_now-requires-in-Event-clause-no_boot : goal.happen_now-requires-in-Event-clause-no_boot
happen_now-requires-in-Event-clause-no_boot g c = (good_event c.args.self.now c.args.command c.in-Event.daemon c.in-Event.event c.in-Event.is c.requires).1

pub returns-in-Daemon-clause-done : goal.returns-in-Daemon-clause-done
returns-in-Daemon-clause-done g c =
    subst (λ (x : Command). OnOk c.boot.result (Advances (Does x) c.args.self.now c.boot.new.self (g.K.Sink.held c.args.output.now) (g.K.Sink.held c.boot.new.output))) (sym c.in-Daemon.is) c.boot.ensures.done

pub returns-in-Daemon-clause-part : goal.returns-in-Daemon-clause-part
returns-in-Daemon-clause-part g c =
    subst (λ (x : Command). OnErr c.boot.result (BreaksIn (DoesPart x) c.args.self.now (g.K.Sink.held c.args.output.now) (g.K.Sink.held c.boot.new.output))) (sym c.in-Daemon.is) c.boot.ensures.part

pub returns-in-At-clause-done : goal.returns-in-At-clause-done
returns-in-At-clause-done g c =
    subst (λ (x : Command). OnOk c.run_to.result (Advances (Does x) c.args.self.now c.run_to.new.self (g.K.Sink.held c.args.output.now) (g.K.Sink.held c.run_to.new.output))) (sym c.in-At.is)
    (subst (λ (m : ℕ). OnOk c.run_to.result (Advances (RunsTo m) c.args.self.now c.run_to.new.self (g.K.Sink.held c.args.output.now) (g.K.Sink.held c.run_to.new.output))) c.new.ensures c.run_to.ensures.done)

pub returns-in-At-clause-part : goal.returns-in-At-clause-part
returns-in-At-clause-part g c =
    subst (λ (x : Command). OnErr c.run_to.result (BreaksIn (DoesPart x) c.args.self.now (g.K.Sink.held c.args.output.now) (g.K.Sink.held c.run_to.new.output))) (sym c.in-At.is)
    (subst (λ (m : ℕ). OnErr c.run_to.result (BreaksIn (AreSomeDone m) c.args.self.now (g.K.Sink.held c.args.output.now) (g.K.Sink.held c.run_to.new.output))) c.new.ensures c.run_to.ensures.part)

pub returns-in-Attach-clause-done : goal.returns-in-Attach-clause-done
returns-in-Attach-clause-done g c =
    subst (λ (x : Command). OnOk c.happen_now.result (Advances (Does x) c.args.self.now c.happen_now.new.self (g.K.Sink.held c.args.output.now) (g.K.Sink.held c.happen_now.new.output))) (sym c.in-Attach.is) c.happen_now.ensures.done

pub returns-in-Attach-clause-part : goal.returns-in-Attach-clause-part
returns-in-Attach-clause-part g c =
    subst (λ (x : Command). OnErr c.happen_now.result (BreaksIn (DoesPart x) c.args.self.now (g.K.Sink.held c.args.output.now) (g.K.Sink.held c.happen_now.new.output))) (sym c.in-Attach.is) c.happen_now.ensures.part

pub returns-in-Event-clause-done : goal.returns-in-Event-clause-done
returns-in-Event-clause-done g c =
    subst (λ (x : Command). OnOk c.happen_now-in-Event.result (Advances (Does x) c.args.self.now c.happen_now-in-Event.new.self (g.K.Sink.held c.args.output.now) (g.K.Sink.held c.happen_now-in-Event.new.output))) (sym c.in-Event.is) c.happen_now-in-Event.ensures.done

pub returns-in-Event-clause-part : goal.returns-in-Event-clause-part
returns-in-Event-clause-part g c =
    subst (λ (x : Command). OnErr c.happen_now-in-Event.result (BreaksIn (DoesPart x) c.args.self.now (g.K.Sink.held c.args.output.now) (g.K.Sink.held c.happen_now-in-Event.new.output))) (sym c.in-Event.is) c.happen_now-in-Event.ensures.part

pub returns-in_err-set-in_default-clause-part : goal.returns-in_err-set-in_default-clause-part
returns-in_err-set-in_default-clause-part g c = on_err_from c.from_residual.result (sets_broke c.args.command c.args.self.now (g.K.Sink.held c.args.output.now) c.set.ensures.sets)

pub returns-in_ok-set-in_default-clause-done : goal.returns-in_ok-set-in_default-clause-done
returns-in_ok-set-in_default-clause-done g c = sets_done c.args.command c.args.self.now c.set.new.self (g.K.Sink.held c.args.output.now) c.set.ensures.sets c.in_ok-set-in_default.ensures.done
