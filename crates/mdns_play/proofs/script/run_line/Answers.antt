use Rattle.std.proofs.Common.{◌≡◌, ◌∙◌, refl, sym, subst}
use Rattle.mdns_script.specs.Lines.{line_of}
use Rattle.mdns_script.specs.declared.command.Line.{Line}
use Rattle.mdns_script.specs.declared.command.Line.TheVariants.{Bad, Command as CommandLine}
use Rattle.mdns_hub.specs.Hubs.{Advances, BreaksIn}
use Rattle.mdns_play.specs.Scripts.{PlaysLine}
use Rattle.mdns_play.specs.Statuses.{IsBadAt, PlaysPartOfLine}
use Rattle.mdns_play.proofs.Running.{breaks_nothing}
use Rattle.mdns_play.proofs.script.run_line.Goals as goal

pub returns-in_err-read_line-clause-broken : goal.returns-in_err-read_line-clause-broken
returns-in_err-read_line-clause-broken g c = λ _. breaks_nothing c.args.hub.now c.args.line.now (g.K.Sink.held c.args.output.now)

pub returns-in-Bad-clause-bad : goal.returns-in-Bad-clause-bad
returns-in-Bad-clause-bad g c = λ _ played stands.
    let none : line_of c.args.line.now ≡ Bad = sym c.in_ok-read_line.ensures ∙ c.in-Bad.is in
    (subst (IsBadAt played) (sym none) tt, refl)

pub returns-in_err-run-in-Command-clause-broken : goal.returns-in_err-run-in-Command-clause-broken
returns-in_err-run-in-Command-clause-broken g c = λ _.
    let is : line_of c.args.line.now ≡ CommandLine c.in-Command.command = sym c.in_ok-read_line.ensures ∙ c.in-Command.is in
    subst (λ (line : Line). BreaksIn (PlaysPartOfLine line) c.args.hub.now (g.K.Sink.held c.args.output.now) (g.K.Sink.held c.run.new.output)) (sym is) c.in_err-run-in-Command.ensures.part

pub returns-in_ok-run-in-Command-clause-ran : goal.returns-in_ok-run-in-Command-clause-ran
returns-in_ok-run-in-Command-clause-ran g c =
    let is : line_of c.args.line.now ≡ CommandLine c.in-Command.command = sym c.in_ok-read_line.ensures ∙ c.in-Command.is in
    subst (λ (line : Line). Advances (PlaysLine line) c.args.hub.now c.run.new.self (g.K.Sink.held c.args.output.now) (g.K.Sink.held c.run.new.output)) (sym is) c.in_ok-run-in-Command.ensures.done
