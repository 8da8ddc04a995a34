use Rattle.std.proofs.Common.{◌∙◌, ap, sym, refl, Some}
use Rattle.mdns_words.specs.Options.{texts}
use Rattle.mdns_server.specs.Endings.{serving_line}
use Rattle.mdns_command.specs.Words.{behind_serve, told}
use Rattle.mdns_command.proofs.Commands.{no_plan, unput}
use Rattle.mdns_command.proofs.top.mdnsd.Goals as goal

pub returns-in-Err-clause-line : goal.returns-in-Err-clause-line
returns-in-Err-clause-line g c = λ plan asks. unput serving_line (g.K.Sink.held c.args.output.now)

pub returns-in-Some-serve_words-clause-unread : goal.returns-in-Some-serve_words-clause-unread
returns-in-Some-serve_words-clause-unread g c = λ none.
    let behind = ap (λ l. behind_serve (texts l)) (sym c.deref-3.ensures.value) ∙ c.in-Some-serve_words.ensures in
    let w = c.serve_by_words.ensures.wrong (no_plan c.args.line.args _ _ none c.in-Ok.ensures.words behind) in
    (w.0, refl, w.2, w.1)
