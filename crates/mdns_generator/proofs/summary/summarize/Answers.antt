use Rattle.std.proofs.Common.{List, subst, sym}
use Rattle.mdns_script.specs.declared.command.Command.{Command}
use Rattle.mdns_hub.specs.Played.{start}
use Rattle.mdns_generator.specs.Goodness.{AreGood}
use Rattle.mdns_generator.proofs.Goodness.{generated_good}
use Rattle.mdns_generator.proofs.summary.summarize.Goals as goal

pub play-requires : goal.play-requires
play-requires c = subst (λ (commands : List Command). AreGood start commands) (sym c.in_ok-commands.ensures) (generated_good c.args.number)
