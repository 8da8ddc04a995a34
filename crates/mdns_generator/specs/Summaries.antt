-- The summary of a generated script.
use Rattle.std.specs.Prelude.{◌≡◌, ℕ, List, [], ◌∷◌, ◌++◌, codes, decimal}
use Rattle.mdns_hub.specs.declared.hub.Hub.{Hub}
use Rattle.mdns_hub.specs.declared.tally.Tally.{Tally}
use Rattle.mdns_hub.specs.Played.{Played, start, history_of}
use Rattle.mdns_hub.specs.Hubs.{StandsFor}
use Rattle.mdns_hub.specs.Once.{PlaysCommands}
use Rattle.mdns_hub.specs.Tallies.{tally_of}
use Rattle.mdns_script.specs.declared.command.Command.{Command}
use Rattle.mdns_generator.specs.Generated.{generated}

-- a line of a word and a number
abbrev pub line_text : List ℕ → ℕ → List ℕ
line_text word number = word ++ 32 ∷ decimal number ++ 10 ∷ []

-- the lines, told of what each daemon gave
abbrev pub summary_text : ℕ → Tally → Tally → List ℕ
summary_text n one two = line_text (codes "gen") n ++ line_text (codes "named") one.named ++ line_text (codes "found") two.found ++ line_text (codes "lost") two.lost

-- the hub stands for what commands play from the start on
pub record HasPlayed (commands : List Command) (hub : Hub) : Type 0 where
  pub played : Played
  pub plays : PlaysCommands start commands played
  pub stands : StandsFor hub played

-- The summary of n: its script was played, daemon 1 named so many services, and daemon 2 found so many and lost so many.
pub record IsSummary (n : ℕ) (text : List ℕ) : Type 0 where
  pub played : Played
  pub plays : PlaysCommands start (generated n) played
  pub text_is : text ≡ summary_text n (tally_of (history_of 1 played.told)) (tally_of (history_of 2 played.told))
