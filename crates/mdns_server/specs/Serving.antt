-- What the words behind `serve` ask for, and what a status says.
use Rattle.std.specs.Prelude.{ℕ, List, Option, Some}
use Rattle.std.specs.Option.{option_map}
use Rattle.mdns_outside.specs.Places.{Counted}
use Rattle.mdns_outside.specs.declared.plan.ServePlan.{ServePlan}
use Rattle.mdns_server.specs.Endings.{Ends}
use Rattle.mdns_words.specs.Plans.{serve_asked}

-- the plan that words ask for, where they are as they should be
abbrev pub plan_of : List (List ℕ) → Option ServePlan
plan_of words = option_map (λ asked. asked.plan) (serve_asked words)

-- A server got a plan, and what its status says of the counts of the place, which has that plan since.
abbrev pub Serves : ServePlan → Counted → Counted → ℕ → Type 0
Serves plan old new status = Ends (record old { plan = Some plan }) new status
