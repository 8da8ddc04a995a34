-- Commands, played one after another.
use Rattle.std.proofs.Common.{◌≡◌, false, List, [], ◌∷◌, length, refl, sym, subst, ◌∙◌, arith}
use Rattle.std.specs.Global.{Global}
use Rattle.std.specs.Vec.Iter.{into_iter_items, into_iter_len}
use Rattle.std.specs.declared.vec.IntoIter.{IntoIter}
use Rattle.mdns_script.specs.declared.command.Command.{Command}
use Rattle.mdns_hub.specs.declared.hub.Hub.{Hub}
use Rattle.mdns_hub.specs.Played.{Played, start}
use Rattle.mdns_hub.specs.Plays.{is_bad, Plays}
use Rattle.mdns_hub.specs.Hubs.{StandsFor}
use Rattle.mdns_hub.specs.Once.{PlaysCommands}
use Rattle.mdns_generator.specs.Goodness.{AreGood}
use Rattle.mdns_generator.specs.Summaries.{HasPlayed}

-- the commands before these were played, and these are good at their places
pub record Ran (all left : List Command) (hub : Hub) : Type 0 where
  pub played : Played
  pub stands : StandsFor hub played
  pub good : AreGood played left
  pub whole : (after : Played) → PlaysCommands played left after → PlaysCommands start all after

pub ran_start : (all left : List Command) (hub : Hub) → left ≡ all → StandsFor hub start → AreGood start all → Ran all left hub
ran_start all left hub same stands good =
    subst (λ (cs : List Command). Ran all cs hub) (sym same) (record { played = start; stands = stands; good = good; whole = λ after plays. plays })

-- the next is good at its place
pub ran_good : (all left rest : List Command) (command : Command) (hub : Hub) → left ≡ command ∷ rest → Ran all left hub
    → (played : Played) × StandsFor hub played × (is_bad played command ≡ false)
ran_good all left rest command hub is ran = (ran.played, ran.stands, (subst (AreGood ran.played) is ran.good).0)

-- once it was played, so are those before the ones behind it
pub ran_next : (all left rest : List Command) (command : Command) (hub after : Hub) → left ≡ command ∷ rest → Ran all left hub
    → ((played : Played) → StandsFor hub played → (next : Played) × Plays command played next × StandsFor after next) → Ran all rest after
ran_next all left rest command hub after is ran step =
    let good : AreGood ran.played (command ∷ rest) = subst (AreGood ran.played) is ran.good in
    let next = step ran.played ran.stands in
    record {
      played = next.0;
      stands = next.2;
      good = good.1 next.0 next.1;
      whole = λ last plays. ran.whole last (subst (λ (cs : List Command). PlaysCommands ran.played cs last) (sym is) (next.0, next.1, plays));
    }

-- all were played
pub ran_whole : (all left : List Command) (hub : Hub) → left ≡ [] → Ran all left hub → HasPlayed all hub
ran_whole all left hub none ran = record {
  played = ran.played;
  plays = ran.whole ran.played (subst (λ (cs : List Command). PlaysCommands ran.played cs ran.played) (sym none) refl);
  stands = ran.stands;
}

nothing : (commands : List Command) → length commands ≡ 0 → commands ≡ []
nothing [] none = refl
nothing (command ∷ commands) none = absurd (omega arith)

-- none is to come
pub ended : (commands : IntoIter Command Global) → into_iter_len commands ≡ 0 → into_iter_items commands ≡ []
ended commands none = nothing (into_iter_items commands) (sym commands.rest.ok.0 ∙ none)
