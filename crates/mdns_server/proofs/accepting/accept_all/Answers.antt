use Rattle.std.proofs.Common.{rules, ◌≡◌, ◌∙◌, refl, sym, true, Option, Some, None}
use Rattle.mdns_server.proofs.Counting.{faults_none, faults_then}
use Rattle.mdns_server.proofs.Opened.{opens_none, opens_after}
use Rattle.mdns_server.proofs.accepting.accept_all.Goals as goal

pub loop-init : goal.loop-init
loop-init g c = (tt, tt, refl, opens_none _ _ _ true (λ _ n e. e), faults_none _, refl, refl, refl, refl)

pub returns-in-Some-next-clause-opens : goal.returns-in-Some-next-clause-opens
returns-in-Some-next-clause-opens g c = opens_after _ c.loop.seat _ _ (g.P.Door.Door.given c.loop.door) _ _ c.loop.invariant.3 c.in-Some-next.ensures.opens

pub returns-in-Some-next-clause-place : goal.returns-in-Some-next-clause-place
returns-in-Some-next-clause-place g c = faults_then _ (g.P.Place.counted c.loop.place) _ c.loop.invariant.4 c.in-Some-next.ensures.place

-- no more was said to stop
goes_on : {A : Type 0} {next : Option A} {stop : A} → next ≡ None → next ≡ Some stop → ⊥
goes_on {A} {next} {stop} none some = let no : None ≡ Some stop = sym none ∙ some in cc

pub loop-preserved : goal.loop-preserved
loop-preserved g c = (
  tt,
  tt,
  c.accept_one-next.ensures.common ∙ c.loop.invariant.2,
  opens_after _ c.loop.seat _ _ (g.P.Door.Door.given c.loop.door) _ true c.loop.invariant.3 (search rules),
  faults_then _ (g.P.Place.counted c.loop.place) _ c.loop.invariant.4 c.accept_one-next.ensures.place,
  c.accept_one-next.ensures.still (λ e. goes_on (search rules) e) ∙ c.loop.invariant.5,
  c.accept_one-next.ensures.over (λ e. goes_on (search rules) e) ∙ c.loop.invariant.6,
  c.accept_one-next.ensures.door (λ e. goes_on (search rules) e) ∙ c.loop.invariant.7,
  c.accept_one-next.ensures.spawner (λ e. goes_on (search rules) e) ∙ c.loop.invariant.8,
)
