use Rattle.std.proofs.Common.{◌∙◌, ap, Some}
use Rattle.mdns_outside.specs.Places.{Counted}
use Rattle.mdns_server.specs.Endings.{is_whole}
use Rattle.mdns_server.proofs.Counting.{run_ends}
use Rattle.mdns_server.proofs.Opened.{opens_closed, done_zero}
use Rattle.mdns_server.proofs.serving.run.Goals as goal

pub returns-clause-ends : goal.returns-clause-ends
returns-clause-ends g c =
    let s = c.accept_started-stop.ensures in
    let k = c.close.ensures in
    run_ends _ (g.P.Place.counted c.accept_started-stop.new.place) _ c.close.result c.accept_started-stop.result _ _ _ s.place s.still (λ n. s.over n ∙ c.args.parts.fresh_door.1) (λ n. s.door n ∙ c.args.parts.fresh_door.0)
    (λ n. s.spawner n ∙ c.start_loops-loops.ensures.quiet (s.started n) ∙ c.args.parts.fresh_spawner)
    k.plan k.back k.over k.door k.spawner s.link k.link k.later k.first k.ear k.whole k.quiet k.status

pub returns-clause-opens : goal.returns-clause-opens
returns-clause-opens g c = opens_closed _ _ _ _ _ _ _ _ _ c.accept_started-stop.ensures.opens
    (λ is. ap (λ stop. is_whole (Some stop)) (c.close.ensures.whole (done_zero c.close.result is)))
    c.requires.given (ap (λ (z : Counted). z.given) c.accept_started-stop.ensures.place.1) c.close.ensures.given
