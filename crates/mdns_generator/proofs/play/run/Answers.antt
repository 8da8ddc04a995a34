use Rattle.mdns_generator.proofs.play.run.Goals as goal

pub returns-in-Ok : goal.returns-in-Ok
returns-in-Ok c = λ played stands. let next = c.in-Ok.ensures.done played stands in (next.0, next.1, next.2)
