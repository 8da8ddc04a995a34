use Rattle.std.proofs.Common.{rules, ◌≡◌, ◌∙◌, ap, sym, take, length, Some}
use Rattle.mdns_serve.specs.Ticking.{most_received}
use Rattle.mdns_serve.proofs.Heard.{hears_one, hears_end, received, ended}
use Rattle.mdns_serve.proofs.hearing.hear_one.Goals as goal

pub returns-in-Ok-Some-clause-hears : goal.returns-in-Ok-Some-clause-hears
returns-in-Ok-Some-clause-hears g c =
    let into = c.receive.new.into in
    let found = received (g.E.Ear.arrivals c.args.ear.now) (g.E.Ear.arrivals c.receive.new.self) into c.in-Ok-Some.field-0 c.in-Ok-Some.arrival (search rules) c.in-Ok-Some.ensures.packet in
    let len : length into ≡ most_received = search rules in
    hears_one _ (g.E.Ear.arrivals c.receive.new.self) _ _ _ _ c.in-Ok-Some.arrival.from (take c.in-Ok-Some.arrival.len into)
    (λ arrivals told. let t = found arrivals told in (t.first, t.rest, t.was, t.left, t.from, t.bytes ∙ ap (λ n. take n t.first.1) len))
    c.hear.ensures.heard

pub returns-in-Ok-None-clause-hears : goal.returns-in-Ok-None-clause-hears
returns-in-Ok-None-clause-hears g c =
    let none = ended (g.E.Ear.arrivals c.args.ear.now) (g.E.Ear.arrivals c.receive.new.self) c.receive.new.into c.in-Ok-None.field-0 (search rules) c.in-Ok-None.ensures.packet in
    hears_end _ (g.E.Ear.arrivals c.receive.new.self) _ _ _ (λ arrivals told. let n = none arrivals told in (n.1 ∙ ap (λ l. Some l) (sym n.0), n.0))

pub returns-in-Err-clause-hears : goal.returns-in-Err-clause-hears
returns-in-Err-clause-hears g c = hears_end _ (g.E.Ear.arrivals c.receive.new.self) _ _ _ (λ arrivals told. (c.in-Err.ensures.packet arrivals told, tt))
