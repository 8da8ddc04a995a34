use Rattle.std.proofs.Common.{rules, ◌∙◌, sym, ap, subst, Ok}
use Rattle.sd_ipc.specs.Reading.{frame_size}
use Rattle.mdns_serve.specs.Reading.{Stops}
use Rattle.mdns_serve.proofs.Calling.{called, stops_uncalled, read_is, whole_is, unread, ended_is}
use Rattle.mdns_serve.proofs.reading.read_one.Goals as goal

pub returns-in-Ok-Some-clause-did : goal.returns-in-Ok-Some-clause-did
returns-in-Ok-Some-clause-did g c = called c.args.half.now.session _ (g.S.Source.left c.read_request.new.input) _ _ _ _ c.in-Ok-Some.asked c.call.result
    (λ bytes told. (read_is _ _ (c.in-Ok-Some.ensures.value bytes told) ∙ ap (λ found. Ok found) (search rules), whole_is _ (frame_size bytes) bytes _ (c.in-Ok-Some.ensures.whole bytes told)))
    c.call.ensures.call

pub returns-in-Ok-None-clause-did : goal.returns-in-Ok-None-clause-did
returns-in-Ok-None-clause-did g c = stops_uncalled c.args.half.now.session _ (g.S.Source.left c.read_request.new.input) _ _ _ (λ e. cc)
    (λ bytes told. (read_is _ _ (c.in-Ok-None.ensures.value bytes told) ∙ ap (λ found. Ok found) (search rules), whole_is _ (frame_size bytes) bytes _ (c.in-Ok-None.ensures.whole bytes told)))

pub returns-in-Err-clause-did : goal.returns-in-Err-clause-did
returns-in-Err-clause-did g c = subst (Stops c.args.half.now.session (g.S.Source.left c.args.half.now.end) (g.S.Source.left c.read_request.new.input) c.args.seat.now.mine c.args.seat.now.mine (g.A.Air.handed c.args.kit.now.air) (g.A.Air.handed c.args.kit.now.air)) (sym c.end_of.ensures) (stops_uncalled c.args.half.now.session _ (g.S.Source.left c.read_request.new.input) _ _ _ (ended_is c.in-Err.error)
    (λ bytes told. unread c.in-Err.error bytes _ (c.in-Err.ensures.value bytes told) (c.in-Err.ensures.whole bytes told) (c.in-Err.ensures.within bytes told)))
