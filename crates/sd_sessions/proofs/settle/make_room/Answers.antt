use Rattle.std.proofs.Common.{◌∙◌, arith}
use Rattle.sd_sessions.proofs.Settled.{same-set, room-next-at}
use Rattle.sd_sessions.proofs.settle.make_room.Goals as goal

pub returns-in_err-make_room_in-clause-same : goal.returns-in_err-make_room_in-clause-same
returns-in_err-make_room_in-clause-same c =
    same-set c.loop-place.sessions c.loop-place.place c.make_room_in.new.session c.index-sessions-place.result (omega arith) c.make_room_in.ensures.same ∙ c.loop-place.invariant.same

pub loop-place-preserved : goal.loop-place-preserved
loop-place-preserved c =
    record {
      same = same-set c.loop-place.sessions c.loop-place.place c.make_room_in.new.session c.index-sessions-place.result (omega arith) c.make_room_in.ensures.same ∙ c.loop-place.invariant.same;
      room = room-next-at c.loop-place.sessions c.args.changes.now c.loop-place.place c.make_room_in.new.session c.index-changes-place.result (omega arith) (omega arith) c.index-changes-place.is
          c.in_ok-make_room_in.ensures.room c.loop-place.invariant.room;
    }
