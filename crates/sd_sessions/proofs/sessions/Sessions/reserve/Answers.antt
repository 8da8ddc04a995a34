use Rattle.std.proofs.Common.{List, subst, arith}
use Rattle.sd_sessions.specs.declared.change.SessionChange.{SessionChange}
use Rattle.sd_sessions.specs.Kept.{HaveRoom}
use Rattle.sd_sessions.proofs.Rooms.{room-seen, places-seen}
use Rattle.sd_sessions.proofs.sessions.Sessions.reserve.Goals as goal

pub returns-clause-ready : goal.returns-clause-ready
returns-clause-ready c =
    record {
      queues = room-seen c.prepare.new.sessions.items c.args.plan.now.changes.items
          (subst (λ (changes : List SessionChange). HaveRoom c.prepare.new.sessions.items changes) c.deref.ensures.value c.in_ok-prepare.ensures.room);
      starts = places-seen c.prepare.new.sessions.items c.args.plan.now.changes.items
          (subst (λ (changes : List SessionChange). HaveRoom c.prepare.new.sessions.items changes) c.deref.ensures.value c.in_ok-prepare.ensures.room);
      place = λ opens. let less = c.in_ok-prepare.ensures.place opens in omega (arith, less);
      filing = c.in_ok-make_entry.ensures.room;
    }
