use Rattle.std.proofs.Common.{◌≡◌, ◌∙◌, [], ap, sym, arith}
use Rattle.sd_sessions.specs.Settling.{all_settled}
use Rattle.sd_sessions.specs.Kept.{sessions_of}
use Rattle.std.proofs.lemmas.List.{length-set}
use Rattle.sd_sessions.proofs.Settled.{none-of, all_settled-none, last-asks, settle-last}
use Rattle.sd_sessions.proofs.settle.settle.Goals as goal

pub settle_one-requires-clause-room : goal.settle_one-requires-clause-room
settle_one-requires-clause-room c =
    (last-asks c.loop-change.sessions c.loop-change.changes.items c.pop.new.self.items c.in-Some.change c.len.result c.index-sessions-len.result
    c.in-Some.ensures.items (omega (arith, c.pop.new.self.ok.0)) (omega (arith, c.in-Some.ensures.cases)) c.loop-change.invariant.room c.loop-change.invariant.fit).0

pub settle_one-requires-clause-fit : goal.settle_one-requires-clause-fit
settle_one-requires-clause-fit c =
    (last-asks c.loop-change.sessions c.loop-change.changes.items c.pop.new.self.items c.in-Some.change c.len.result c.index-sessions-len.result
    c.in-Some.ensures.items (omega (arith, c.pop.new.self.ok.0)) (omega (arith, c.in-Some.ensures.cases)) c.loop-change.invariant.room c.loop-change.invariant.fit).1

pub loop-change-preserved : goal.loop-change-preserved
loop-change-preserved c =
    let left = settle-last c.loop-change.sessions c.loop-change.changes.items c.pop.new.self.items c.in-Some.change c.len.result c.settle_one.new.session c.index-sessions-len.result
    c.in-Some.ensures.items (omega (arith, c.pop.new.self.ok.0)) (omega (arith, c.in-Some.ensures.cases)) c.loop-change.invariant.room c.loop-change.invariant.fit c.settle_one.ensures in
    record {
      settled = left.settled ∙ c.loop-change.invariant.settled;
      room = left.room;
      fit = left.fit;
      within = omega (arith, length-set c.loop-change.sessions c.len.result c.settle_one.new.session, c.in-Some.ensures.cases);
    }

pub returns : goal.returns
returns c =
    let empty : c.loop-change.changes.items ≡ [] = none-of c.loop-change.changes.items (omega (arith, c.loop-change.changes.ok.0, c.in_default.ensures.cases)) in
    sym (all_settled-none (sessions_of c.loop-change.sessions)) ∙ ap (all_settled (sessions_of c.loop-change.sessions)) (sym empty) ∙ c.loop-change.invariant.settled
