use Rattle.std.proofs.Common.{◌≡◌, ◌+◌, ◌-◌, length, drop, arith, sym}
use Rattle.std.proofs.lemmas.List.{length-take, length-drop}
use Rattle.std.proofs.lemmas.Result.{err_from_is_err_and}
use Rattle.std.specs.List.{slice_range}
use Rattle.dns_pointers.proofs.NameTurns.{turn_first, turn_past, turn_done, turn_label_fault, turn_label, turn_pointer_fault, turn_pointer, turn_over, turn_left, end_within}
use Rattle.dns_pointers.proofs.Ends.{enough_first, enough_left, enough_label, enough_pointer, turn_jump}
use Rattle.dns_pointers.proofs.packet.Packet.name_at.Goals as goal
use Rattle.dns_pointers.proofs.packet.Packet.name_at.Goals.{then-first-lt64+in_ok-push_label, else-first-lt64+in_ok-target}

pub turns-init : goal.turns-init
turns-init c = record {
  under_way = let all : length c.self.inside.bytes.now + 129 - 0 ≡ length c.self.inside.bytes.now + 129 = omega arith in rw (c.root-name.ensures, all) (turn_first c.self.inside.bytes.now c.args.at);
  within = tt;
  order = omega arith;
  enough = λ h. rw c.root-name.ensures (enough_first (length c.self.inside.bytes.now) c.args.at h);
}

pub returns-in_err-first-clause-name : goal.returns-in_err-first-clause-name
returns-in_err-first-clause-name c =
    let p = err_from_is_err_and c.from_residual.result c.from_residual.ensures.1 in
    rw (← c.self.view_is, p.1, p.2)
    (turn_past _ _ _ _ _ _ _ _ (turn_left _ c.turns.turn _ _ _ _ _ _ c.turns-test.true c.turns.invariant.under_way) (sym c.in_err-first.ensures.value))

pub returns-then-first-eq0-clause-name : goal.returns-then-first-eq0-clause-name
returns-then-first-eq0-clause-name c =
    rw (← c.self.view_is, c.unwrap_or.ensures)
    (turn_done _ _ _ _ _ _ _ _ (turn_left _ c.turns.turn _ _ _ _ _ _ c.turns-test.true c.turns.invariant.under_way) (sym c.in_ok-first.ensures.value) c.if-first-eq0.true)

pub returns-in_err-push_label-clause-name : goal.returns-in_err-push_label-clause-name
returns-in_err-push_label-clause-name c =
    let p = err_from_is_err_and c.from_residual-in_err-push_label.result c.from_residual-in_err-push_label.ensures.1 in
    let size : c.from.result ≡ c.in_ok-first.first = c.from.ensures in
    rw (← c.self.view_is, p.1, p.2)
    (turn_label_fault _ _ _ _ _ _ _ _ _ (turn_left _ c.turns.turn _ _ _ _ _ _ c.turns-test.true c.turns.invariant.under_way) (sym c.in_ok-first.ensures.value) (omega arith) c.if-first-lt64.true (rw size at c.in_err-push_label.ensures))

pub returns-in_err-target-clause-name : goal.returns-in_err-target-clause-name
returns-in_err-target-clause-name c =
    let p = err_from_is_err_and c.from_residual-in_err-target.result c.from_residual-in_err-target.ensures.1 in
    rw (← c.self.view_is, p.1, p.2)
    (turn_pointer_fault _ _ _ _ _ _ _ _ _ (turn_left _ c.turns.turn _ _ _ _ _ _ c.turns-test.true c.turns.invariant.under_way) (sym c.in_ok-first.ensures.value) c.if-first-lt64.false (sym c.in_err-target.ensures.target))

pub turns-preserved : goal.turns-preserved
turns-preserved c =
    let turn = turn_left _ c.turns.turn _ _ _ _ _ _ c.turns-test.true c.turns.invariant.under_way in
    let enough = enough_left _ c.turns.turn _ _ c.turns-test.true (c.turns.invariant.enough (omega (arith, c.in_ok-first.ensures.within, c.turns.invariant.order))) in
    elim c.if-first-lt64.branch [
      | then-first-lt64+in_ok-push_label w ↦
          let bytes = c.self.inside.bytes.now in
          let first = c.in_ok-first.first in
          let size : w.from.result ≡ first = w.from.ensures in
          let read = w.in_ok-push_label.ensures.0 in
          let whole : length (slice_range bytes (c.turns.place + 1) (c.turns.place + 1 + first)) ≡ first =
          omega (arith, length-take (c.turns.place + 1 + first - (c.turns.place + 1)) (drop (c.turns.place + 1) bytes), length-drop (c.turns.place + 1) bytes, w.in_ok-push_label.ensures.2) in
          let place : c.if-first-lt64.place ≡ c.turns.place + 1 + first = omega (arith, w.place-is, w.from-then-first-lt64.ensures) in
          record {
            under_way = rw (w.name-is, w.in_ok-push_label.ensures.1, w.end-is, w.start-is, place, size)
                (turn_label _ _ _ _ _ _ _ _ _ turn (sym c.in_ok-first.ensures.value) (omega arith) w.if-first-lt64.true (rw size at read) whole);
            within = rw w.end-is c.turns.invariant.within;
            order = omega arith;
            enough = λ h. rw (w.name-is, w.in_ok-push_label.ensures.1, w.start-is, size)
                (enough_label _ _ _ _ _ _ _ enough (omega arith) (rw size at read) whole);
          }
      | else-first-lt64+in_ok-target w ↦
          let chain = c.self.invariant.1.each w.in_ok-target.field-0 in
          let low = w.in_ok-target.ensures.below in
          record {
            under_way = rw (w.name-is, w.end-is, w.or-end.ensures, w.start-is, w.place-is, w.end-start.ensures)
                (turn_jump _ _ _ _ _ _ _ _
                (turn_pointer _ _ _ _ _ _ _ _ _ turn (sym c.in_ok-first.ensures.value) w.if-first-lt64.false (sym w.in_ok-target.ensures.target))
                chain (enough_pointer _ _ _ _ _ enough low (omega arith)));
            order = omega arith;
            enough = λ h. rw (w.name-is, w.start-is, w.end-start.ensures) (enough_pointer _ _ _ _ _ enough low chain.below);
            within = rw (w.end-is, w.or-end.ensures) (end_within _ _ _ c.turns.invariant.within w.in_ok-target.ensures.within);
          }
    ]

pub returns-clause-name : goal.returns-clause-name
returns-clause-name c =
    let none : length c.self.inside.bytes.now + 129 - c.turns.turn ≡ 0 = omega arith in
    rw (← c.self.view_is) (turn_over _ _ _ _ _ _ (rw none at c.turns.invariant.under_way))
