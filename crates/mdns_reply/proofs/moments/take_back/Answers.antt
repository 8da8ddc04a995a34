use Rattle.std.proofs.Common.{◌≡◌, ◌∙◌, ◌+◌, ◌∷◌, ◌++◌, [], List, None, take, if◌then◌else◌, sym, ap, arith}
use Rattle.indexmap.specs.IndexMap.{spare}
use Rattle.dns_record.specs.declared.record.Rr.{Rr}
use Rattle.dns_record.specs.Records.{same}
use Rattle.mdns_history.specs.Debts.{is_goodbye}
use Rattle.mdns_reply.specs.Lasts.{last_of}
use Rattle.mdns_reply.proofs.Steps.{goodbye_more, goodbye_other, step_out, is_zero, not_zero, take_next}
use Rattle.mdns_reply.proofs.moments.take_back.Goals as goal
use Rattle.mdns_reply.proofs.moments.take_back.Goals.{then-rr-eq0, else-rr-eq0}

pub loop-rr-preserved : goal.loop-rr-preserved
loop-rr-preserved c =
    let front : List Rr = take c.loop-rr.rr-index c.args.sent.now in
    let one : Rr = c.rr-item.result in
    let next : take (c.loop-rr.rr-index + 1) c.args.sent.now ≡ front ++ one ∷ [] = take_next c.args.sent.now c.loop-rr.rr-index one c.loop-rr-test.true c.rr-item.is in
    elim c.if-rr-eq0.branch [
      | then-rr-eq0 w ↦ record {
        lasts = λ rr.
            ap (λ m. last_of rr m.entries) w.moments-is
            ∙ step_out (is_goodbye rr front) (same one rr) (is_goodbye rr (take (c.loop-rr.rr-index + 1) c.args.sent.now)) (last_of rr c.loop-rr.moments.entries) (last_of rr w.take_out.new.moments.entries) (last_of rr c.args.moments.now.entries)
            (ap (is_goodbye rr) next ∙ goodbye_more rr one front (is_zero one.ttl w.if-rr-eq0.true)) (c.loop-rr.invariant.lasts rr) (w.take_out.ensures.lasts rr);
        room = omega (arith, ap spare w.moments-is, w.take_out.ensures.room, c.loop-rr.invariant.room);
      }
      | else-rr-eq0 w ↦ record {
        lasts = λ rr.
            ap (λ m. last_of rr m.entries) w.moments-is
            ∙ c.loop-rr.invariant.lasts rr
            ∙ ap (λ b. if b then None else last_of rr c.args.moments.now.entries) (sym (ap (is_goodbye rr) next ∙ goodbye_other rr one front (not_zero one.ttl w.if-rr-eq0.false)));
        room = omega (arith, ap spare w.moments-is, c.loop-rr.invariant.room);
      }
    ]
