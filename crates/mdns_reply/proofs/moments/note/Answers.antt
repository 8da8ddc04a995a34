use Rattle.std.proofs.Common.{◌≡◌, ◌∙◌, ◌+◌, ◌∷◌, ◌++◌, [], List, length, ap, arith, length-append}
use Rattle.dns_record.specs.declared.record.Rr.{Rr}
use Rattle.dns_record.specs.Records.{same}
use Rattle.mdns_history.specs.Debts.{is_multicast}
use Rattle.mdns_reply.specs.Lasts.{last_of}
use Rattle.mdns_reply.proofs.Steps.{multicast_more, step_in, above_zero}
use Rattle.mdns_reply.proofs.moments.note.Goals as goal

pub loop-rr-preserved-then-rr-gt0 : goal.loop-rr-preserved-then-rr-gt0
loop-rr-preserved-then-rr-gt0 c =
    let rest : List Rr = c.pop.new.self.items in
    let items : c.loop-rr.sent.items ≡ rest ++ c.in-Some.rr ∷ [] = c.in-Some.ensures.items in
    let len : length c.loop-rr.sent.items ≡ length rest + 1 = ap length items ∙ length-append rest (c.in-Some.rr ∷ []) in
    record {
      lasts = λ one.
          step_in (is_multicast one rest) (same c.in-Some.rr one) (is_multicast one c.loop-rr.sent.items) c.args.now (last_of one c.loop-rr.moments.entries) (last_of one c.put.new.moments.entries)
          (ap (is_multicast one) items ∙ multicast_more one c.in-Some.rr rest (above_zero c.in-Some.rr.ttl c.if-rr-gt0.true)) (c.put.ensures.lasts one)
          ∙ c.loop-rr.invariant.lasts one;
      enough = omega (arith, len, c.put.ensures.room, c.loop-rr.invariant.enough);
      room = omega (arith, len, c.put.ensures.room, c.loop-rr.invariant.room);
    }
