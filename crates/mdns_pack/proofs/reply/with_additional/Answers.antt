use Rattle.mdns_pack.proofs.Replies.{additional_more}
use Rattle.mdns_pack.proofs.reply.with_additional.Goals as goal

pub loop-rr-preserved : goal.loop-rr-preserved
loop-rr-preserved c =
    additional_more c.args.draft.answers c.args.wanted.now c.loop-rr.rr-index c.rr-item.result c.loop-rr.draft c.answer.new.self c.loop-rr-test.true c.rr-item.is
    c.loop-rr.invariant c.in_ok-answer.ensures.grown
