use Rattle.std.proofs.Common.{◌∙◌, ◌++◌, ◌∷◌, ap, ap₂, sym, List}
use Rattle.dns_message.specs.declared.message.Message.{Message}
use Rattle.dns_message.specs.Packing.{Wanting, answers_in, parts_of}
use Rattle.mdns_pack.proofs.Replies.{part_fits, replies_behind, replies_begun, reply_put}
use Rattle.mdns_pack.proofs.reply.pack_reply.Goals as goal

pub loop-rest-init : goal.loop-rest-init
loop-rest-init c =
    let wantings = c.args.wantings.now in
    replies_begun wantings ∙ ap (λ (ms : List Message). ms ++ replies_behind (answers_in wantings) ms wantings) (sym c.new-messages.ensures)

pub loop-rest-preserved : goal.loop-rest-preserved
loop-rest-preserved c =
    reply_put _ (answers_in c.args.wantings.now) c.in_ok-answers.answers c.loop-rest.messages c.put_reply.new.messages c.split_at.result.0.now c.loop-rest.rest.now c.split_at.result.1.now
    c.in_ok-answers.ensures (c.in_ok-len.ensures.parts ∙ ap₂ (λ (part later : List Wanting). part ∷ parts_of part_fits later) (sym c.split_at.ensures.front) (sym c.split_at.ensures.back))
    c.in_ok-put_reply.ensures c.loop-rest.invariant
