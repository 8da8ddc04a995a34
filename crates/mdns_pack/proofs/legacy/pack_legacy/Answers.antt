use Rattle.std.proofs.Common.{◌∙◌}
use Rattle.mdns_pack.proofs.OldWay.{legacy_made}
use Rattle.mdns_pack.proofs.legacy.pack_legacy.Goals as goal

pub returns : goal.returns
returns c =
    legacy_made c.args.id c.args.questions.now c.args.answers.now c.in_ok-asked.asked c.in_ok-put.put c.put_leading.new.draft c.into_message-message.result c.in_ok-message.field-0 c.plain_records.result
    c.in_ok-asked.ensures.put c.in_ok-asked.ensures.first (c.into_message-message.ensures ∙ c.in_ok-put.ensures.put) c.in_ok-put.ensures.first c.in_ok-put.ensures.more
    c.in_ok-message.ensures c.plain_records.ensures
