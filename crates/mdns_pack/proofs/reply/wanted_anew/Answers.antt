use Rattle.std.proofs.Common.{◌∙◌, ap, ◌++◌, List, rules}
use Rattle.std.proofs.lemmas.Fn.{filter_same}
use Rattle.std.specs.List.{list_any}
use Rattle.std.specs.Prelude.{not}
use Rattle.lists.specs.Lists.{without}
use Rattle.dns_record.specs.declared.record.Rr.{Rr}
use Rattle.dns_record.specs.Records.{same}
use Rattle.mdns_pack.proofs.Replies.{all_added}
use Rattle.mdns_pack.proofs.reply.wanted_anew.Goals as goal

pub returns : goal.returns
returns c =
    let others : List Rr = c.args.answers.now ++ all_added c.args.earlier.now in
    filter_same _ (λ rr. not (list_any (same rr) others)) _ (λ x b f k. search rules) _ _ c.retain.ensures.filtered
    ∙ ap (λ (rrs : List Rr). without same rrs others) (c.into_vec-wanted.ensures.items ∙ c.in_ok-wanted_by.ensures)
