use Rattle.std.proofs.Common.{◌≡◌, ◌∙◌, ◌+◌, List, [], ◌∷◌, ◌++◌, take, ap, sym}
use Rattle.std.specs.List.{filter_map}
use Rattle.std.specs.Option.{option_to_list}
use Rattle.std.proofs.lemmas.List.{take_more}
use Rattle.dns_record.specs.declared.record.Key.{Key}
use Rattle.mdns_history.specs.declared.mark.Mark.{Mark}
use Rattle.mdns_history.specs.Sending.{key_in_mark}
use Rattle.plain_asking.proofs.Lists.{given_more}
use Rattle.plain_sending.proofs.queries.keys_in.Goals as goal

pub loop-mark-preserved : goal.loop-mark-preserved
loop-mark-preserved c =
    let askings = c.args.askings.now in
    let index = c.loop-mark.mark-index in
    let mark = c.mark-item.result in
    let taken : take (index + 1) askings ≡ take index askings ++ mark ∷ [] =
    take_more askings index mark c.loop-mark-test.true ∙ ap (λ (m : Mark). take index askings ++ m ∷ []) (sym c.mark-item.is) in
    let more : filter_map key_in_mark (take (index + 1) askings) ≡ filter_map key_in_mark (take index askings) ++ option_to_list (key_in_mark mark) =
    ap (filter_map key_in_mark) taken ∙ given_more key_in_mark (take index askings) mark in
    c.in_ok-put_key.ensures ∙ ap (λ (keys : List Key). keys ++ option_to_list (key_in_mark mark)) c.loop-mark.invariant ∙ sym more
