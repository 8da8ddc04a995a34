use Rattle.std.proofs.Common.{◌≡◌, ◌∙◌, ◌+◌, List, drop, false, ap, sym}
use Rattle.lists.specs.Lists.{least_of}
use Rattle.mdns_history.specs.Hearings.{Hearing}
use Rattle.mdns_history.specs.Lifetimes.{renews}
use Rattle.plain_history.proofs.Onces.{drop_front}
use Rattle.plain_history.proofs.Renewals.{end_more, ends_of}
use Rattle.plain_history.proofs.lives.end_of.Goals as goal

pub loop-hearing-preserved : goal.loop-hearing-preserved
loop-hearing-preserved c =
    let at = drop_front c.args.heard.now c.loop-hearing.hearing-index c.hearing-item.result c.loop-hearing-test.true c.hearing-item.is in
    let kept : renews c.args.renewal.now.rr c.hearing-item.result ≡ false = cc in
    ap (λ n. least_of n (ends_of c.args.renewal.now (drop (c.loop-hearing.hearing-index + 1) c.args.heard.now))) c.min-end.ensures
    ∙ end_more c.args.renewal.now c.hearing-item.result (drop (c.loop-hearing.hearing-index + 1) c.args.heard.now) c.loop-hearing.end c.cut_end.result kept c.cut_end.ensures
    ∙ ap (λ (l : List Hearing). least_of c.loop-hearing.end (ends_of c.args.renewal.now l)) (sym at)
    ∙ c.loop-hearing.invariant
