use Rattle.std.proofs.Common.{◌≡◌, ◌∙◌, ap, List}
use Rattle.mdns_history.specs.Hearings.{Hearing, hearings}
use Rattle.mdns_history.specs.Lifetimes.{live_of, live_records}
use Rattle.plain_history.specs.Last.{are_held_by}
use Rattle.plain_history.proofs.Times.{live_by}
use Rattle.plain_history.proofs.lives.live_records.Goals as goal

pub returns-clause-by : goal.returns-clause-by
unfolding live_records
returns-clause-by c limit h =
    let heard : c.in_ok-heard.heard.items ≡ hearings c.args.history.now = c.in_ok-heard.ensures in
    let live : c.in_ok-live.live.items ≡ live_records c.args.history.now c.args.moment = c.in_ok-live.ensures ∙ ap (λ (l : List Hearing). live_of l c.args.moment) (c.deref.ensures.value ∙ heard) in
    ap (are_held_by limit) live ∙ live_by c.args.history.now c.args.moment limit h
