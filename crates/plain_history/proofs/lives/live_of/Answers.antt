use Rattle.std.proofs.Common.{◌≡◌, ◌∙◌, ◌&&◌, ◌++◌, List, take, ap, sym}
use Rattle.mdns_history.specs.declared.held.Held.{Held}
use Rattle.mdns_history.specs.Lifetimes.{held_from, is_live_at}
use Rattle.plain_history.specs.Kept.{kept_if}
use Rattle.plain_history.specs.Last.{is_last_renewal}
use Rattle.plain_history.proofs.Renewals.{live_more}
use Rattle.plain_history.proofs.lives.live_of.Goals as goal

pub loop-place-preserved : goal.loop-place-preserved
loop-place-preserved c =
    let heard = c.args.heard.now in
    let y = c.index-heard-place.result in
    let held = held_from heard y in
    let more = kept_if (is_last_renewal (take c.loop-place.place heard) y && is_live_at c.args.moment held) held in
    let put : c.put_live.new.live.items ≡ c.loop-place.live.items ++ more = c.in_ok-put_live.ensures in
    put ∙ ap (λ (l : List Held). l ++ more) c.loop-place.invariant
    ∙ sym (live_more heard c.args.moment c.loop-place.place y c.loop-place-test.true c.index-heard-place.is)
