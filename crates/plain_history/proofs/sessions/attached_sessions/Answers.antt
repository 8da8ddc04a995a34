use Rattle.std.proofs.Common.{◌≡◌, ◌∙◌, ◌+◌, ◌-◌, ◌++◌, ℕ, List, ap, arith}
use Rattle.std.specs.Prelude.{filter}
use Rattle.lists.specs.Lists.{count_up}
use Rattle.mdns_history.specs.Sessions.{is_attached, opened_count}
use Rattle.plain_history.proofs.Onces.{counted_front}
use Rattle.plain_history.proofs.sessions.attached_sessions.Goals as goal

pub loop-place-preserved : goal.loop-place-preserved
loop-place-preserved c =
    let history = c.args.history.now in
    let place = c.loop-place.place in
    let all = opened_count history in
    let more : all - place ≡ all - (place + 1) + 1 = omega arith in
    ap (λ (l : List ℕ). l ++ filter (λ session. is_attached session history) (count_up (place + 1 + 1) (all - (place + 1)))) c.in_ok-put_attached.ensures
    ∙ counted_front (λ session. is_attached session history) (place + 1) (place + 1 + 1) (all - place) (all - (place + 1)) c.loop-place.sessions.items (omega arith) more
    ∙ c.loop-place.invariant
