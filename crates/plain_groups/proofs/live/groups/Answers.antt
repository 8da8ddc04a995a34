use Rattle.std.proofs.Common.{◌≡◌, ◌∙◌, ◌+◌, ◌-◌, ◌++◌, List, drop, ap, sym, arith}
use Rattle.mdns_history.specs.declared.entry.Entry.{Entry}
use Rattle.mdns_history.specs.Groups.{Group, groups}
use Rattle.plain_history.proofs.Onces.{drop_front}
use Rattle.plain_groups.proofs.Steps.{groups_behind, groups_next, slice_rest}
use Rattle.plain_groups.proofs.live.groups.Goals as goal

pub loop-place-preserved : goal.loop-place-preserved
loop-place-preserved c =
    let history = c.args.history.now in
    let entry = c.index-history-place.result in
    let back : c.loop-place.place - 1 + 1 ≡ c.loop-place.place = omega arith in
    let at = drop_front history (c.loop-place.place - 1) entry (omega arith) c.index-history-place.is in
    record {
      live = c.in_ok-live.ensures.value
          ∙ ap (λ (past : List Entry). groups_behind entry past c.loop-place.live.items) (slice_rest history (c.loop-place.place - 1 + 1))
          ∙ ap (groups_behind entry (drop (c.loop-place.place - 1 + 1) history)) (c.loop-place.invariant.live ∙ ap (λ n. groups (drop n history)) (sym back))
          ∙ groups_next entry (drop (c.loop-place.place - 1 + 1) history) ∙ ap groups (sym at);
      few = omega (arith, c.in_ok-live.ensures.len);
    }
