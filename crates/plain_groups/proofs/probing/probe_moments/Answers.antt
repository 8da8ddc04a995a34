use Rattle.std.proofs.Common.{◌≡◌, ◌∙◌, ◌+◌, ◌++◌, ℕ, List, true, false, drop, ap, sym, arith}
use Rattle.mdns_history.specs.declared.entry.Entry.{Entry}
use Rattle.mdns_history.specs.History.{is_tick}
use Rattle.mdns_history.specs.Groups.{Group}
use Rattle.mdns_history.specs.Sureness.{probes, sets_back, probe_moments}
use Rattle.plain_history.specs.Kept.{kept_if}
use Rattle.plain_history.proofs.Onces.{drop_front}
use Rattle.plain_groups.proofs.Steps.{slice_rest}
use Rattle.plain_groups.proofs.Since.{moments_since, since_end, since_next}
use Rattle.plain_groups.proofs.probing.probe_moments.Goals as goal

pub returns-then-sets_back : goal.returns-then-sets_back
unfolding probe_moments
returns-then-sets_back c =
    let history = c.args.history.now in
    let place = c.loop-place.place in
    let entry = c.index-history-place.result in
    let stop = sets_back c.args.group.now.id in
    let here : stop entry (drop (place + 1) history) ≡ true =
    ap (λ n. sets_back n entry (drop (place + 1) history)) (ap (λ (g : Group). g.id) (sym c.group.view_is))
    ∙ ap (sets_back c.group.inside.id entry) (sym (slice_rest history (place + 1))) ∙ sym c.sets_back.ensures ∙ c.if-sets_back.true in
    since_end stop (probes c.group_name-name.result) entry (drop (place + 1) history) c.loop-place.moments.items here
    ∙ ap (λ (l : List Entry). c.loop-place.moments.items ++ moments_since stop (probes c.group_name-name.result) l) (sym (drop_front history place entry c.loop-place-test.true c.index-history-place.is))
    ∙ c.loop-place.invariant
    ∙ ap (λ (name : List (List ℕ)). moments_since stop (probes name) history) c.group_name-name.ensures

pub loop-place-preserved : goal.loop-place-preserved
loop-place-preserved c =
    let history = c.args.history.now in
    let place = c.loop-place.place in
    let entry = c.index-history-place.result in
    let before = c.loop-place.moments.items in
    let stop = sets_back c.args.group.now.id in
    let on : stop entry (drop (place + 1) history) ≡ false =
    ap (λ n. sets_back n entry (drop (place + 1) history)) (ap (λ (g : Group). g.id) (sym c.group.view_is))
    ∙ ap (sets_back c.group.inside.id entry) (sym (slice_rest history (place + 1))) ∙ sym c.sets_back.ensures ∙ c.if-sets_back.false in
    let put : c.put_moment_if.new.moments.items ≡ before ++ kept_if ((probes c.group_name-name.result) entry) entry.moment =
    c.in_ok-put_moment_if.ensures ∙ ap (λ b. before ++ kept_if b entry.moment) (c.probes.ensures ∙ ap (probes c.group_name-name.result) c.entry.ensures) in
    let moments =
    ap (λ (l : List ℕ). l ++ moments_since stop (probes c.group_name-name.result) (drop (place + 1) history)) put
    ∙ since_next stop (probes c.group_name-name.result) entry (drop (place + 1) history) before on
    ∙ ap (λ (l : List Entry). before ++ moments_since stop (probes c.group_name-name.result) l) (sym (drop_front history place entry c.loop-place-test.true c.index-history-place.is))
    ∙ c.loop-place.invariant in
    moments
