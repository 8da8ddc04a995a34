use Rattle.std.proofs.Common.{◌≡◌, ◌∙◌, ◌+◌, ◌++◌, ℕ, List, drop, ap}
use Rattle.mdns_history.specs.declared.entry.Entry.{Entry}
use Rattle.mdns_history.specs.History.{has_mark, moment_if}
use Rattle.mdns_history.specs.Questions.{begins_asking}
use Rattle.mdns_history.specs.Asking.{is_series_asking, series_moments}
use Rattle.plain_history.specs.Kept.{kept_if}
use Rattle.plain_asking.proofs.Begins.{moments_in, moments_more, moments_end, said_since}
use Rattle.plain_asking.proofs.moments.series_moments.Goals as goal

pub loop-entry-preserved : goal.loop-entry-preserved
loop-entry-preserved c =
    let test = has_mark (is_series_asking c.args.question.now) in
    let entries = c.in_ok-entries.entries.now in
    let index = c.loop-entry.entry-index in
    let entry = c.entry-item.result in
    let before = c.loop-entry.moments.items in
    let put : c.put_moment_if.new.moments.items ≡ before ++ kept_if (test entry) entry.moment =
    c.in_ok-put_moment_if.ensures ∙ ap (λ b. before ++ kept_if b entry.moment) (c.asks_in_series-asked.ensures ∙ ap test c.entry.ensures) in
    ap (λ (l : List ℕ). l ++ moments_in test (drop (index + 1) entries)) put
    ∙ moments_more test entries index entry before c.loop-entry-test.true c.entry-item.is ∙ c.loop-entry.invariant

pub returns : goal.returns
unfolding series_moments
returns c =
    let test = has_mark (is_series_asking c.args.question.now) in
    moments_end test c.in_ok-entries.entries.now c.loop-entry.entry-index c.loop-entry.moments.items c.loop-entry-test.false c.loop-entry.invariant
    ∙ ap (moments_in test) c.in_ok-entries.ensures
    ∙ said_since (begins_asking c.args.question.now) (λ (entry : Entry). moment_if (test entry) entry.moment) c.args.history.now
