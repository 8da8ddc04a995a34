use Rattle.std.proofs.Common.{◌≡◌, ◌∙◌, List, map, ap}
use Rattle.dns_record.specs.declared.record.Rr.{Rr}
use Rattle.mdns_history.specs.Sureness.{own_records}
use Rattle.mdns_history.specs.Sending.{to_all}
use Rattle.plain_sending.specs.Ticked.{answers_in}
use Rattle.plain_sending.proofs.Ticks.{packed_wantings, wantings_for}
use Rattle.plain_sending.proofs.multicasts.multicasts_in.Goals as goal

pub returns : goal.returns
returns c =
    let history = c.args.history.now in
    let past = c.args.past.now in
    let moment = c.args.moment in
    let answers : c.in_ok-answers.answers.items ≡ answers_in c.args.duties.now history past moment = c.in_ok-answers.ensures in
    let own : c.deref.result.now ≡ own_records history = c.deref.ensures.value ∙ c.in_ok-own.ensures in
    let wantings : c.deref-2.result.now ≡ wantings_for (own_records history) past moment (answers_in c.args.duties.now history past moment) =
    c.deref-2.ensures.value ∙ c.in_ok-wantings.ensures
    ∙ ap (λ (l : List Rr). wantings_for l past moment c.in_ok-answers.answers.items) own
    ∙ ap (wantings_for (own_records history) past moment) answers in
    c.in_ok-sent.ensures ∙ ap (map to_all) (packed_wantings (own_records history) past moment (answers_in c.args.duties.now history past moment) c.deref-2.result.now wantings)
