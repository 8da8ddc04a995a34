use Rattle.std.proofs.Common.{◌≡◌, ◌∙◌, List, Option, ap}
use Rattle.std.specs.Prelude.{filter}
use Rattle.dns_record.specs.declared.record.Rr.{Rr}
use Rattle.mdns_history.specs.Hearings.{Heard, counted_records, heard_in, query_of}
use Rattle.plain_debts.specs.Meeting.{left_open}
use Rattle.plain_debts.proofs.standing.still_open.Goals as goal

pub returns : goal.returns
returns c =
    let entry = c.args.entry.now in
    let debts = c.args.debts.items in
    let query : c.query_of-query.result ≡ query_of (heard_in entry) = c.query_of-query.ensures ∙ ap query_of c.in_ok-heard.ensures in
    let counted : c.as_slice.result.now ≡ counted_records (heard_in entry) = c.as_slice.ensures ∙ c.in_ok-counted.ensures ∙ ap counted_records c.in_ok-again.ensures in
    c.in_ok-left.ensures
    ∙ ap (λ (q : Option Heard). filter (left_open q c.as_slice.result.now entry) debts) query
    ∙ ap (λ (l : List Rr). filter (left_open (query_of (heard_in entry)) l entry) debts) counted
