use Rattle.std.proofs.Common.{◌≡◌, ◌∙◌, ap, sym}
use Rattle.dns_record.specs.Records.{any_kind, kind_of}
use Rattle.by_name.specs.At.{At, at, at_eq, owner_of}
use Rattle.mdns_asked.specs.Asked.{place_of, records_of, with_one}
use Rattle.mdns_asked.proofs.Putting.{put_both, put_once}
use Rattle.mdns_asked.proofs.asked.put.Goals as goal

pub returns-in_ok-put_at-2 : goal.returns-in_ok-put_at-2
returns-in_ok-put_at-2 c = λ question.
    let kind : c.kind-kind.result ≡ kind_of c.args.rr.now.rdata = cc in
    let any : c.new-place.result ≡ at (owner_of c.args.rr.now.owner) any_kind = cc in
    let own : c.from-then-kind-ne-ANY.result ≡ kind_of c.args.rr.now.rdata = cc in
    let place : c.go.new.self ≡ at (owner_of c.args.rr.now.owner) (kind_of c.args.rr.now.rdata) = c.go.ensures ∙ (λ i. at (any i).owner (own i)) in
    c.in_ok-put_at-2.ensures question
    ∙ (λ i. with_one (at_eq (place i) (place_of question)) c.args.rr.now
    ((c.in_ok-put_at.ensures question ∙ ap (λ (k : At). with_one (at_eq k (place_of question)) c.args.rr.now (records_of question c.args.lists.now.entries)) any) i))
    ∙ put_both question c.args.rr.now (records_of question c.args.lists.now.entries) (λ e. c.if-kind-ne-ANY.true (kind ∙ e))

pub returns-else-kind-ne-ANY : goal.returns-else-kind-ne-ANY
returns-else-kind-ne-ANY c = λ question.
    let kind : c.kind-kind.result ≡ kind_of c.args.rr.now.rdata = cc in
    let any : c.new-place.result ≡ at (owner_of c.args.rr.now.owner) any_kind = cc in
    c.in_ok-put_at.ensures question
    ∙ ap (λ (k : At). with_one (at_eq k (place_of question)) c.args.rr.now (records_of question c.args.lists.now.entries)) any
    ∙ put_once question c.args.rr.now (records_of question c.args.lists.now.entries) (sym kind ∙ c.if-kind-ne-ANY.false)
