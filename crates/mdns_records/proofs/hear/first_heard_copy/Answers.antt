use Rattle.std.proofs.Common.{◌≡◌, ◌<◌, ◌&&◌, ◌++◌, ◌∷◌, [], List, map, filter, sym, subst, ◌∙◌, arith}
use Rattle.std.proofs.lemmas.Bool.{lt-ltb}
use Rattle.dns_record.specs.declared.record.Rr.{Rr}
use Rattle.mdns_history.specs.declared.held.Held.{Held}
use Rattle.mdns_history.specs.Hearings.{Hearing}
use Rattle.mdns_history.specs.Lifetimes.{is_live_at, is_other}
use Rattle.mdns_cache.specs.Lifetimes.{hearing_at, shortened, renewed}
use Rattle.mdns_records.proofs.Heard.{after-new, filter-both}
use Rattle.mdns_records.proofs.hear.first_heard_copy.Goals as goal

pub returns : goal.returns
returns c =
    let hearing : Hearing = hearing_at c.args.when.moment c.args.when.word c.args.rr.now in
    let live : List Held = filter (is_live_at c.args.when.moment) c.args.earlier.now in
    let others : c.in_ok-later-2.later.items ≡ filter (is_other c.args.rr.now) live =
    subst (λ (rr : Rr). c.in_ok-later-2.later.items ≡ filter (λ one. is_live_at c.args.when.moment one && is_other rr one) c.args.earlier.now) c.deref-one.ensures c.in_ok-later-2.ensures
    ∙ filter-both (is_live_at c.args.when.moment) (is_other c.args.rr.now) c.args.earlier.now in
    let some : 0 < c.args.rr.now.ttl = subst (λ (rr : Rr). 0 < rr.ttl) c.deref-one.ensures (omega (arith, c.if-one-eq0.false)) in
    c.in_ok-renew.ensures ∙ (λ i. map (shortened hearing) (others i) ++ renewed hearing ∷ []) ∙ sym (after-new live hearing (lt-ltb 0 c.args.rr.now.ttl some))
