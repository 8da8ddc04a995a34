use Rattle.std.proofs.Common.{◌∙◌, List, ap, sym, length}
use Rattle.std.proofs.lemmas.Iterator.Adapters.{YieldsList-from_vec}
use Rattle.std.proofs.lemmas.Iterator.Consumers.{YieldsList-end}
use Rattle.std.proofs.lemmas.List.{map-id}
use Rattle.dns_record.specs.declared.record.Rr.{Rr}
use Rattle.indexmap.specs.IndexSet.{insert_all}
use Rattle.mdns_history.specs.Debts.{owed_eq}
use Rattle.mdns_owing.specs.Owing.{heard_in, last_in, unstruck_for}
use Rattle.mdns_owing.proofs.hearing.Ours.put_each.Goals as goal

pub returns : goal.returns
returns c =
    let taken = c.into_iter-rr-iterator.ensures.into_iter_gives in
    let items = taken.0 ∙ c.into_vec-rr-items.ensures.items in
    let len = taken.1 ∙ c.into_vec-rr-items.result.ok.0 ∙ ap length c.into_vec-rr-items.ensures.items in
    let all = (YieldsList-end (YieldsList-from_vec {s = c.into_iter-rr-iterator.result} _ items len) c.loop-rr.yielded c.loop-rr.rr-iterator c.loop-rr.yielded_by c.next.result c.next.new.self c.in-None.is c.next.ensures.steps).0 in
    c.loop-rr.invariant
    ∙ ap (λ (rrs : List Rr). insert_all owed_eq c.args.owed.now.keys (unstruck_for (last_in c.args.self.now.lasts.now.lasts) (heard_in c.args.hearing.now.heard.now) c.args.hearing.now.moment c.args.question.now rrs))
    (sym (map-id c.loop-rr.yielded) ∙ all)
