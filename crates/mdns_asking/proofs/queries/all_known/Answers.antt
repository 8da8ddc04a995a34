use Rattle.std.proofs.Common.{◌≡◌, ◌≤◌, List, IfOk, sym, subst}
use Rattle.std.proofs.lemmas.List.Elements.{All-from_recursion}
use Rattle.mdns_history.specs.declared.held.Held.{Held}
use Rattle.mdns_cache.specs.Lifetimes.{AllHeard}
use Rattle.dns_record.specs.declared.record.Rr.{Rr}
use Rattle.mdns_asking.proofs.OfNames.{later_heard}
use Rattle.mdns_asking.proofs.Listings.{known_by_put}
use Rattle.mdns_asking.proofs.queries.all_known.Goals as goal

pub put_known_listings-requires : goal.put_known_listings-requires
put_known_listings-requires c = record {
  heard = All-from_recursion (λ (one : Held). one.heard ≤ c.args.now) c.later_of-held.result.now
      (subst (AllHeard c.args.now) (sym c.later_of-held.ensures) (later_heard c.args.now c.key-item.result.name c.args.walks.now c.requires));
}

pub returns : goal.returns
returns c =
    subst (λ (l : List Rr). IfOk c.listings_in_order.result (λ known. known.items ≡ l))
    (known_by_put c.args.keys.now c.args.walks.now c.args.now c.loop-key.key-index c.loop-key.all.items c.loop-key-test.false c.loop-key.invariant)
    c.listings_in_order.ensures
