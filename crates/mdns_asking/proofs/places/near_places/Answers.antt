use Rattle.std.proofs.Common.{ℕ, List, subst}
use Rattle.mdns_happened.specs.Told.{told_by}
use Rattle.mdns_asking.specs.Places.{ArePut, is_near}
use Rattle.mdns_asking.proofs.PutPlaces.{put_moved}
use Rattle.mdns_asking.proofs.places.near_places.Goals as goal

pub returns-clause-places : goal.returns-clause-places
returns-clause-places c =
    put_moved (is_near (told_by c.args.happened.now) c.args.when.moment c.args.walks.now) c.args.asker.now.questions c.put_near.new.self.places.items c.in_order.result.items
    (subst (λ (none : List ℕ). ArePut (is_near (told_by c.args.happened.now) c.args.when.moment c.args.walks.now) c.args.asker.now.questions none c.put_near.new.self.places.items) c.new-places.ensures c.in_ok-put_near.ensures)
    c.in_order.ensures.kept c.in_order.ensures.only
