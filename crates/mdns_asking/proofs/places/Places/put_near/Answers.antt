use Rattle.std.proofs.Common.{sym, ◌∙◌}
use Rattle.mdns_happened.specs.Told.{told_by}
use Rattle.mdns_asking.proofs.PutPlaces.{near_ticked, near_else}
use Rattle.mdns_asking.proofs.places.Places.put_near.Goals as goal

pub returns-in_ok-put_walks : goal.returns-in_ok-put_walks
returns-in_ok-put_walks c =
    near_ticked (told_by c.args.happened.now) c.args.when.moment c.args.walks.now c.args.asker.now.questions c.args.self.now.places.items c.put_maybe_asked.new.self.places.items c.put_walks.new.self.places.items
    (sym c.is_tick.ensures ∙ c.if-is_tick.true) c.in_ok-put_maybe_asked.ensures c.in_ok-put_walks.ensures

pub returns-else-is_tick : goal.returns-else-is_tick
returns-else-is_tick c =
    near_else (told_by c.args.happened.now) c.args.when.moment c.args.walks.now c.args.asker.now.questions c.args.self.now.places.items c.put_maybe_asked.new.self.places.items
    (sym c.is_tick.ensures ∙ c.if-is_tick.false) c.in_ok-put_maybe_asked.ensures
