use Rattle.std.proofs.Common.{◌||◌, ℕ, List, subst}
use Rattle.mdns_cache.specs.Ended.{is_among}
use Rattle.mdns_happened.specs.Told.{told_by}
use Rattle.mdns_asking.specs.Walked.{may_be_asked}
use Rattle.mdns_asking.specs.Places.{ArePut}
use Rattle.mdns_asking.proofs.PutPlaces.{put_both}
use Rattle.mdns_asking.proofs.places.touched_places.Goals as goal

pub returns : goal.returns
returns c =
    subst (λ (none : List ℕ). ArePut (λ one. is_among c.args.touched.now one.key.name || may_be_asked (told_by c.args.happened.now) c.args.when.moment one) c.args.asker.now.questions none c.put_maybe_asked.new.self.places.items)
    c.new-places.ensures
    (put_both (λ one. is_among c.args.touched.now one.key.name) (may_be_asked (told_by c.args.happened.now) c.args.when.moment) c.args.asker.now.questions c.new-places.result.places.items
    c.put_names.new.self.places.items c.put_maybe_asked.new.self.places.items c.in_ok-put_names.ensures c.in_ok-put_maybe_asked.ensures)
