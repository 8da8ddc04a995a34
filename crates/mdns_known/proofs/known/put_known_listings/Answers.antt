use Rattle.mdns_known.proofs.Live.{listed_more-put}
use Rattle.mdns_known.proofs.known.put_known_listings.Goals as goal

pub loop-one-preserved : goal.loop-one-preserved
loop-one-preserved c =
    listed_more-put c.args.question.now c.args.held.now c.args.now c.loop-one.one-index c.one-item.result c.args.known.now.items c.loop-one.known.items c.put_borrowed.new.known.items
    c.loop-one-test.true c.one-item.is c.loop-one.invariant c.in_ok-put_borrowed.ensures
