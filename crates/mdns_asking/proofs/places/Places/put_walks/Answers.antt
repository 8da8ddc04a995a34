use Rattle.std.proofs.Common.{refl, subst, List, take}
use Rattle.std.specs.List.{list_any}
use Rattle.std.proofs.lemmas.List.{take_all}
use Rattle.mdns_happened.specs.declared.walk.Walk.{Walk}
use Rattle.mdns_happened.specs.Walks.{is_for}
use Rattle.mdns_question.specs.declared.tracked.Tracked.{Tracked}
use Rattle.mdns_asking.specs.Places.{ArePut}
use Rattle.mdns_asking.proofs.PutPlaces.{put_none, put_more}
use Rattle.mdns_asking.proofs.places.Places.put_walks.Goals as goal

pub loop-walk-init : goal.loop-walk-init
loop-walk-init c = put_none (λ one. list_any (is_for one.key.name) (take 0 c.args.walks.now)) c.args.asker.now.questions c.args.self.now.places.items (λ one. refl)

pub loop-walk-preserved : goal.loop-walk-preserved
loop-walk-preserved c =
    put_more (λ (one : Tracked) (walk : Walk). is_for one.key.name walk) c.args.walks.now c.loop-walk.walk-index c.walk-item.result c.args.asker.now.questions
    c.args.self.now.places.items c.loop-walk.self.places.items c.put_name.new.self.places.items c.loop-walk-test.true c.walk-item.is c.loop-walk.invariant c.in_ok-near.ensures

pub returns : goal.returns
returns c =
    subst (λ (walks : List Walk). ArePut (λ one. list_any (is_for one.key.name) walks) c.args.asker.now.questions c.args.self.now.places.items c.loop-walk.self.places.items)
    (take_all c.loop-walk.walk-index c.args.walks.now c.loop-walk-test.false) c.loop-walk.invariant
