use Rattle.std.proofs.Common.{◌&&◌, nat_le, refl, subst, List, take}
use Rattle.std.specs.List.{list_any}
use Rattle.std.proofs.lemmas.List.{take_all}
use Rattle.dns_record.specs.declared.record.Question.{Question}
use Rattle.mdns_history.specs.Asking.{asks_openly}
use Rattle.mdns_question.specs.declared.tracked.Tracked.{Tracked}
use Rattle.mdns_asking.specs.Places.{ArePut}
use Rattle.mdns_asking.proofs.PutPlaces.{put_none, put_more}
use Rattle.mdns_asking.proofs.places.Places.put_all_asked.Goals as goal

pub loop-asked-init : goal.loop-asked-init
loop-asked-init c =
    put_none (λ one. list_any (λ (asked : Question). asks_openly one.key asked && nat_le one.next c.args.until) (take 0 c.args.all_asked.now)) c.args.asker.now.questions c.args.self.now.places.items (λ one. refl)

pub loop-asked-preserved : goal.loop-asked-preserved
loop-asked-preserved c =
    put_more (λ (one : Tracked) (asked : Question). asks_openly one.key asked && nat_le one.next c.args.until) c.args.all_asked.now c.loop-asked.asked-index c.asked-item.result c.args.asker.now.questions
    c.args.self.now.places.items c.loop-asked.self.places.items c.put_asked.new.self.places.items c.loop-asked-test.true c.asked-item.is c.loop-asked.invariant c.in_ok-put_asked.ensures

pub returns : goal.returns
returns c =
    subst
    (λ (all : List Question). ArePut (λ one. list_any (λ (asked : Question). asks_openly one.key asked && nat_le one.next c.args.until) all) c.args.asker.now.questions c.args.self.now.places.items c.loop-asked.self.places.items)
    (take_all c.loop-asked.asked-index c.args.all_asked.now c.loop-asked-test.false) c.loop-asked.invariant
