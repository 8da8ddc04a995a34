use Rattle.std.proofs.Common.{refl, subst, List, ℕ, take}
use Rattle.std.specs.List.{list_any}
use Rattle.std.proofs.lemmas.List.{take_all}
use Rattle.dns_name.specs.Names.{folded_eq}
use Rattle.dns_name.proofs.Folding.{folded_eq-equivalence}
use Rattle.mdns_question.specs.declared.tracked.Tracked.{Tracked}
use Rattle.mdns_asking.specs.Places.{ArePut}
use Rattle.mdns_asking.proofs.PutPlaces.{put_none, put_like, put_more}
use Rattle.mdns_asking.proofs.places.Places.put_names.Goals as goal

pub loop-name-init : goal.loop-name-init
loop-name-init c = put_none (λ one. list_any (folded_eq one.key.name) (take 0 c.args.names.now)) c.args.asker.now.questions c.args.self.now.places.items (λ one. refl)

pub loop-name-preserved : goal.loop-name-preserved
loop-name-preserved c =
    put_more (λ (one : Tracked) (name : List (List ℕ)). folded_eq one.key.name name) c.args.names.now c.loop-name.name-index c.name-item.result c.args.asker.now.questions
    c.args.self.now.places.items c.loop-name.self.places.items c.put_name.new.self.places.items c.loop-name-test.true c.name-item.is c.loop-name.invariant
    (put_like (λ one. folded_eq c.name-item.result one.key.name) (λ one. folded_eq one.key.name c.name-item.result) c.args.asker.now.questions c.loop-name.self.places.items c.put_name.new.self.places.items
    (λ one. folded_eq-equivalence.symm c.name-item.result one.key.name) c.in_ok-near.ensures)

pub returns : goal.returns
returns c =
    subst (λ (names : List (List (List ℕ))). ArePut (λ one. list_any (folded_eq one.key.name) names) c.args.asker.now.questions c.args.self.now.places.items c.loop-name.self.places.items)
    (take_all c.loop-name.name-index c.args.names.now c.loop-name-test.false) c.loop-name.invariant
