use Rattle.std.proofs.Common.{arith, append_assoc, ◌∙◌, ◌++◌, ◌∷◌, [], map, ap, sym, subst}
use Rattle.std.proofs.lemmas.List.{map-append}
use Rattle.std.proofs.lemmas.List.Sums.{sum_by_push}
use Rattle.mdns_happened.specs.declared.walk.Walk.{Walk}
use Rattle.mdns_happened.specs.Walks.{AreWalks, AreOwnWalks}
use Rattle.mdns_records.specs.After.{held_after}
use Rattle.mdns_records.specs.Visits.{visits_of}
use Rattle.mdns_records.proofs.Walking.{walks-push, own_walks-push, visits-more}
use Rattle.mdns_records.proofs.records.Records.walk.Goals as goal

pub loop-name-preserved : goal.loop-name-preserved
loop-name-preserved g c = record {
  walks = subst (AreWalks c.args.self.now.held (held_after c.args.when.moment c.args.when.word c.args.heard.now c.args.self.now.held)) (sym c.in_ok-push.ensures.items)
      (walks-push _ _ c.loop-name.walks.items c.in_ok-walk_one.field-0 c.loop-name.invariant.walks c.in_ok-walk_one.ensures.walk);
  names = ap (map (λ (walk : Walk). walk.name)) c.in_ok-push.ensures.items ∙ map-append (λ (walk : Walk). walk.name) c.loop-name.walks.items (c.in_ok-walk_one.field-0 ∷ [])
      ∙ ap (λ (l : _). l ++ c.in_ok-walk_one.field-0.name ∷ []) c.loop-name.invariant.names ∙ ap (λ (n : _). c.loop-name.yielded ++ n ∷ []) c.in_ok-walk_one.ensures.name;
  own = subst (AreOwnWalks [] []) (sym c.in_ok-push.ensures.items) (own_walks-push [] [] c.loop-name.walks.items c.in_ok-walk_one.field-0 c.loop-name.invariant.own c.in_ok-walk_one.ensures.own);
  left = append_assoc c.loop-name.yielded (c.in-Some.name ∷ []) c.next.new.self.rest.items ∙ ap (λ (l : _). c.loop-name.yielded ++ l) (sym c.in-Some.ensures.steps.0) ∙ c.loop-name.invariant.left;
  visits = omega (arith, sum_by_push (visits_of c.args.self.now.held) c.loop-name.yielded c.in-Some.name, c.loop-name.invariant.visits, c.in_ok-walk_one.ensures.visits);
}

pub returns-in_err-walk_one-clause-most : goal.returns-in_err-walk_one-clause-most
returns-in_err-walk_one-clause-most g c =
    let more = visits-more c.args.self.now.held c.loop-name.yielded c.in-Some.name c.loop-name.name-iterator.rest.items c.next.new.self.rest.items c.args.names.items c.in-Some.ensures.steps.0 c.loop-name.invariant.left in
    omega (arith, more, c.loop-name.invariant.visits, c.walk_one.ensures.most)

pub returns-in_err-push-clause-most : goal.returns-in_err-push-clause-most
returns-in_err-push-clause-most g c =
    let more = visits-more c.args.self.now.held c.loop-name.yielded c.in-Some.name c.loop-name.name-iterator.rest.items c.next.new.self.rest.items c.args.names.items c.in-Some.ensures.steps.0 c.loop-name.invariant.left in
    omega (arith, more, c.loop-name.invariant.visits, c.walk_one.ensures.most)
