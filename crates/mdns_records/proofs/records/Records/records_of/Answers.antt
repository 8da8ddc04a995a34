use Rattle.std.proofs.Common.{◌≡◌, ◌∙◌, ◌++◌, ◌∷◌, [], List, Some, slice_get, length, ap, sym, subst, arith}
use Rattle.std.proofs.lemmas.List.{length-append}
use Rattle.by_name.specs.At.{At}
use Rattle.mdns_history.specs.declared.held.Held.{Held}
use Rattle.mdns_cache.specs.Lifetimes.{held_of}
use Rattle.mdns_records.specs.State.{State}
use Rattle.mdns_records.proofs.Walking.{AreCopied, copied-none, copied-more, copied-all}
use Rattle.mdns_records.proofs.records.Records.records_of.Goals as goal

pub loop-one-init : goal.loop-one-init
loop-one-init g c = record {
  copied = subst (AreCopied (held_of c.args.name.now c.args.self.now.held)) (sym c.in_ok-held.ensures.items) (copied-none (held_of c.args.name.now c.args.self.now.held));
  visits = omega (arith, ap length c.in_ok-held.ensures.items);
  owner = ap (λ (a : At). a.owner) c.new-place.ensures;
  number = ap (λ (a : At). a.number) c.new-place.ensures ∙ sym (ap length c.in_ok-held.ensures.items);
}

pub loop-one-preserved : goal.loop-one-preserved
loop-one-preserved g c =
    let all : List Held = held_of c.args.name.now c.args.self.now.held in
    let there : slice_get all c.loop-one.place.number ≡ Some c.in-Some.one.now =
    ap (λ (v : State). slice_get (held_of c.args.name.now v.held) c.loop-one.place.number) (sym c.self.view_is) ∙ sym (c.in-Some.ensures.visited c.args.name.now c.loop-one.invariant.owner) in
    let more : AreCopied all (c.loop-one.held.items ++ c.in-Some.one.now ∷ []) =
    copied-more all c.loop-one.held.items c.loop-one.place.number c.in-Some.one.now c.loop-one.invariant.number there c.loop-one.invariant.copied in
    let items : c.push.new.self.items ≡ c.loop-one.held.items ++ c.in-Some.one.now ∷ [] =
    c.in_ok-push.ensures.items ∙ ap (λ (h : Held). c.loop-one.held.items ++ h ∷ []) c.in_ok-copy.ensures in
    record {
      copied = subst (AreCopied all) (sym items) more;
      visits = omega (arith, ap length items, length-append c.loop-one.held.items (c.in-Some.one.now ∷ []), c.loop-one.invariant.visits, c.visit_at.ensures.steps);
      owner = ap (λ (a : At). a.owner) c.go.ensures ∙ c.loop-one.invariant.owner;
      number = ap (λ (a : At). a.number) c.go.ensures ∙ c.len.ensures ∙ c.push.new.self.ok.0;
    }

pub returns-clause-held : goal.returns-clause-held
returns-clause-held g c =
    copied-all (held_of c.args.name.now c.args.self.now.held) c.loop-one.held.items c.loop-one.place.number c.loop-one.invariant.number
    (ap (λ (v : State). slice_get (held_of c.args.name.now v.held) c.loop-one.place.number) (sym c.self.view_is) ∙ sym (c.in_default.ensures.visited c.args.name.now c.loop-one.invariant.owner)) c.loop-one.invariant.copied

pub returns-clause-visits : goal.returns-clause-visits
returns-clause-visits g c =
    let all = returns-clause-held g c in
    omega (arith, ap length all, c.loop-one.invariant.visits, c.visit_at.ensures.steps)

pub returns-clause-most : goal.returns-clause-most
returns-clause-most g c =
    let all = returns-clause-held g c in
    omega (arith, ap length all, c.loop-one.invariant.visits, c.visit_at.ensures.steps)
