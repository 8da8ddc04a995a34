use Rattle.std.proofs.Common.{◌≡◌, ℕ, ◌+◌, ◌<◌, ◌≤◌, true, ⊎_elim, List, [], ◌∷◌, ◌++◌, length, Some, None, slice_get, sym, ap, subst, ◌∙◌, arith}
use Rattle.dns_record.specs.declared.record.Rr.{Rr}
use Rattle.mdns_history.specs.declared.held.Held.{Held}
use Rattle.mdns_cache.proofs.ListLemmas.{each-append}
use Rattle.mdns_cache.specs.Ends.{winner}
use Rattle.mdns_cache.specs.EndedPlaces.{IsEnded, AreEnded}
use Rattle.mdns_cache.specs.Ended.{is_among}
use Rattle.mdns_cache.proofs.Below.{winner_ended, leaf_itself, on_child, on_ok_map, among_pushed, some_inside, some_none}
use Rattle.mdns_cache.proofs.ended.+put_ended.Goals as goal

pub returns-in-None-clause-found : goal.returns-in-None-clause-found
returns-in-None-clause-found t c = λ place one on there ended within.
    let none : slice_get c.args.held.now c.winner-place.result ≡ None = sym c.in-None.ensures in
    let first = winner_ended c.args.held.now c.args.nodes.now c.requires.played c.args.node place c.args.now one c.requires.some on within there ended in
    absurd (some_none first.0 (sym first.1 ∙ ap (slice_get c.args.held.now) (sym c.winner-place.ensures) ∙ none))

pub returns-then-one-ms-clause-found : goal.returns-then-one-ms-clause-found
returns-then-one-ms-clause-found t c = λ place one on there ended within.
    let some : slice_get c.args.held.now c.winner-place.result ≡ Some c.in-Some.one.now = sym c.in-Some.ensures in
    let first = winner_ended c.args.held.now c.args.nodes.now c.requires.played c.args.node place c.args.now one c.requires.some on within there ended in
    let same : first.0 ≡ c.in-Some.one.now = some_inside first.0 c.in-Some.one.now (sym first.1 ∙ ap (slice_get c.args.held.now) (sym c.winner-place.ensures) ∙ some) in
    let end : first.0.end ≡ c.in-Some.one.now.end = ap (λ (h : Held). h.end) same in
    absurd (omega (arith, end, first.2, c.ms.ensures.value, c.if-one-ms.true))

pub returns-then-node-nodes-clause-found : goal.returns-then-node-nodes-clause-found
returns-then-node-nodes-clause-found t c = λ place one on there ended within.
    let some : slice_get c.args.held.now c.winner-place.result ≡ Some c.in-Some.one.now = sym c.in-Some.ensures in
    let leaf : winner c.args.nodes.now c.args.node ≡ place = leaf_itself c.args.held.now c.args.nodes.now c.requires.played c.args.node place c.if-node-nodes.true within on in
    let same : c.in-Some.one.now ≡ one = some_inside c.in-Some.one.now one (sym some ∙ ap (slice_get c.args.held.now) (c.winner-place.ensures ∙ leaf) ∙ there) in
    let items : c.push.new.self.items ≡ c.args.names.now.items ++ c.copy.result ∷ [] = c.in_ok-push.ensures.items in
    subst (λ (names : List (List (List ℕ))). is_among names one.rr.owner ≡ true) (sym items)
    (subst (λ (name : List (List ℕ)). is_among (c.args.names.now.items ++ c.copy.result ∷ []) name ≡ true) (c.copy.ensures ∙ ap (λ (rr : Rr). rr.owner) c.deref.ensures ∙ ap (λ (h : Held). h.rr.owner) same) (among_pushed c.args.names.now.items c.copy.result))

pub returns-then-node-nodes-clause-only : goal.returns-then-node-nodes-clause-only
returns-then-node-nodes-clause-only t c = λ old.
    let some : slice_get c.args.held.now c.winner-place.result ≡ Some c.in-Some.one.now = sym c.in-Some.ensures in
    let items : c.push.new.self.items ≡ c.args.names.now.items ++ c.copy.result ∷ [] = c.in_ok-push.ensures.items in
    subst (AreEnded c.args.held.now c.args.now) (sym items)
    (each-append (IsEnded c.args.held.now c.args.now) c.args.names.now.items (c.copy.result ∷ []) old
    ((c.winner-place.result, c.in-Some.one.now, some, subst (λ (n : ℕ). c.in-Some.one.now.end ≤ n) c.ms.ensures.value c.if-one-ms.false, sym (c.copy.ensures ∙ ap (λ (rr : Rr). rr.owner) c.deref.ensures)), tt))

pub returns-clause-found : goal.returns-clause-found
returns-clause-found t c =
    on_ok_map c.put_ended-2.result _ _
    (λ right place one on there ended within.
    let less : c.args.node < length c.args.nodes.now + place = (let h : c.args.node < length c.args.nodes.now = c.if-node-nodes.false in omega (arith, h)) in
    ⊎_elim (λ l. c.put_ended-2.ensures.kept one.rr.owner (c.in_ok-put_ended.ensures.found place one l there ended within)) (λ r. right place one r there ended within)
    (on_child (length c.args.nodes.now + place) c.args.node less on)) c.put_ended-2.ensures.found
