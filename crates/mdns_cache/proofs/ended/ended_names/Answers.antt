use Rattle.std.proofs.Common.{◌≡◌, ◌+◌, ◌<◌, List, length, slice_get, sym, ap, subst, ◌∙◌, arith, rules}
use Rattle.std.specs.Map.{values_of}
use Rattle.mdns_history.specs.declared.held.Held.{Held}
use Rattle.mdns_cache.specs.EndedPlaces.{AreEnded}
use Rattle.mdns_cache.specs.Named.{Entry}
use Rattle.by_name.specs.Filed.{in_layers}
use Rattle.by_name.proofs.Layers.{in_layers-permutes}
use Rattle.mdns_cache.proofs.Kept.{length-values}
use Rattle.std.proofs.lemmas.List.Sorted.{IsPermutation-sym}
use Rattle.mdns_cache.proofs.Below.{root_on, of_ended, has_ended}
use Rattle.mdns_cache.proofs.ended.ended_names.Goals as goal

pub returns-then-is_empty-clause-all : goal.returns-then-is_empty-clause-all
returns-then-is_empty-clause-all c =
    has_ended c.args.now c.args.records.now.entries c.new-names.result.items
    (λ place one there ended within.
    let len = length-values c.args.records.now.entries in
    let room = c.requires.room in
    let none : length c.args.nodes.now ≡ 0 = search rules in
    absurd (omega (arith, len, room, none, within)))

pub returns-clause-all : goal.returns-clause-all
returns-clause-all c =
    let es : List Entry = c.args.records.now.entries in
    let same : c.values.result.now ≡ values_of es = c.values.ensures in
    has_ended c.args.now es c.put_ended.new.names.items
    (λ place one there ended within.
    let len = length-values es in
    let room = c.requires.room in
    let below : place < length c.args.nodes.now = omega (arith, len, room, within) in
    c.in_ok-put_ended.ensures.found place one (root_on (length c.args.nodes.now + place) (length c.args.nodes.now + place) (omega arith) (omega (arith, below))) (ap (λ (l : List Held). slice_get l place) same ∙ there) ended below)

pub returns-clause-only : goal.returns-clause-only
returns-clause-only c =
    let es : List Entry = c.args.records.now.entries in
    let same : c.values.result.now ≡ values_of es = c.values.ensures in
    let none : AreEnded c.values.result.now c.args.now c.new-names.result.items = subst (AreEnded c.values.result.now c.args.now) (sym c.new-names.ensures.items) tt in
    of_ended c.args.now (values_of es) (in_layers es) c.put_ended.new.names.items (IsPermutation-sym _ _ (in_layers-permutes es))
    (subst (λ (l : List Held). AreEnded l c.args.now c.put_ended.new.names.items) same (c.in_ok-put_ended.ensures.only none))
