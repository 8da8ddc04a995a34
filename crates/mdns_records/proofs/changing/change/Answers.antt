use Rattle.std.proofs.Common.{◌≤◌, IsPermutation}
use Rattle.std.proofs.lemmas.List.Sorted.{IsPermutation-sym, IsPermutation-trans}
use Rattle.mdns_history.specs.declared.held.Held.{Held}
use Rattle.mdns_cache.proofs.EndsFirst.{each-permuted}
use Rattle.mdns_records.specs.After.{held_after}
use Rattle.mdns_records.proofs.Fitting.{moved, is_heard}
use Rattle.mdns_records.proofs.Holding.{after-holds, after-heard}
use Rattle.mdns_records.proofs.changing.change.Goals as goal

pub returns-clause-held : goal.returns-clause-held
returns-clause-held g c =
    IsPermutation-trans _ _ _
    (is_heard c.args.now c.args.word c.args.heard c.args.cache.now.held c.take_ended.new.cache.held c.take_ended.ensures.held c.hear.result _ _ _ _
    c.hear.ensures.held c.hear.ensures.over.0 c.hear.ensures.no_memory c.take_ended.ensures.limit c.take_ended.ensures.room c.requires.room c.requires.fits)
    (moved c.args.now c.args.word c.args.heard c.args.cache.now.held c.take_ended.new.cache.held c.take_ended.ensures.held)

pub returns-clause-within : goal.returns-clause-within
returns-clause-within g c =
    is_heard c.args.now c.args.word c.args.heard c.args.cache.now.held c.take_ended.new.cache.held c.take_ended.ensures.held c.hear.result _ _ _ _
    c.hear.ensures.within c.hear.ensures.over.0 c.hear.ensures.no_memory c.take_ended.ensures.limit c.take_ended.ensures.room c.requires.room c.requires.fits

pub returns-clause-live : goal.returns-clause-live
returns-clause-live g c =
    is_heard c.args.now c.args.word c.args.heard c.args.cache.now.held c.take_ended.new.cache.held c.take_ended.ensures.held c.hear.result _ _ _ _
    c.hear.ensures.live c.hear.ensures.over.0 c.hear.ensures.no_memory c.take_ended.ensures.limit c.take_ended.ensures.room c.requires.room c.requires.fits

pub returns-clause-heard : goal.returns-clause-heard
returns-clause-heard g c = λ all.
    let held : IsPermutation c.hear.new.self.held (held_after c.args.now c.args.word c.args.heard c.args.cache.now.held) = returns-clause-held g c in
    each-permuted (λ (one : Held). one.heard ≤ c.args.now) _ _ (IsPermutation-sym _ _ held)
    (after-heard c.args.now c.args.word c.args.heard c.args.cache.now.held all)

pub returns-clause-holds : goal.returns-clause-holds
returns-clause-holds g c = λ past before earlier holds.
    IsPermutation-trans _ _ _ (returns-clause-held g c) (after-holds c.args.now c.args.word c.args.heard c.args.cache.now.held past before earlier holds)
