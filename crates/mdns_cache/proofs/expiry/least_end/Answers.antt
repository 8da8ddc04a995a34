use Rattle.std.proofs.Common.{◌≡◌, ◌<◌, ℕ, List, Some, get_or, length, slice_get, subst, sym, ap, ◌∙◌}
use Rattle.std.specs.List.{HoldsAt}
use Rattle.std.specs.Map.{values_of}
use Rattle.std.proofs.lemmas.Option.{slice_get-get_or}
use Rattle.mdns_history.specs.declared.held.Held.{Held}
use Rattle.mdns_cache.specs.Ends.{IsFirst}
use Rattle.mdns_cache.specs.Named.{Entry}
use Rattle.mdns_cache.proofs.EndsFirst.{least_end_is, first_at}
use Rattle.mdns_cache.proofs.expiry.least_end.Goals as goal

pub returns : goal.returns
returns c =
    let es : List Entry = c.args.records.now.entries in
    let index : ℕ = c.in_ok-index.index in
    let one : Held = get_or c.values-2.result.now index c.index-values-index.result in
    let within : index < length (values_of es) = subst (λ (l : List Held). index < length l) c.values.ensures c.in_ok-index.ensures.0 in
    let there : slice_get (values_of es) index ≡ Some one =
    slice_get-get_or (values_of es) index c.index-values-index.result within ∙ ap (λ (l : List Held). Some (get_or l index c.index-values-index.result)) (sym c.values-2.ensures) in
    let holds : HoldsAt (IsFirst (values_of es)) (values_of es) index = subst (λ (l : List Held). HoldsAt (IsFirst l) l index) c.values.ensures c.in_ok-index.ensures.1 in
    sym (least_end_is es index one there (first_at (values_of es) index one holds there))
