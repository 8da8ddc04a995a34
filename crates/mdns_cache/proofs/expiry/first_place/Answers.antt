use Rattle.std.proofs.Common.{◌≡◌, ◌<◌, ◌≤◌, ℕ, List, Some, slice_get, subst, sym, ap, ◌∙◌}
use Rattle.std.specs.List.{HoldsAt}
use Rattle.std.specs.Map.{values_of, lookup}
use Rattle.mdns_history.specs.declared.held.Held.{Held}
use Rattle.by_name.specs.At.{At, at_eq}
use Rattle.mdns_cache.specs.Named.{Entry}
use Rattle.mdns_cache.specs.Ends.{IsFirst}
use Rattle.mdns_cache.proofs.EndsFirst.{all_live, first_ended, first_at, value_at}
use Rattle.mdns_cache.proofs.expiry.first_place.Goals as goal

pub returns-then-one-ms-clause-none : goal.returns-then-one-ms-clause-none
returns-then-one-ms-clause-none c =
    let es : List Entry = c.args.records.now.entries in
    let one : Held = c.in_ok-place.one.now in
    let same : c.values.result.now ≡ values_of es = c.values.ensures in
    let there : slice_get (values_of es) c.in_ok-index.index ≡ Some one = value_at es c.in_ok-index.index (c.in_ok-place.place.now, one) (sym c.in_ok-place.ensures.entry) in
    let holds : HoldsAt (IsFirst (values_of es)) (values_of es) c.in_ok-index.index = subst (λ (l : List Held). HoldsAt (IsFirst l) l c.in_ok-index.index) same c.in_ok-index.ensures.1 in
    all_live c.args.now es one (first_at (values_of es) c.in_ok-index.index one holds there) (subst (λ (n : ℕ). n < one.end) c.ms.ensures.value c.if-one-ms.true)

pub returns-clause-first : goal.returns-clause-first
returns-clause-first c =
    let es : List Entry = c.args.records.now.entries in
    let one : Held = c.in_ok-place.one.now in
    let same : c.values.result.now ≡ values_of es = c.values.ensures in
    let there : slice_get (values_of es) c.in_ok-index.index ≡ Some one = value_at es c.in_ok-index.index (c.in_ok-place.place.now, one) (sym c.in_ok-place.ensures.entry) in
    let holds : HoldsAt (IsFirst (values_of es)) (values_of es) c.in_ok-index.index = subst (λ (l : List Held). HoldsAt (IsFirst l) l c.in_ok-index.index) same c.in_ok-index.ensures.1 in
    let place : c.other.result ≡ c.in_ok-place.place.now = c.other.ensures ∙ (λ i. record { owner = c.in_ok-place.place.now.owner; number = c.number.ensures i }) in (
      one,
      ap (λ (k : At). lookup (at_eq k) es) place ∙ c.in_ok-place.ensures.found,
      first_ended c.args.now es one (first_at (values_of es) c.in_ok-index.index one holds there) (subst (λ (n : ℕ). one.end ≤ n) c.ms.ensures.value c.if-one-ms.false),
    )
