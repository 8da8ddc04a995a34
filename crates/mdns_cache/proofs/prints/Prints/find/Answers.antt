use Rattle.std.proofs.Common.{◌≡◌, ◌∙◌, ◌<◌, ⊎_elim, ℕ, length, get_or, false, List, Option, Some, None, slice_get, sym, ap}
use Rattle.std.specs.Prelude.{IfNone}
use Rattle.std.proofs.lemmas.Option.{slice_get-get_or, slice_get_past}
use Rattle.std.specs.List.{AllByRecursion}
use Rattle.std.proofs.lemmas.Bool.{false≢true}
use Rattle.dns_record.specs.declared.record.Rr.{Rr}
use Rattle.dns_record.specs.Records.{same}
use Rattle.mdns_history.specs.declared.held.Held.{Held}
use Rattle.mdns_cache.specs.Printed.{noted}
use Rattle.mdns_cache.proofs.Indexing.{found_at, none_at, none_noted}
use Rattle.mdns_cache.proofs.prints.Prints.find.Goals as goal

at : (held : List Held) (i : ℕ) (one : Held) → i < length held → one ≡ get_or held i one → slice_get held i ≡ Some one
at held i one within is = slice_get-get_or held i one within ∙ ap Some (sym is)

pub returns-then-self-clause-some : goal.returns-then-self-clause-some
returns-then-self-clause-some c = found_at (λ (one : Held). same one.rr c.args.rr.now) c.args.held.now c.first_same.result c.first_same.ensures

pub returns-then-self-clause-none : goal.returns-then-self-clause-none
returns-then-self-clause-none c = none_at (λ (one : Held). same one.rr c.args.rr.now) c.args.held.now c.first_same.result c.first_same.ensures

-- what is none is so whatever the answer is
if_none : {X : Type 0} (o : Option X) (P : Type 0) → P → IfNone o P
if_none None P h = h
if_none (Some x) P h = tt

pub returns-in_err-index-clause-none : goal.returns-in_err-index-clause-none
returns-in_err-index-clause-none c =
    if_none c.from_residual.result (AllByRecursion (λ (one : Held). same one.rr c.args.rr.now ≡ false) c.args.held.now)
    (none_noted c.args.self.now.start c.args.self.now.indexes.entries c.args.held.now c.args.rr.now
    (⊎_elim (λ mixed. absurd (false≢true (sym c.if-self.false ∙ mixed))) (λ h. h) c.requires)
    (λ i one is there same. absurd (none (sym is ∙ ap (noted c.args.self.now.indexes.entries) (sym c.print.ensures) ∙ sym c.noted.ensures ∙ c.in_err-index.was))))
  where
    none : {i : ℕ} → ◌≡◌ (Some i) None → ⊥
    none e = cc

pub returns-in_err-get-clause-none : goal.returns-in_err-get-clause-none
returns-in_err-get-clause-none c =
    if_none c.from_residual-in_err-get.result (AllByRecursion (λ (one : Held). same one.rr c.args.rr.now ≡ false) c.args.held.now)
    (none_noted c.args.self.now.start c.args.self.now.indexes.entries c.args.held.now c.args.rr.now
    (⊎_elim (λ mixed. absurd (false≢true (sym c.if-self.false ∙ mixed))) (λ h. h) c.requires)
    (λ i one is there same.
    let noted_is : ◌≡◌ (Some i) (Some c.in_ok-index.index) = sym is ∙ ap (noted c.args.self.now.indexes.entries) (sym c.print.ensures) ∙ sym c.noted.ensures ∙ c.in_ok-index.was in
    let index : i ≡ c.in_ok-index.index = cc in
    none (sym there ∙ ap (slice_get c.args.held.now) index ∙ slice_get_past c.args.held.now c.in_ok-index.index c.in_err-get.ensures.lookup.3)))
  where
    none : {one : Held} → ◌≡◌ (Some one) None → ⊥
    none e = cc

pub returns-then-same-clause-some : goal.returns-then-same-clause-some
returns-then-same-clause-some c = (
  c.in_ok-get.field-0.now,
  at c.args.held.now c.in_ok-index.index c.in_ok-get.field-0.now c.in_ok-get.ensures.lookup.3.0 c.in_ok-get.ensures.lookup.1,
  ap (λ (rr : Rr). same rr c.args.rr.now) (sym c.deref.ensures) ∙ sym c.same.ensures.value ∙ c.if-same.true,
)

pub returns-else-same-clause-none : goal.returns-else-same-clause-none
returns-else-same-clause-none c =
    none_noted c.args.self.now.start c.args.self.now.indexes.entries c.args.held.now c.args.rr.now
    (⊎_elim (λ mixed. absurd (false≢true (sym c.if-self.false ∙ mixed))) (λ h. h) c.requires)
    (λ i one is there is_same.
    let noted_is : ◌≡◌ (Some i) (Some c.in_ok-index.index) = sym is ∙ ap (noted c.args.self.now.indexes.entries) (sym c.print.ensures) ∙ sym c.noted.ensures ∙ c.in_ok-index.was in
    let index : i ≡ c.in_ok-index.index = cc in
    let here : ◌≡◌ (Some one) (Some c.in_ok-get.field-0.now) = sym there ∙ ap (slice_get c.args.held.now) index ∙ at c.args.held.now c.in_ok-index.index c.in_ok-get.field-0.now c.in_ok-get.ensures.lookup.3.0 c.in_ok-get.ensures.lookup.1 in
    let one_is : one ≡ c.in_ok-get.field-0.now = cc in
    false≢true (sym c.if-same.false ∙ c.same.ensures.value ∙ ap (λ (rr : Rr). same rr c.args.rr.now) c.deref.ensures ∙ ap (λ (h : Held). same h.rr c.args.rr.now) (sym one_is) ∙ is_same))
