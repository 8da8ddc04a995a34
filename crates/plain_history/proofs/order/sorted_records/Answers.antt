use Rattle.std.proofs.Common.{◌≡◌, ◌∙◌, ◌++◌, ◌∷◌, [], List, ap, sym, arith}
use Rattle.std.proofs.lemmas.Grind.{common_steps}
use Rattle.std.specs.List.{insert, prefix_len}
use Rattle.std.specs.Ordering.{is_lt}
use Rattle.lists.specs.Lists.{insert_by}
use Rattle.dns_record.specs.declared.record.Rr.{Rr}
use Rattle.dns_record.specs.Records.{record_cmp}
use Rattle.plain_history.specs.Sorting.{sorted_onto}
use Rattle.plain_history.proofs.Sorting.{sorted_onto-last, sorted_onto-none, insert_place}
use Rattle.plain_history.proofs.order.sorted_records.Goals as goal

pub loop-rr-preserved : goal.loop-rr-preserved
loop-rr-preserved c =
    let rr = c.in-Some.rr in
    let sorted = c.loop-rr.sorted.items in
    let rest = c.pop.new.self.items in
    let popped : c.loop-rr.records.items ≡ rest ++ rr ∷ [] = c.in-Some.ensures.items in
    let place : c.place_of-place.result ≡ prefix_len (λ other. is_lt (record_cmp other rr)) sorted = c.place_of-place.ensures.place ∙ ap (prefix_len (λ other. is_lt (record_cmp other rr))) c.deref.ensures.value in
    let put : c.insert.new.self.items ≡ insert_by record_cmp rr sorted =
    c.in_ok-insert.ensures.items ∙ ap (λ n. insert sorted n rr) place ∙ insert_place record_cmp rr sorted in
    ap (sorted_onto record_cmp rest) put ∙ sym (sorted_onto-last record_cmp rest rr sorted)
    ∙ ap (λ (l : List Rr). sorted_onto record_cmp l sorted) (sym popped) ∙ c.loop-rr.invariant

pub returns : goal.returns
returns c =
    let empty : c.loop-rr.records.items ≡ [] = grind (arith, common_steps) in
    let fresh : c.new-sorted.result.items ≡ [] = c.new-sorted.ensures.items in
    ap (λ (l : List Rr). sorted_onto record_cmp l c.loop-rr.sorted.items) (sym empty) ∙ c.loop-rr.invariant
    ∙ ap (sorted_onto record_cmp c.args.records.items) fresh ∙ sorted_onto-none record_cmp c.args.records.items
