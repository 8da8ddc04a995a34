use Rattle.std.proofs.Common.{◌≡◌, ◌∙◌, ◌+◌, ◌++◌, ℕ, List, Option, not, ap}
use Rattle.std.specs.Prelude.{filter}
use Rattle.std.specs.Option.{option_to_list}
use Rattle.mdns_history.specs.declared.entry.Entry.{Entry}
use Rattle.mdns_history.specs.Groups.{Group, begun_in, ends_group, names_of, registered_count}
use Rattle.plain_groups.proofs.live.after_entry.Goals as goal

pub returns-clause-value : goal.returns-clause-value
returns-clause-value c =
    let entry = c.args.entry.now in
    let past = c.args.past.now in
    let before = c.args.before.items in
    let names : c.in_ok-names.names.items ≡ names_of before past = c.in_ok-names.ensures.value ∙ ap (λ (l : List Group). names_of l past) c.deref.ensures.value in
    let begun : c.in_ok-begun.begun ≡ begun_in entry (registered_count past + 1) (names_of before past) =
    c.in_ok-begun.ensures ∙ ap (λ n. begun_in entry (n + 1) c.deref-2.result.now) c.registered_count.ensures.value
    ∙ ap (begun_in entry (registered_count past + 1)) (c.deref-2.ensures.value ∙ names) in
    c.in_ok-put_begun.ensures.value
    ∙ ap (λ (l : List Group). l ++ option_to_list c.in_ok-begun.begun) (c.in_ok-live.ensures.value ∙ ap (λ (e : Entry). filter (λ group. not (ends_group e group)) before) c.entry.ensures)
    ∙ ap (λ (o : Option Group). filter (λ group. not (ends_group entry group)) before ++ option_to_list o) begun
