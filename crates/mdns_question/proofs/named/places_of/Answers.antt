use Rattle.std.proofs.Common.{◌≡◌, true, false, refl, rules}
use Rattle.std.specs.List.Sorted.{IsPartitionPoint}
use Rattle.std.specs.Ordering.{is_lt}
use Rattle.std.proofs.lemmas.List.Sorted.{IsPartitionPoint-from_clause}
use Rattle.dns_name.specs.Names.{name_cmp}
use Rattle.mdns_question.proofs.NameParts.{parted, run_of_name}
use Rattle.mdns_question.proofs.named.places_of.Goals as goal

pub returns : goal.returns
returns c =
    let lt : IsPartitionPoint (λ one. is_lt (name_cmp one.key.name c.args.name.now) ≡ true) (λ one. is_lt (name_cmp one.key.name c.args.name.now) ≡ false) c.args.questions.now c.partition_point-first.result =
    IsPartitionPoint-from_clause (λ one. is_lt (name_cmp one.key.name c.args.name.now)) c.args.questions.now c.partition_point-first.result c.partition_point-first.ensures.partitioned
    (parted c.args.name.now is_lt refl refl c.args.questions.now c.requires) (λ a r f' k. search rules) in
    run_of_name c.args.name.now c.args.questions.now c.partition_point-first.result c.end_from.result c.requires c.end_from.ensures.order c.end_from.ensures.within lt
    c.end_from.ensures.named c.end_from.ensures.behind
