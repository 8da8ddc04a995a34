-- The order of questions is total.
use Rattle.std.specs.Cmp.{IsTotalOrder}
use Rattle.std.proofs.lemmas.Cmp.{on_total, then_total, nat_cmp_total, nat_list_cmp_total}
use Rattle.dns_name.specs.Names.{wire_of, folded, name_cmp}
use Rattle.dns_record.specs.declared.record.Key.{Key}
use Rattle.dns_record.specs.Records.{key_cmp}

pub key_cmp_total : IsTotalOrder key_cmp
unfolding key_cmp name_cmp
key_cmp_total = then_total (on_total (λ (k : Key). wire_of (folded k.name)) nat_list_cmp_total) (on_total (λ (k : Key). k.kind) nat_cmp_total)
