use Rattle.std.proofs.Common.{arith}
use Rattle.dns_record.specs.Records.{record_cmp}
use Rattle.dns_record.proofs.Same.{record_cmp_total}
use Rattle.mdns_pack.proofs.Rising.{rising-ordered}
use Rattle.mdns_pack.proofs.order.are_in_order.Goals as goal

pub returns : goal.returns
returns c = λ e. rising-ordered record_cmp record_cmp_total c.args.listings.now (λ k d low. c.loop-next.invariant k d (omega (arith, c.loop-next-test.false, low)))
