use Rattle.std.proofs.Common.{arith}
use Rattle.mdns_claimants.proofs.Typed.{bytes_each}
use Rattle.mdns_claimants.proofs.looks.look_at_bytes.Goals as goal

pub returns : goal.returns
returns c = bytes_each c.args.bytes.now (λ i h. omega (arith, c.type_inv.bytes i))
