use Rattle.std.proofs.Common.{◌≡◌, ◌&&◌, nat_le}
use Rattle.std.specs.Prelude.{filter}
use Rattle.mdns_base.specs.declared.host.Dest.TheVariants.{All}
use Rattle.mdns_base.specs.Hosts.{dest_eq}
use Rattle.plain_debts.proofs.due.due_multicasts.Given as goal

abbrev pub invariant-loop-debt : goal.invariant-loop-debt
invariant-loop-debt l = l.due.items ≡ filter (λ debt. dest_eq debt.to All && nat_le debt.due l.moment) l.yielded
