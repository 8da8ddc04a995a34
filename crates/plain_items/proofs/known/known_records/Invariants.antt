use Rattle.std.proofs.Common.{◌≡◌, map}
use Rattle.mdns_history.specs.declared.held.Held.{Held}
use Rattle.plain_items.proofs.known.known_records.Given as goal

abbrev pub invariant-loop-held : goal.invariant-loop-held
invariant-loop-held l = l.records.items ≡ map (λ (held : Held). held.rr) l.yielded
