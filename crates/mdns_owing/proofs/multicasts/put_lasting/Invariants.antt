use Rattle.std.proofs.Common.{◌≡◌, ◌++◌, drop}
use Rattle.std.specs.Prelude.{filter, nat_lt}
use Rattle.mdns_owing.proofs.multicasts.put_lasting.Given as goal

abbrev pub invariant-loop-rr : goal.invariant-loop-rr
invariant-loop-rr l = l.lasting.items ++ filter (λ rr. nat_lt 0 rr.ttl) (drop l.rr-index l.all) ≡ l.initial.lasting.items ++ filter (λ rr. nat_lt 0 rr.ttl) l.all
