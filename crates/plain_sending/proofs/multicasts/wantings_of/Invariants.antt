use Rattle.std.proofs.Common.{◌≡◌, map}
use Rattle.std.specs.Prelude.{filter}
use Rattle.mdns_history.specs.Sending.{is_free, wanted_by}
use Rattle.plain_sending.proofs.multicasts.wantings_of.Given as goal

abbrev pub invariant-loop-rr : goal.invariant-loop-rr
invariant-loop-rr l = l.wantings.items ≡ map (λ rr. (rr, filter (is_free l.past l.moment) (wanted_by l.own rr.rdata))) l.yielded
