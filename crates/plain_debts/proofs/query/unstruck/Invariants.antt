use Rattle.std.proofs.Common.{◌≡◌, not}
use Rattle.std.specs.Prelude.{filter}
use Rattle.mdns_history.specs.Debts.{is_struck}
use Rattle.plain_debts.proofs.query.unstruck.Given as goal

abbrev pub invariant-loop-rr : goal.invariant-loop-rr
invariant-loop-rr l = l.rrs.items ≡ filter (λ rr. not (is_struck l.heard.message.answers rr)) l.yielded
