use Rattle.std.proofs.Common.{◌≡◌, ◌≤◌, None, take, if◌then◌else◌}
use Rattle.indexmap.specs.IndexMap.{spare}
use Rattle.dns_record.specs.declared.record.Rr.{Rr}
use Rattle.mdns_history.specs.Debts.{is_goodbye}
use Rattle.mdns_reply.specs.Lasts.{last_of}
use Rattle.mdns_reply.proofs.moments.take_back.Given as goal

abbrev pub invariant-loop-rr : goal.invariant-loop-rr
invariant-loop-rr l = record {
  lasts : (one : Rr) → last_of one l.moments.entries ≡ (if is_goodbye one (take l.rr-index l.sent) then None else last_of one l.initial.moments.entries);
  room : spare l.initial.moments ≤ spare l.moments;
}
