use Rattle.std.proofs.Common.{◌≡◌, ◌+◌, ◌≤◌, Some, length, if◌then◌else◌}
use Rattle.indexmap.specs.IndexMap.{spare}
use Rattle.dns_record.specs.declared.record.Rr.{Rr}
use Rattle.mdns_history.specs.Debts.{is_multicast}
use Rattle.mdns_reply.specs.Lasts.{last_of}
use Rattle.mdns_reply.proofs.moments.note.Given as goal

abbrev pub invariant-loop-rr : goal.invariant-loop-rr
invariant-loop-rr l = record {
  lasts : (one : Rr) → (if is_multicast one l.sent.items then Some l.now else last_of one l.moments.entries) ≡ (if is_multicast one l.initial.sent.items then Some l.now else last_of one l.initial.moments.entries);
  enough : length l.sent.items ≤ spare l.moments;
  room : spare l.initial.moments + length l.sent.items ≤ spare l.moments + length l.initial.sent.items;
}

abbrev pub decreases-loop-rr : goal.decreases-loop-rr
decreases-loop-rr l = length l.sent.items
