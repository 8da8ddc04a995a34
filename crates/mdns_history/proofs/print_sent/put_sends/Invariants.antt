use Rattle.std.proofs.Common.{◌≡◌, ◌++◌, take}
use Rattle.std.specs.List.{flat_map}
use Rattle.mdns_history.specs.EntryText.{sent_lines}
use Rattle.mdns_history.proofs.print_sent.put_sends.Given as goal

abbrev pub invariant-loop-sent : goal.invariant-loop-sent
invariant-loop-sent l = l.out.items ≡ l.fn.out.items ++ flat_map sent_lines (take l.sent-index l.sends)
