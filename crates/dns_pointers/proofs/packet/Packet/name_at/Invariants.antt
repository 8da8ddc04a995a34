use Rattle.std.proofs.Common.{◌-◌, ◌+◌, ◌<◌, ◌≤◌, length}
use Rattle.std.specs.Option.{IfSome}
use Rattle.dns_pointers.specs.Chains.{AreEnough}
use Rattle.dns_pointers.proofs.NameTurns.{IsUnderWay, used_by}
use Rattle.dns_pointers.proofs.packet.Packet.name_at.Given as goal

abbrev pub invariant-turns : goal.invariant-turns
invariant-turns l = record {
  under_way : IsUnderWay (length l.self-inside.bytes.now + 129 - l.turn) l.name l.end l.start l.place l.self-inside.bytes.now l.fn.at;
  within : IfSome l.end (λ e. e ≤ length l.self-inside.bytes.now);
  order : l.start ≤ l.place;
  enough : l.start < length l.self-inside.bytes.now → AreEnough (length l.self-inside.bytes.now + 129 - l.turn) l.start (used_by l.name);
}
