use Rattle.std.proofs.Common.{◌≡◌, ◌++◌, ◌≤◌, drop, vec_len}
use Rattle.mdns_history.specs.Claims.{marks_in_turn}
use Rattle.plain_claims.proofs.turns.marks_in_turn.Given as goal

abbrev pub invariant-loop-group : goal.invariant-loop-group
invariant-loop-group l = record {
  marks : l.marks.items ++ marks_in_turn l.heard l.history (drop l.group-index l.groups) l.holdings.items ≡ marks_in_turn l.heard l.history l.groups l.initial.holdings.items;
  few : vec_len l.holdings ≤ vec_len l.initial.holdings;
}
