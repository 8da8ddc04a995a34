use Rattle.std.proofs.Common.{◌≡◌, ◌++◌, drop}
use Rattle.std.specs.List.{flat_map}
use Rattle.mdns_history.specs.Asking.{known_answers}
use Rattle.plain_sending.proofs.queries.known_of.Given as goal

abbrev pub invariant-loop-key : goal.invariant-loop-key
invariant-loop-key l = l.all.items ++ flat_map (λ key. known_answers key l.history l.moment) (drop l.key-index l.keys) ≡ flat_map (λ key. known_answers key l.history l.moment) l.keys
