use Rattle.std.proofs.Common.{◌≡◌}
use Rattle.std.specs.List.{filter_map}
use Rattle.mdns_history.specs.History.{last_at}
use Rattle.mdns_history.specs.Questions.{begun_with}
use Rattle.plain_asking.proofs.active.active_questions.Given as goal

abbrev pub invariant-loop-key : goal.invariant-loop-key
invariant-loop-key l = l.active.items ≡ filter_map (λ question. last_at (begun_with question) l.history) l.yielded
