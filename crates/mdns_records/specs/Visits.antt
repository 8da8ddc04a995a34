-- How many records are looked at one after another: those of the names that are walked, and those that have ended.
use Rattle.std.specs.Prelude.{ℕ, ◌+◌, not, List, filter, length}
use Rattle.std.specs.List.{sum_by}
use Rattle.mdns_history.specs.declared.held.Held.{Held}
use Rattle.mdns_history.specs.Lifetimes.{is_live_at}
use Rattle.mdns_cache.specs.Lifetimes.{held_of}

-- the visits that a walk of a name takes: one for each of its records, and one that finds no more
abbrev pub visits_of : List Held → List (List ℕ) → ℕ
visits_of held name = length (held_of name held) + 1

-- those that a walk of several names takes
abbrev pub visits_of_all : List Held → List (List (List ℕ)) → ℕ
visits_of_all held names = sum_by (visits_of held) names

-- the records that have ended
abbrev pub ended_in : ℕ → List Held → List Held
ended_in moment held = filter (λ one. not (is_live_at moment one)) held
