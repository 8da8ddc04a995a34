-- The questions of a name, which stand side by side.
use Rattle.std.specs.Prelude.{◌≡◌, ℕ, ◌<◌, ◌≤◌, true, false, List, length, slice_index_or}
use Rattle.dns_name.specs.Names.{folded_eq}
use Rattle.mdns_question.specs.declared.tracked.Tracked.{Tracked}

-- The questions of a name are those from a place on up to another.
pub record AreOfName (questions : List Tracked) (name : List (List ℕ)) (first end : ℕ) : Type 0 where
  pub order : first ≤ end
  pub within : end ≤ length questions
  pub before : (k : ℕ) (d : Tracked) → k < first → folded_eq name (slice_index_or questions k d).key.name ≡ false
  pub named : (k : ℕ) (d : Tracked) → first ≤ k → k < end → folded_eq name (slice_index_or questions k d).key.name ≡ true
  pub behind : (k : ℕ) (d : Tracked) → end ≤ k → k < length questions → folded_eq name (slice_index_or questions k d).key.name ≡ false
