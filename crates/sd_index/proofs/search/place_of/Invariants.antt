use Rattle.std.proofs.Common.{◌≡◌, ◌^◌, ◌-◌, ◌<◌, ℕ, false, Some, length}
use Rattle.by_name.specs.At.{at, owner_of}
use Rattle.by_name.specs.Filed.{found, AreFiled}
use Rattle.sd_index.specs.declared.asker.Asker.{Asker}
use Rattle.sd_index.specs.Asked.{asker_eq}
use Rattle.sd_index.proofs.search.place_of.Given as goal

abbrev pub invariant-loop-one : goal.invariant-loop-one
invariant-loop-one l = record {
  small : length l.filed.entries < 2 ^ 63;
  filed : AreFiled l.filed.entries;
  place : l.place ≡ at (owner_of l.name) l.number;
  apart : (m : ℕ) (one : Asker) → m < l.number → found (owner_of l.name) m l.filed.entries ≡ Some one → asker_eq l.asker one ≡ false;
}

abbrev pub decreases-loop-one : goal.decreases-loop-one
decreases-loop-one l = length l.filed.entries - l.number
