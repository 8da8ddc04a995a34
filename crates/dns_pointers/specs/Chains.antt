-- Where chains of pointers end, so that none is followed twice. (RFC 1035 4.1.4)
use Rattle.std.specs.Prelude.{◌≡◌, ℕ, ◌+◌, ◌-◌, ◌/◌, ◌<◌, ◌≤◌, List, slice_index_or, Result, Ok}
use Rattle.dns_pointers.specs.declared.fault.NameFault.{NameFault}
use Rattle.dns_pointers.specs.Reading.{◌>>=◌, NameAt, labels_at}

-- Turns that are enough for the rest of a name: one for each lesser start, and one for each label for which there is room.
abbrev pub AreEnough : ℕ → ℕ → ℕ → Type 0
AreEnough turns start used = start + (255 - used) / 2 < turns

-- the labels of a name, wherever it ends
abbrev pub labels_in : Result NameAt NameFault → Result (List (List ℕ)) NameFault
labels_in found = found >>= λ name. Ok name.0

-- The rest of a name is the same, labels or fault, from one start as from another that is no greater, whatever labels stand before.
pub record IsEndOf (bytes : List ℕ) (start end : ℕ) : Type 0 where
  pub below : end ≤ start
  pub alike : (turns used : ℕ) → AreEnough turns start used → labels_in (labels_at turns bytes start start used) ≡ labels_in (labels_at turns bytes end end used)

-- the offset that is kept for a start, and the start itself where none is kept
abbrev pub end_kept : List ℕ → ℕ → ℕ
end_kept ends start = slice_index_or ends start start

-- From each start the rest of a name is that from the offset that is kept for it.
pub record AreEnds (bytes ends : List ℕ) : Type 0 where
  pub each : (start : ℕ) → IsEndOf bytes start (end_kept ends start)
