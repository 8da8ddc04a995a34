-- What each status of a generated script says of the output.
use Rattle.std.specs.Prelude.{◌⊎◌, ◌≡◌, ℕ, List, Option, take}
use Rattle.std.specs.Io.KnownBytes.{Appends}
use Rattle.mdns_generator.specs.Summaries.{IsSummary}

-- The sink gained the summary of n.
abbrev pub GainsSummary : ℕ → Option (List ℕ) → Option (List ℕ) → Type 0
GainsSummary n old new = (text : List ℕ) × IsSummary n text × Appends old new text

-- The sink gained a beginning of it.
abbrev pub BeginsSummary : ℕ → Option (List ℕ) → Option (List ℕ) → Type 0
BeginsSummary n old new = (text : List ℕ) × IsSummary n text × ((k : ℕ) × Appends old new (take k text))

-- the statuses of a generated script
abbrev pub IsGenStatus : ℕ → Type 0
IsGenStatus status = (status ≡ 0) ⊎ (status ≡ 5) ⊎ (status ≡ 6)
