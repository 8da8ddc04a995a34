-- What each status says of the input and the output.
use Rattle.std.specs.Prelude.{◌⊎◌, ◌≡◌, ℕ, List, take, Option}
use Rattle.std.specs.Io.KnownBytes.{Appends}
use Rattle.mdns_streams.specs.Reads as reads
use Rattle.mdns_check.specs.declared.verdict.Verdict.{Verdict}
use Rattle.mdns_check.specs.Verdicts.{IsVerdict, status_of, line_of}

-- the most bytes that a transcript may have
abbrev pub most_bytes : ℕ
most_bytes = 1048576

-- The text was read to its end, where the source tells it, and it isn't too large.
abbrev pub ReadAll : Option (List ℕ) → Option (List ℕ) → (List ℕ → Type 0) → Type 0
ReadAll old new P = reads.ReadAll most_bytes old new P

-- More bytes were taken than a transcript may have.
abbrev pub IsTooLarge : Option (List ℕ) → Option (List ℕ) → Type 0
IsTooLarge old new = reads.IsTooLarge most_bytes old new

-- No more bytes were taken than a transcript may have.
abbrev pub IsWithin : Option (List ℕ) → Option (List ℕ) → Type 0
IsWithin old new = reads.IsWithin most_bytes old new

-- What is right to say of the text was put, with this status.
pub record Says (text : List ℕ) (old new : Option (List ℕ)) (status : ℕ) : Type 0 where
  pub verdict : Verdict
  pub right : IsVerdict text verdict
  pub told : status ≡ status_of verdict
  pub put : Appends old new (line_of verdict)

-- A beginning of the line that says it was put.
pub record Begins (text : List ℕ) (old new : Option (List ℕ)) : Type 0 where
  pub verdict : Verdict
  pub right : IsVerdict text verdict
  pub put : (n : ℕ) × Appends old new (take n (line_of verdict))

-- the statuses of a text that was read and told: legal, illegal and a bad line
abbrev pub IsToldStatus : ℕ → Type 0
IsToldStatus status = (status ≡ 0) ⊎ (status ≡ 1) ⊎ (status ≡ 3)

-- all statuses
abbrev pub IsStatus : ℕ → Type 0
IsStatus status = IsToldStatus status ⊎ ((status ≡ 2) ⊎ (status ≡ 4) ⊎ (status ≡ 5) ⊎ (status ≡ 6) ⊎ (status ≡ 8))
