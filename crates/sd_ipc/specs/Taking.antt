-- What a source that tells its bytes has left after a frame was read.
use Rattle.std.specs.Prelude.{◌≡◌, ◌⊎◌, ℕ, ◌≤◌, List, drop, Option, Some, Result, Err}
use Rattle.sd_ipc.specs.declared.error.FrameError.{FrameError}
use Rattle.sd_ipc.specs.declared.error.FrameError.TheVariants.{ReadFault, NoMemory}

-- a fact of the bytes that a source had left, where it tells them
abbrev pub Told : Option (List ℕ) → (List ℕ → Type 0) → Type 0
Told left IsSo = (bytes : List ℕ) → left ≡ Some bytes → IsSo bytes

-- The source failed, or memory was refused.
abbrev pub IsRefused : {X : Type 0} → Result X FrameError → Type 0
IsRefused result = (result ≡ Err ReadFault) ⊎ (result ≡ Err NoMemory)

-- The result is that of the bytes, or the reading was refused.
abbrev pub IsOf : {X : Type 0} → Result X FrameError → Result X FrameError → Type 0
IsOf result wanted = IsRefused result ⊎ (result ≡ wanted)

-- at most so many bytes were taken
abbrev pub TakesUpTo : ℕ → List ℕ → Option (List ℕ) → Type 0
TakesUpTo most bytes left = (count : ℕ) × (count ≤ most) × (left ≡ Some (drop count bytes))

-- So many bytes were taken, as far as there were so many, but where the reading was refused.
abbrev pub TakesWhole : {X : Type 0} → Result X FrameError → ℕ → List ℕ → Option (List ℕ) → Type 0
TakesWhole result size bytes left = IsRefused result ⊎ (left ≡ Some (drop size bytes))
