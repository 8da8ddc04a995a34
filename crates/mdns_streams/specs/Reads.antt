-- What was taken of an input, where it tells what it has left.
use Rattle.std.specs.Prelude.{◌≡◌, ℕ, ◌<◌, ◌≤◌, ◌++◌, List, [], length, Option, Some}

-- The input was read to its end, and it has at most so many bytes.
abbrev pub ReadAll : ℕ → Option (List ℕ) → Option (List ℕ) → (List ℕ → Type 0) → Type 0
ReadAll most old new P = (bytes : List ℕ) → old ≡ Some bytes → (length bytes ≤ most) × (new ≡ Some []) × P bytes

-- a first part of the input was taken, and its length passes a test
abbrev pub Took : Option (List ℕ) → Option (List ℕ) → (ℕ → Type 0) → Type 0
Took old new IsLength = (bytes : List ℕ) → old ≡ Some bytes → (taken : List ℕ) × (rest : List ℕ) × (bytes ≡ taken ++ rest) × (new ≡ Some rest) × IsLength (length taken)

-- More bytes were taken than so many.
abbrev pub IsTooLarge : ℕ → Option (List ℕ) → Option (List ℕ) → Type 0
IsTooLarge most old new = Took old new (λ count. most < count)

-- No more bytes were taken than so many.
abbrev pub IsWithin : ℕ → Option (List ℕ) → Option (List ℕ) → Type 0
IsWithin most old new = Took old new (λ count. count ≤ most)
