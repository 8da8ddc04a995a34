-- A history is the list of all turns in their order. Each entry is the number of the seat that took the turn, and the turn.
use Rattle.std.specs.Prelude.{◌≡◌, ◌≢◌, ℕ, ◌==◌, nat_lt, if◌then◌else◌, List, ◌∷◌, ◌++◌, map, filter, length, All, AllPairs}

-- the history begins with the entries that were seen
abbrev pub StartsWith : {A : Type 0} → List A → List A → Type 0
StartsWith {A} history seen = (rest : List A) × (history ≡ seen ++ rest)

-- the longer of two lists, and the first where they are as long
abbrev pub longer : {A : Type 0} → List A → List A → List A
longer xs ys = if nat_lt (length xs) (length ys) then ys else xs

module _ {E : Type 0} where
  -- the turns of the entries, without the numbers
  abbrev pub turns : List (ℕ × E) → List E
  turns entries = map (λ entry. entry.1) entries

  -- the turns of the seat with this number
  abbrev pub turns_of : ℕ → List (ℕ × E) → List E
  turns_of number entries = turns (filter (λ entry. entry.0 == number) entries)

  -- the value stands for each list of turns for which the opening value stood, continued by the history
  abbrev pub StandsAfter : {T : Type 0} → (List E → T → Type 0) → T → List (ℕ × E) → T → Type 0
  StandsAfter stands opening history value = (past : List E) → stands past opening → stands (past ++ turns history) value

  -- seen has just these turns of the seat with this number, and so it is with each of the others, a number with its turns. All these numbers differ
  pub record HasTurns (seen : List (ℕ × E)) (number : ℕ) (own : List E) (others : List (ℕ × List E)) : Type 0 where
    pub mine : turns_of number seen ≡ own
    pub joined : All (λ other. turns_of other.0 seen ≡ other.1) others
    pub apart : AllPairs (λ m n. m ≢ n) (number ∷ map (λ other. other.0) others)
