-- What a door does.
use Rattle.std.specs.Prelude.{◌≡◌, ℕ, ◌+◌, Bool, true, Option, Some, Result, MatchOption, MatchResult}

-- what a door tells of the connections that it gave, it told before, and it is the same
abbrev pub GivesNone : Option ℕ → Option ℕ → Type 0
GivesNone before after = (now : ℕ) → after ≡ Some now → before ≡ Some now

-- the same, but that it has given one more
abbrev pub GivesOne : Option ℕ → Option ℕ → Type 0
GivesOne before after = (now : ℕ) → after ≡ Some now → (was : ℕ) × (before ≡ Some was) × (now ≡ was + 1)

-- Only the answer that no more come makes the door over, and only a connection raises what it has given.
abbrev pub Opens : {C E : Type 0} → Bool → Bool → Option ℕ → Option ℕ → Result (Option C) E → Type 0
Opens old new before after result = MatchResult result
    (λ found. MatchOption found ((new ≡ true) × GivesNone before after) (λ _. (new ≡ old) × GivesOne before after))
    (λ _. (new ≡ old) × GivesNone before after)
