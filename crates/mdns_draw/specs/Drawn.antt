-- The words that were taken of a seed.
use Rattle.std.specs.Prelude.{ℕ, ◌+◌, ◌%◌, ◌^◌}
use Rattle.mdns_base.specs.SeedWords.{seed_word}

-- a seed, and how many of its words were taken
pub record Drawn : Type 0 where
  pub seed : ℕ
  pub taken : ℕ

-- the next word of a seed
abbrev pub word_of : Drawn → ℕ
word_of drawn = seed_word drawn.seed drawn.taken

-- One word more was taken. After 2 ^ 68 they come again from the first on.
abbrev pub drawn_after : Drawn → Drawn
drawn_after drawn = record drawn { taken = (drawn.taken + 1) % 2 ^ 68 }
