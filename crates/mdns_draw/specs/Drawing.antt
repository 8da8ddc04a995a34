-- The words of events: one for all, or those of a seed one after another.
use Rattle.std.specs.Prelude.{ℕ}
use Rattle.mdns_draw.specs.Drawn.{word_of, drawn_after}
use Rattle.mdns_draw.specs.declared.words.Words.{Words}
use Rattle.mdns_draw.specs.declared.words.Words.TheVariants.{Same, Seeded}

-- the word of the next event
abbrev pub next_word : Words → ℕ
next_word (Same word) = word
next_word (Seeded drawn) = word_of drawn

-- the words after it
abbrev pub words_after : Words → Words
words_after (Same word) = Same word
words_after (Seeded drawn) = Seeded (drawn_after drawn)
