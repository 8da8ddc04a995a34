-- the words that are left decide
use Rattle.std.proofs.Common.{◌≡◌, None, length}
use Rattle.mdns_words.specs.Options.{texts, no_options, options_from}
use Rattle.mdns_words.proofs.words.read_options.Given as goal

abbrev pub invariant-words : goal.invariant-words
invariant-words l = options_from no_options None (texts l.fn.words) ≡ options_from l.options None (texts l.rest)

abbrev pub decreases-words : goal.decreases-words
decreases-words l = length (texts l.rest)
