-- the words so far, and those that are still to come
use Rattle.std.proofs.Common.{◌≡◌, ◌++◌}
use Rattle.std.specs.Vec.Iter.{into_iter_items, into_iter_len}
use Rattle.mdns_words.specs.Options.{texts}
use Rattle.mdns_command.specs.Words.{words_of}
use Rattle.mdns_command.proofs.command.behind_name.Given as goal

abbrev pub invariant-words : goal.invariant-words
invariant-words l = words_of l.fn.args ≡ texts l.words.items ++ texts (into_iter_items l.args)

abbrev pub decreases-words : goal.decreases-words
decreases-words l = into_iter_len l.args
