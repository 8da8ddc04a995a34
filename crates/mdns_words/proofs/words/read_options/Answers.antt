use Rattle.std.proofs.Common.{rules, ◌∙◌, sym, ap, None}
use Rattle.mdns_words.specs.Options.{options_from}
use Rattle.mdns_words.proofs.Steps.{lone, option_taken, option_left, peer_taken, peer_left}
use Rattle.mdns_words.proofs.words.read_options.Goals as goal

pub returns-in_default-next_word : goal.returns-in_default-next_word
returns-in_default-next_word c = sym (c.words.invariant ∙ lone _ _ _ _ c.in-Some.ensures (search rules) c.in_default-next_word.ensures)

pub returns-then-not-branch : goal.returns-then-not-branch
returns-then-not-branch c = sym (c.words.invariant ∙ option_left _ _ _ _ _ _ _ c.in_ok-put.field-0 c.in-Some.ensures (search rules) c.in-Some-next_word.ensures c.in_ok-put.ensures (search rules))

pub words-preserved-then-is_option : goal.words-preserved-then-is_option
words-preserved-then-is_option c = c.words.invariant ∙ option_taken _ _ _ _ _ _ _ c.in_ok-put.field-0 c.in-Some.ensures (search rules) c.in-Some-next_word.ensures c.in_ok-put.ensures (search rules)

pub returns-then-not-branch-2 : goal.returns-then-not-branch-2
returns-then-not-branch-2 c = sym (c.words.invariant ∙ peer_left _ _ _ _ _ c.in_ok-put_peer.field-0 c.in-Some.ensures (search rules) c.in_ok-put_peer.ensures (search rules))

pub words-preserved : goal.words-preserved
words-preserved c = c.words.invariant ∙ peer_taken _ _ _ _ _ c.in_ok-put_peer.field-0 c.in-Some.ensures (search rules) c.in_ok-put_peer.ensures (search rules)

pub returns : goal.returns
returns c = sym (c.words.invariant ∙ ap (λ l. options_from c.words.options None l) c.in_default.ensures)
