-- What one step through the words comes to.
use Rattle.std.proofs.Common.{◌≡◌, ◌∙◌, ℕ, Bool, true, false, List, [], ◌∷◌, ap, Option, Some, None, if◌then◌else◌}
use Rattle.number_text.specs.Digits.{◌>>=◌}
use Rattle.mdns_words.specs.declared.options.Options.{Options}
use Rattle.mdns_words.specs.Options.{is_option, put_option, put_peer, options_from}

abbrev pub Words : Type 0
Words = List (List ℕ)

-- what the words behind come to
abbrev pub behind : Words → Option Options → Option Options
behind words next = next >>= λ options. options_from options None words

option_then : (o : Options) (words : Words) (word : List ℕ) (after : Words) (value : List ℕ) (more : Words) → words ≡ word ∷ after → is_option word ≡ true → after ≡ value ∷ more
    → options_from o None words ≡ behind more (put_option o word value)
option_then o words word after value more first is second =
    ap (λ l. options_from o None l) (first ∙ ap (λ l. word ∷ l) second)
    ∙ ap (λ (b : Bool). if b then options_from o (Some word) (value ∷ more) else behind (value ∷ more) (put_peer o word)) is

peer_then : (o : Options) (words : Words) (word : List ℕ) (after : Words) → words ≡ word ∷ after → is_option word ≡ false → options_from o None words ≡ behind after (put_peer o word)
peer_then o words word after first is =
    ap (λ l. options_from o None l) first ∙ ap (λ (b : Bool). if b then options_from o (Some word) after else behind after (put_peer o word)) is

-- an option without a value
pub lone : (o : Options) (words : Words) (word : List ℕ) (after : Words) → words ≡ word ∷ after → is_option word ≡ true → after ≡ [] → options_from o None words ≡ None
lone o words word after first is none =
    ap (λ l. options_from o None l) (first ∙ ap (λ l. word ∷ l) none)
    ∙ ap (λ (b : Bool). if b then options_from o (Some word) [] else behind [] (put_peer o word)) is

made : (o : Option Options) (new : Options) (done wanted : Bool) → o ≡ (if done then Some new else None) → done ≡ wanted → o ≡ (if wanted then Some new else None)
made o new done wanted put is = put ∙ ap (λ (b : Bool). if b then Some new else None) is

-- an option that is taken, and one that isn't
pub option_taken : (o new : Options) (words : Words) (word : List ℕ) (after : Words) (value : List ℕ) (more : Words) (done : Bool) → words ≡ word ∷ after → is_option word ≡ true → after ≡ value ∷ more
    → put_option o word value ≡ (if done then Some new else None) → done ≡ true → options_from o None words ≡ options_from new None more
option_taken o new words word after value more done first is second put so =
    option_then o words word after value more first is second ∙ ap (λ n. behind more n) (made (put_option o word value) new done true put so)

pub option_left : (o new : Options) (words : Words) (word : List ℕ) (after : Words) (value : List ℕ) (more : Words) (done : Bool) → words ≡ word ∷ after → is_option word ≡ true → after ≡ value ∷ more
    → put_option o word value ≡ (if done then Some new else None) → done ≡ false → options_from o None words ≡ None
option_left o new words word after value more done first is second put so =
    option_then o words word after value more first is second ∙ ap (λ n. behind more n) (made (put_option o word value) new done false put so)

-- the same of a peer
pub peer_taken : (o new : Options) (words : Words) (word : List ℕ) (after : Words) (done : Bool) → words ≡ word ∷ after → is_option word ≡ false
    → put_peer o word ≡ (if done then Some new else None) → done ≡ true → options_from o None words ≡ options_from new None after
peer_taken o new words word after done first is put so = peer_then o words word after first is ∙ ap (λ n. behind after n) (made (put_peer o word) new done true put so)

pub peer_left : (o new : Options) (words : Words) (word : List ℕ) (after : Words) (done : Bool) → words ≡ word ∷ after → is_option word ≡ false
    → put_peer o word ≡ (if done then Some new else None) → done ≡ false → options_from o None words ≡ None
peer_left o new words word after done first is put so = peer_then o words word after first is ∙ ap (λ n. behind after n) (made (put_peer o word) new done false put so)
