-- The list after one more turn.
use Rattle.std.proofs.Common.{◌≡◌, ℕ, List, [], ◌∷◌, ◌++◌, refl, ap, ◌∙◌}
use Rattle.mdns_turn_numbers.specs.declared.Change.{Change}
use Rattle.mdns_turn_numbers.specs.declared.Change.TheVariants.{Added, Missed, Counted, Taken}
use Rattle.mdns_turn_numbers.specs.Numbers.{items_after}

pub items_after-append : (xs : List ℕ) (ms ns : List Change) → items_after xs (ms ++ ns) ≡ items_after (items_after xs ms) ns
items_after-append xs [] ns = refl
items_after-append xs (Added n ∷ ms) ns = items_after-append (xs ++ n ∷ []) ms ns
items_after-append xs (Missed ∷ ms) ns = items_after-append xs ms ns
items_after-append xs (Counted ∷ ms) ns = items_after-append xs ms ns
items_after-append xs (Taken ∷ ms) ns = items_after-append [] ms ns

pub added : (xs : List ℕ) (n : ℕ) (past : List Change) → items_after [] past ≡ xs → items_after [] (past ++ Added n ∷ []) ≡ xs ++ n ∷ []
added xs n past e = items_after-append [] past (Added n ∷ []) ∙ ap (λ (l : List ℕ). l ++ n ∷ []) e

pub missed : (xs : List ℕ) (past : List Change) → items_after [] past ≡ xs → items_after [] (past ++ Missed ∷ []) ≡ xs
missed xs past e = items_after-append [] past (Missed ∷ []) ∙ e

pub counted : (xs : List ℕ) (past : List Change) → items_after [] past ≡ xs → items_after [] (past ++ Counted ∷ []) ≡ xs
counted xs past e = items_after-append [] past (Counted ∷ []) ∙ e

pub taken : (past : List Change) → items_after [] (past ++ Taken ∷ []) ≡ []
taken past = items_after-append [] past (Taken ∷ [])
