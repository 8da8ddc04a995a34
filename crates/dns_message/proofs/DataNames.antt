-- Names in data, as they are read in messages.
use Rattle.std.proofs.Common.{◌≡◌, ℕ, ◌≤◌, List, refl, Ok, eq-eqb}
use Rattle.std.proofs.lemmas.Bool.{le-leb}
use Rattle.dns_pointers.specs.Reading.{name_at}
use Rattle.dns_message.specs.Reading.{name_within, name_up_to}

-- a name that ends with them
pub up_to : (bytes : List ℕ) (at stop : ℕ) (name : List (List ℕ)) → name_at bytes at ≡ Ok (name, stop) → name_up_to bytes at stop ≡ Ok name
unfolding name_up_to
up_to bytes at stop name e = rw (e, eq-eqb stop stop refl) refl

-- a name that ends within them
pub inside : (bytes : List ℕ) (at end stop : ℕ) (name : List (List ℕ)) → name_at bytes at ≡ Ok (name, end) → end ≤ stop → name_within bytes at stop ≡ Ok (name, end)
unfolding name_within
inside bytes at end stop name e h = rw (e, le-leb end stop h) refl
