-- An input that was read to its end.
use Rattle.std.proofs.Common.{◌≡◌, ℕ, List, Option, subst}
use Rattle.mdns_streams.specs.Reads.{ReadAll}

-- what holds of the bytes that were read holds of the input
pub read_as : (most : ℕ) (old new : Option (List ℕ)) (all : List ℕ) (P : List ℕ → Type 0) → ReadAll most old new (λ bytes. all ≡ bytes) → P all → ReadAll most old new P
read_as most old new all P read holds = λ bytes told.
    let r = read bytes told in
    (r.0, r.1, subst P r.2 holds)
