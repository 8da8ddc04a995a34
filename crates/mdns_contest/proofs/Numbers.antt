-- The number that is chosen for a name isn't below the one from which on it is sought.
use Rattle.std.proofs.Common.{◌≡◌, ℕ, zero, suc, ◌+◌, ◌≤◌, Bool, true, false, cond, not, nat_lt, List, length, arith, Some}
use Rattle.std.specs.List.{find}
use Rattle.std.specs.Option.{unwrap_or}
use Rattle.std.proofs.lemmas.Bool.{le-leb}
use Rattle.lists.specs.Lists.{count_up}
use Rattle.mdns_history.specs.Groups.{Group, numbered_name, is_taken, free_number}
use Rattle.mdns_history.specs.Claims.{greatest_number}

sought : (p : ℕ → Bool) (least from k : ℕ) → least ≤ from → least ≤ unwrap_or (find p (count_up from k)) least
sought p least from zero l = omega arith
sought p least from (suc k) l = of (p from) (sought p least (from + 1) k (omega (arith, l)))
  where
    of : (b : Bool) → least ≤ unwrap_or (find p (count_up (from + 1) k)) least → least ≤ unwrap_or (cond b (Some from) (find p (count_up (from + 1) k))) least
    of true rest = l
    of false rest = rest

pub free_least : (from : ℕ) (names : List (List (List ℕ))) (group : Group) → from ≤ free_number from names group
unfolding free_number
free_least from names group = sought (λ number. not (is_taken names (numbered_name group number))) from from (length names + 2) (omega arith)

-- behind the greatest number none is left
pub past_the_greatest : (number : ℕ) (names : List (List (List ℕ))) (group : Group) → 999999 ≤ number → nat_lt greatest_number (free_number (number + 1) names group) ≡ true
past_the_greatest number names group h =
    let least : number + 1 ≤ free_number (number + 1) names group = free_least (number + 1) names group in
    le-leb 1000000 (free_number (number + 1) names group) (omega (arith, least, h))
