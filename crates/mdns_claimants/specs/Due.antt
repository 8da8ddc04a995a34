-- When something is next due of a group, and what a tick makes of it. (RFC 6762 8)
use Rattle.std.specs.Prelude.{◌≡◌, ℕ, ◌-◌, ◌^◌, Bool, true, List, [], ◌∷◌, min, slice_index_or, slice_set}
use Rattle.mdns_probe.specs.Claiming.{after_tick, next_of}
use Rattle.mdns_probe.specs.Kept.{Kept}

-- the moments from which on something is due of a group by itself
abbrev pub next_in : Bool → Kept → List ℕ
next_in announces one = next_of announces one.claim

-- a group behind a tick
abbrev pub ticked_at : ℕ → Bool → Kept → Kept
ticked_at moment announces one = record { group = one.group; number = one.number; claim = after_tick moment announces one.claim }

-- the moment that is kept of a group of which nothing is ever due by itself: the last one that there is
abbrev pub never : ℕ
never = 2 ^ 64 - 1

-- The last moment that is kept of a group of which something is due; what is due later is kept with this one.
abbrev pub last_moment : ℕ
last_moment = 2 ^ 64 - 2

-- the first of several moments, as it is kept
abbrev pub kept_moment : List ℕ → ℕ
kept_moment [] = never
kept_moment (moment ∷ moments) = min moment last_moment

-- The moment that is kept of a group: from it on something is due of it by itself, in a daemon that announces what it claims. In one that doesn't, nothing is
-- due of it before.
abbrev pub moment_of : Kept → ℕ
moment_of one = kept_moment (next_in true one)

-- the group at a place was changed, and no other
abbrev pub IsChangedAt : (Kept → Kept) → ℕ → List Kept → List Kept → Type 0
IsChangedAt change place before after = (one : Kept) → one ≡ slice_index_or before place one → after ≡ slice_set before place (change one)
