-- How many records a packet adds to those that are held.
use Rattle.std.specs.Prelude.{ℕ, ◌+◌, nat_lt, Bool, false, not, ◌&&◌, List, [], ◌∷◌, Option, Some, None, slice_get, if◌then◌else◌}
use Rattle.std.specs.List.{list_any}
use Rattle.dns_record.specs.declared.record.Rr.{Rr}
use Rattle.dns_record.specs.Records.{same}
use Rattle.mdns_history.specs.declared.held.Held.{Held}
use Rattle.mdns_history.specs.Lifetimes.{is_live_at}
use Rattle.mdns_cache.specs.Lifetimes.{is_renewed_by}

-- one of the held records is the same
abbrev pub is_held : List Held → Rr → Bool
is_held held rr = list_any (λ (one : Held). same one.rr rr) held

-- how many different records are heard with a TTL above 0 of which none that is the same is held
abbrev pub count_new : List Held → List Rr → ℕ
count_new held [] = 0
count_new held (rr ∷ heard) = (if nat_lt 0 rr.ttl && not (is_renewed_by rr heard) && not (is_held held rr) then 1 else 0) + count_new held heard

-- whether a record that may be there is live at a moment
abbrev pub is_live_one : ℕ → Option Held → Bool
is_live_one moment None = false
is_live_one moment (Some one) = is_live_at moment one

-- whether there is a held record at an index that is live at a moment
abbrev pub is_live_in : ℕ → List Held → ℕ → Bool
is_live_in moment held index = is_live_one moment (slice_get held index)
