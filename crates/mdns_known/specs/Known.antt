-- The known answers of a question, over records that are held. (RFC 6762 7.1)
use Rattle.std.specs.Prelude.{ℕ, Bool, true, not, ◌&&◌, List, [], ◌∷◌, map, filter}
use Rattle.std.specs.List.{list_any, flat_map}
use Rattle.lists.specs.Lists.{sorted_by, ordered}
use Rattle.dns_record.specs.declared.record.Rr.{Rr}
use Rattle.dns_record.specs.declared.record.Key.{Key}
use Rattle.dns_record.specs.Records.{matches, same, record_cmp}
use Rattle.mdns_history.specs.declared.held.Held.{Held}
use Rattle.mdns_history.specs.Lifetimes.{is_live_at, is_uncut}
use Rattle.mdns_history.specs.Asking.{is_half_fresh, listed, fits_alone}

-- Whether a held record is listed: it matches, it is live, nothing cut its end, half of its TTL is left, and as it is listed it fits a message alone.
abbrev pub is_listed : Key → ℕ → Held → Bool
is_listed question moment one = (matches question one.rr && is_live_at moment one && is_uncut one && is_half_fresh moment one) && fits_alone (listed moment one)

-- the known answers of a question over held records, as they are listed, in the order in which these are held
abbrev pub listed_of : Key → List Held → ℕ → List Rr
listed_of question held moment = map (listed moment) (filter (is_listed question moment) held)

-- the known answers of a question over held records, as they are listed, in record order
unfoldable pub known_of : Key → List Held → ℕ → List Rr
known_of question held moment = sorted_by record_cmp (map (listed moment) (filter (is_listed question moment) held))

-- the known answers of several questions: those of each of them, each once, in record order
unfoldable pub all_known_of : List Key → List Held → ℕ → List Rr
all_known_of questions held moment = ordered record_cmp (flat_map (λ question. known_of question held moment) questions)

-- no two held records are the same
abbrev pub stand_once : List Held → Bool
stand_once [] = true
stand_once (one ∷ more) = not (list_any (λ other. same one.rr other.rr) more) && stand_once more
