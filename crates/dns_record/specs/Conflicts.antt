-- What conflicts with a claim: a clash, a lost tie, and a storm of conflicts. (RFC 6762 8.1, 8.2 and 9)
use Rattle.std.specs.Prelude.{ℕ, ◌+◌, ◌==◌, nat_lt, nat_le, Bool, false, not, ◌&&◌, ◌||◌, List, [], ◌∷◌, length, filter, slice_get, Option, Some, None}
use Rattle.std.specs.List.{list_any}
use Rattle.std.specs.Ordering.{nat_cmp, ordering_then, is_lt}
use Rattle.std.specs.Cmp.Lexicographic.{slice_cmp}
use Rattle.std.specs.declared.cmp.Ordering.{Ordering}
use Rattle.lists.specs.Lists.{each_once, sorted_by}
use Rattle.dns_name.specs.Names.{folded_eq}
use Rattle.dns_record.specs.declared.record.Rr.{Rr}
use Rattle.dns_record.specs.Records.{same, kind_of, data_of}

-- A heard record clashes with unique records of a name where it has the name, one of their types, a TTL above 0, and is none of them.
abbrev pub record_clashes : List (List ℕ) → List Rr → Rr → Bool
record_clashes name unique rr =
    folded_eq rr.owner name && nat_lt 0 rr.ttl && list_any (λ own. kind_of own.rdata == kind_of rr.rdata) unique && not (list_any (same rr) unique)

-- whether one of several records clashes
unfoldable pub clashes : List (List ℕ) → List Rr → List Rr → Bool
clashes name unique rrs = list_any (record_clashes name unique) rrs

-- the order of records in a tie: by type and then by data; the class is the same
abbrev pub tie_cmp : Rr → Rr → Ordering
tie_cmp left right = ordering_then (nat_cmp (kind_of left.rdata) (kind_of right.rdata)) (slice_cmp nat_cmp (data_of left.rdata) (data_of right.rdata))

-- a side of a tie: its records once each, in order
abbrev pub tie_side : List Rr → List Rr
tie_side rrs = sorted_by tie_cmp (each_once same rrs)

-- The sorted lists are compared record by record; one that runs out first is before.
unfoldable pub tie_order : List Rr → List Rr → Ordering
tie_order ours theirs = slice_cmp tie_cmp (tie_side ours) (tie_side theirs)

-- A tie is lost to a query with authority records of the name that stand behind ours.
unfoldable pub loses_tie : List (List ℕ) → List Rr → List Rr → Bool
loses_tie name unique authority = let theirs = filter (λ rr. folded_eq rr.owner name) authority in
    nat_lt 0 (length theirs) && is_lt (tie_order unique theirs)

-- whether a moment is so near behind another, if there is one
abbrev pub is_within : ℕ → ℕ → Option ℕ → Bool
is_within span last None = false
is_within span last (Some first) = nat_le last (first + span)

-- Moments are stormy where fifteen of them ever lay within ten seconds.
unfoldable pub is_stormy : List ℕ → Bool
is_stormy [] = false
is_stormy (last ∷ earlier) = is_within 10000 last (slice_get earlier 13) || is_stormy earlier
