-- Of which names a record comes to be own or ceases to be.
use Rattle.std.specs.Prelude.{ℕ, Bool, not, ◌||◌, List}
use Rattle.std.specs.List.{list_any}
use Rattle.dns_name.specs.Names.{folded_eq}
use Rattle.dns_record.specs.declared.record.Rr.{Rr}
use Rattle.dns_record.specs.Records.{same}
use Rattle.mdns_history.specs.Announcing.{same_records}
use Rattle.mdns_claimants.specs.Owned.{of_name}

-- some record of a name is among these records and not among the others, or among the others alone
abbrev pub is_moved : List (List ℕ) → List Rr → List Rr → Bool
is_moved name before behind = not (same_records (of_name name before) (of_name name behind))

-- a record isn't of a name, or is the same as one of these
abbrev pub is_kept : List (List ℕ) → List Rr → Rr → Bool
is_kept name others rr = not (folded_eq rr.owner name) || list_any (same rr) others
