-- Held records found by their prints: hashes of what makes them the same.
use Rattle.std.specs.Prelude.{◌≡◌, ◌⊎◌, ℕ, nat_eq, true, List, map, slice_get, Option, Some, IsSome}
use Rattle.std.specs.List.{fold, AllByRecursion, IsDistinct}
use Rattle.std.specs.Hash as fed
use Rattle.std.specs.Hash.DefaultHasher as sip
use Rattle.std.specs.Map.{lookup}
use Rattle.std.specs.declared.hash.DefaultHasher.{DefaultHasher}
use Rattle.dns_record.specs.Records.{Identity, identity_of}
use Rattle.mdns_history.specs.declared.held.Held.{Held}
use Rattle.by_name.specs.Filed.{IsOneOf}
use Rattle.mdns_cache.specs.declared.prints.Prints.{Prints}

-- a hasher after some bytes
abbrev pub written : DefaultHasher → List ℕ → DefaultHasher
written start some = sip.write start some

-- the print of what makes records the same, by a hasher that starts so
unfoldable pub print_of : DefaultHasher → Identity → ℕ
print_of start one = sip.finish (written (fold sip.write (written start one.owner) (fed.u16 one.kind)) one.bytes)

-- the prints of held records
abbrev pub prints_of : DefaultHasher → List Held → List ℕ
prints_of start held = map (λ (one : Held). print_of start (identity_of one.rr)) held

-- what is noted of a print
abbrev pub noted : List (ℕ × ℕ) → ℕ → Option ℕ
noted indexes print = lookup (nat_eq print) indexes

-- No two prints are equal, and of each its index is noted, but for some indexes.
pub record IsIndexed (dirty : List ℕ) (indexes : List (ℕ × ℕ)) (prints : List ℕ) : Type 0 where
  pub apart : IsDistinct nat_eq prints
  pub there : AllByRecursion (λ (print : ℕ). IsSome (noted indexes print)) prints
  pub index : (i print : ℕ) → slice_get prints i ≡ Some print → (noted indexes print ≡ Some i) ⊎ IsOneOf dirty i

-- The held records are found by their prints, but for some indexes, unless two of them had one print.
abbrev pub AreIndexed : Prints → List ℕ → List Held → Type 0
AreIndexed prints dirty held = (prints.mixed ≡ true) ⊎ IsIndexed dirty prints.indexes.entries (prints_of prints.start held)
