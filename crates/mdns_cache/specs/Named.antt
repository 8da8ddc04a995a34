-- Held records by name: each stands under the name of its owner.
use Rattle.std.specs.Prelude.{◌≡◌, ℕ, nat_le, Bool, ◌&&◌, List}
use Rattle.std.specs.List.{AllByRecursion, IsDistinct}
use Rattle.std.specs.Map.{keys_of}
use Rattle.std.specs.Str.{bytes_eq}
use Rattle.dns_record.specs.Records.{same}
use Rattle.mdns_history.specs.declared.held.Held.{Held}
use Rattle.by_name.specs.At.{At, at_eq, owner_of}
use Rattle.by_name.specs.Filed.{HaveNoGap}

-- an entry: a record with its place
abbrev pub Entry : Type 0
Entry = At × Held

-- each entry has the name of its record's owner
abbrev pub AreNamed : List Entry → Type 0
AreNamed es = AllByRecursion (λ (e : Entry). e.0.owner ≡ owner_of e.1.rr.owner) es

-- What the entries of a cache are like.
pub record AreFiled (es : List Entry) : Type 0 where
  pub distinct : IsDistinct at_eq (keys_of es)
  pub named : AreNamed es
  pub gapless : HaveNoGap es

-- no two records are the same
abbrev pub AreOnce : List Held → Type 0
AreOnce held = IsDistinct (λ (one other : Held). same one.rr other.rr) held

-- whether an entry is of a name and has a number of at least this
abbrev pub is_from : List ℕ → ℕ → Entry → Bool
is_from owner number e = bytes_eq owner e.0.owner && nat_le number e.0.number
