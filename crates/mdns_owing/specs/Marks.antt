-- Marks of records, which are soon told: records that are the same have one mark.
use Rattle.std.specs.Prelude.{◌≡◌, ℕ, ◌+◌, ◌%◌, List, length, filter, nat_lt}
use Rattle.std.specs.List.{All}
use Rattle.std.specs.Int.{bit_at}
use Rattle.lists.specs.Lists.{ordered}
use Rattle.dns_name.specs.Names.{wire_of}
use Rattle.dns_record.specs.declared.record.Rr.{Rr}
use Rattle.dns_record.specs.Records.{kind_of, record_cmp}

-- the mark of a record, from 0 to 62, by its type and the length of its owner in wire form
abbrev pub mark_of : Rr → ℕ
mark_of rr = kind_of rr.rdata % 32 + length (wire_of rr.owner) % 32

-- a set of marks, each of which is a bit, has that of a record
abbrev pub HasMark : ℕ → Rr → Type 0
HasMark marks rr = bit_at marks (mark_of rr) ≡ 1

-- of records those with a TTL above 0, in record order, and their marks
pub record AreFound (all found : List Rr) (marks : ℕ) : Type 0 where
  pub sorted : found ≡ ordered record_cmp (filter (λ rr. nat_lt 0 rr.ttl) all)
  pub marked : All (HasMark marks) (filter (λ rr. nat_lt 0 rr.ttl) all)
