-- Which records have types that stand in a bitmap. (RFC 4034 4.1.2)
use Rattle.std.specs.Prelude.{ℕ, ◌+◌, ◌/◌, nat_lt, max, Bool, ◌&&◌, List, map, fold, IsTrue}
use Rattle.std.specs.List.{list_all}
use Rattle.lists.specs.Lists.{count_up}
use Rattle.dns_record.specs.declared.record.Rr.{Rr}
use Rattle.dns_record.specs.Records.{kind_of}
use Rattle.mdns_history.specs.declared.entry.Entry.{Entry}
use Rattle.mdns_history.specs.Debts.{bitmap_byte}
use Rattle.mdns_history.specs.Groups.{Group, unique_records}

-- the types of records
abbrev pub kinds_of : List Rr → List ℕ
kinds_of rrs = map (λ rr. kind_of rr.rdata) rrs

-- how many bytes of block 0 go up to the greatest type
abbrev pub bitmap_size : List ℕ → ℕ
bitmap_size kinds = fold max 0 kinds / 8 + 1

-- Whether records have types that block 0 can say: each is below 256, and in each byte those that are there sum up to a byte, as they do
-- where each type is there once.
abbrev pub have_bitmap : List Rr → Bool
have_bitmap rrs = let kinds = kinds_of rrs in
    nat_lt (fold max 0 kinds) 256 && list_all (λ n. nat_lt (bitmap_byte kinds n) 256) (count_up 0 (bitmap_size kinds))

-- The unique records of each group do.
abbrev pub UniqueHaveBitmap : Type 0
UniqueHaveBitmap = (group : Group) (history : List Entry) → IsTrue (have_bitmap (unique_records group history))
