-- Data as they are written behind names are read again, and the names after them are a table.
use Rattle.std.proofs.Common.{◌≡◌, ℕ, ◌+◌, ◌<◌, ◌≤◌, ◌^◌, ◌++◌, ◌&&◌, not, List, true, false, length, refl, arith, Ok, eqb}
use Rattle.std.specs.Prelude.{IsTrue}
use Rattle.std.proofs.lemmas.Bool.{ltb-true, and_parts}
use Rattle.dns_name.specs.Names.{wire_of, is_name}
use Rattle.dns_record.specs.Records.{kind_of, data_of, is_typed, has_raw_form, is_rdata}
use Rattle.dns_record.specs.declared.record.Rdata.{Rdata}
use Rattle.dns_record.specs.declared.record.Rdata.TheVariants.{A, Aaaa, Ptr, Cname, Srv, Txt, Nsec, Raw}
use Rattle.dns_message.specs.Reading.{rdata_at}
use Rattle.dns_pointers.specs.Writing.{Offsets, Piece, written_name}
use Rattle.dns_message.specs.Writing.{written_data, is_below, are_bytes, is_spellable_name, is_spellable_data}
use Rattle.dns_pointers.proofs.Standing.{Stands}
use Rattle.dns_pointers.proofs.Tables.{IsTable, raised}
use Rattle.dns_pointers.proofs.NamesRead.{IsNameRead, name_read}
use Rattle.dns_message.proofs.DataAgain.{address_again, wide_again, ptr_again, cname_again, srv_again, txt_again, nsec_again}
use Rattle.dns_message.proofs.RawAgain.{untyped, raw_again}

pub record IsDataRead (bytes : List ℕ) (at : ℕ) (rdata : Rdata) (piece : Piece) : Type 0 where
  pub read : rdata_at bytes (kind_of rdata) at (at + length piece.bytes) ≡ Ok rdata
  pub table : IsTable bytes piece.names (at + length piece.bytes)

-- numbers and names of a spellable message
pub below : (bits n : ℕ) → is_below bits n ≡ true → n < 2 ^ bits
below bits n h = ltb-true n (2 ^ bits) h

pub spellable_name : (name : List (List ℕ)) → is_spellable_name name ≡ true → IsTrue (is_name name)
spellable_name name h = (and_parts (is_name name) _ h).0

-- data without compressed names
plain_read : (bytes : List ℕ) (at : ℕ) (names : Offsets) (rdata : Rdata) (raw : List ℕ) → IsTable bytes names at
    → rdata_at bytes (kind_of rdata) at (at + length raw) ≡ Ok rdata → IsDataRead bytes at rdata (record { bytes = raw; names = names })
plain_read bytes at names rdata raw t e = record { read = e; table = raised bytes names at (at + length raw) (omega arith) t }

srv_read : (bytes : List ℕ) (at priority weight port : ℕ) (target : List (List ℕ)) → is_spellable_data (Srv priority weight port target) ≡ true
    → Stands bytes at (data_of (Srv priority weight port target)) → rdata_at bytes 33 at (at + length (data_of (Srv priority weight port target))) ≡ Ok (Srv priority weight port target)
srv_read bytes at priority weight port target h s =
    let h1 = and_parts ((is_below 16 priority && is_below 16 weight) && is_below 16 port) (is_spellable_name target) h in
    let h2 = and_parts (is_below 16 priority && is_below 16 weight) (is_below 16 port) h1.0 in
    let h3 = and_parts (is_below 16 priority) (is_below 16 weight) h2.0 in
    srv_again bytes at (at + length (data_of (Srv priority weight port target))) priority weight port target (below 16 priority h3.0) (below 16 weight h3.1) (below 16 port h2.1)
    (spellable_name target h1.1) (omega arith) s

raw_read : (bytes raw : List ℕ) (at kind : ℕ) → is_spellable_data (Raw kind raw) ≡ true → Stands bytes at raw → rdata_at bytes kind at (at + length raw) ≡ Ok (Raw kind raw)
raw_read bytes raw at kind h s = raw_again bytes raw at (at + length raw) kind (and_parts (is_below 16 kind && are_bytes raw) (is_rdata (Raw kind raw)) h).1 refl s

named_read : (bytes : List ℕ) (at : ℕ) (rdata : Rdata) (name : List (List ℕ)) (piece : Piece) → IsNameRead bytes at name piece
    → rdata_at bytes (kind_of rdata) at (at + length piece.bytes) ≡ Ok rdata → IsDataRead bytes at rdata piece
named_read bytes at rdata name piece n e = record { read = e; table = n.table }

pub data_read : (bytes : List ℕ) (at : ℕ) (names : Offsets) (rdata : Rdata) → length bytes ≤ 8972 → is_spellable_data rdata ≡ true → IsTable bytes names at
    → Stands bytes at (written_data names at rdata).bytes → IsDataRead bytes at rdata (written_data names at rdata)
unfolding written_data
data_read bytes at names (A n) few h t s = plain_read bytes at names (A n) (data_of (A n)) t (address_again bytes at (at + 4) n (below 32 n h) refl s)
data_read bytes at names (Aaaa n) few h t s = plain_read bytes at names (Aaaa n) (data_of (Aaaa n)) t (wide_again bytes at (at + 16) n (below 128 n h) refl s)
data_read bytes at names (Ptr name) few h t s =
    let n = name_read bytes at names name few (spellable_name name h) t s in
    named_read bytes at (Ptr name) name (written_name names at name) n (ptr_again bytes at (at + length (written_name names at name).bytes) name n.read)
data_read bytes at names (Cname name) few h t s =
    let n = name_read bytes at names name few (spellable_name name h) t s in
    named_read bytes at (Cname name) name (written_name names at name) n (cname_again bytes at (at + length (written_name names at name).bytes) name n.read)
data_read bytes at names (Srv priority weight port target) few h t s =
    plain_read bytes at names (Srv priority weight port target) (data_of (Srv priority weight port target)) t (srv_read bytes at priority weight port target h s)
data_read bytes at names (Txt text) few h t s = plain_read bytes at names (Txt text) text t (txt_again bytes at (at + length text) text refl s)
data_read bytes at names (Nsec next bitmap) few h t s =
    plain_read bytes at names (Nsec next bitmap) (wire_of next ++ bitmap) t
    (nsec_again bytes at (at + length (wire_of next ++ bitmap)) next bitmap (spellable_name next (and_parts (is_spellable_name next) (are_bytes bitmap) h).0) refl s)
data_read bytes at names (Raw kind raw) few h t s = plain_read bytes at names (Raw kind raw) raw t (raw_read bytes raw at kind h s)

-- the type of spellable data has two bytes, and isn't OPT
pub record IsKind (kind : ℕ) : Type 0 where
  pub small : kind < 2 ^ 16
  pub kept : eqb kind 41 ≡ false

pub kind_is : (rdata : Rdata) → is_spellable_data rdata ≡ true → IsKind (kind_of rdata)
unfolding is_rdata
kind_is (A n) h = record { small = omega arith; kept = refl }
kind_is (Aaaa n) h = record { small = omega arith; kept = refl }
kind_is (Ptr name) h = record { small = omega arith; kept = refl }
kind_is (Cname name) h = record { small = omega arith; kept = refl }
kind_is (Srv priority weight port target) h = record { small = omega arith; kept = refl }
kind_is (Txt text) h = record { small = omega arith; kept = refl }
kind_is (Nsec next bitmap) h = record { small = omega arith; kept = refl }
kind_is (Raw kind raw) h =
    let h1 = and_parts (is_below 16 kind && are_bytes raw) (is_rdata (Raw kind raw)) h in
    let h2 = and_parts (is_below 16 kind) (are_bytes raw) h1.0 in
    let h3 = and_parts (not (is_typed kind)) (has_raw_form kind raw) h1.1 in
    record { small = below 16 kind h2.0; kept = (untyped kind h3.0).opt }
