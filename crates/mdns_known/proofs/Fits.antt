-- A record that isn't long fits a message alone, since no name is longer written than it is in wire form.
use Rattle.std.proofs.Common.{◌≡◌, ℕ, ◌+◌, ◌≤◌, ◌++◌, List, [], ◌∷◌, length, refl, arith, Bool, true, false, length-append, append-nil, ap, Option, Some, None}
use Rattle.std.specs.Int.{to_be_bytes, w16, w32}
use Rattle.std.proofs.lemmas.Bool.{le-leb}
use Rattle.dns_name.specs.Names.{wire_of}
use Rattle.dns_name.proofs.Wire.{wire_some}
use Rattle.dns_record.specs.declared.record.Rr.{Rr}
use Rattle.dns_record.specs.declared.record.Rdata.{Rdata}
use Rattle.dns_record.specs.declared.record.Rdata.TheVariants.{A, Aaaa, Ptr, Cname, Srv, Txt, Nsec, Raw}
use Rattle.dns_record.specs.Records.{data_of, kind_of}
use Rattle.dns_pointers.specs.Writing.{Offsets, Piece, onto, offset_of, pointer_or, written_name}
use Rattle.dns_message.specs.Writing.{class_word, written_data, written_record, written_all}
use Rattle.dns_message.specs.Packing.{query_with}
use Rattle.dns_message.proofs.Whole.{length-whole}
use Rattle.mdns_history.specs.Asking.{fits_alone}

name_within : (names : Offsets) (at : ℕ) (name : List (List ℕ)) → length (written_name names at name).bytes ≤ length (wire_of name)
unfolding written_name
name_within names at [] = omega arith
name_within names at (label ∷ rest) = by (offset_of (label ∷ rest) names) (name_within (names ++ (label ∷ rest, at) ∷ []) (at + 1 + length label) rest)
  where
    tail : Piece
    tail = written_name (names ++ (label ∷ rest, at) ∷ []) (at + 1 + length label) rest

    by : (o : Option ℕ) → length tail.bytes ≤ length (wire_of rest) → length (pointer_or o names (onto (length label ∷ label) tail)).bytes ≤ length (wire_of (label ∷ rest))
    by (Some offset) h = omega (arith, wire_some rest, length-append label (wire_of rest))
    by None h = omega (arith, h, length-append label tail.bytes, length-append label (wire_of rest))

data_within : (names : Offsets) (at : ℕ) (rdata : Rdata) → length (written_data names at rdata).bytes ≤ length (data_of rdata)
unfolding written_data
data_within names at (A address) = omega arith
data_within names at (Aaaa address) = omega arith
data_within names at (Ptr name) = name_within names at name
data_within names at (Cname name) = name_within names at name
data_within names at (Srv priority weight port target) = omega arith
data_within names at (Txt bytes) = omega arith
data_within names at (Nsec next bitmap) = omega arith
data_within names at (Raw kind bytes) = omega arith

two : (b : Bool) → length (class_word b) ≡ 2
two true = refl
two false = refl

record_within : (names : Offsets) (at : ℕ) (rr : Rr) → length (written_record names at rr).bytes ≤ length (wire_of rr.owner) + 10 + length (data_of rr.rdata)
unfolding written_record
record_within names at rr =
    let owner = written_name names at rr.owner in
    let rdata = written_data owner.names (at + length owner.bytes + 10) rr.rdata in
    let kind = to_be_bytes w16 (kind_of rr.rdata) in
    let class = class_word rr.flush in
    let ttl = to_be_bytes w32 rr.ttl in
    let size = to_be_bytes w16 (length rdata.bytes) in
    omega (
      arith,
      name_within names at rr.owner,
      data_within owner.names (at + length owner.bytes + 10) rr.rdata,
      length-append (owner.bytes ++ kind ++ class ++ ttl ++ size) rdata.bytes,
      length-append (owner.bytes ++ kind ++ class ++ ttl) size,
      length-append (owner.bytes ++ kind ++ class) ttl,
      length-append (owner.bytes ++ kind) class,
      length-append owner.bytes kind,
      two rr.flush,
    )

pub short_fits : (rr : Rr) → 12 + length (wire_of rr.owner) + 10 + length (data_of rr.rdata) ≤ 8972 → fits_alone rr ≡ true
unfolding written_all
short_fits rr h =
    le-leb _ 8972
    (omega (
      arith,
      h,
      length-whole (query_with [] (rr ∷ []) false),
      record_within [] 12 rr,
      ap length (append-nil (written_record [] 12 rr).bytes),
    ))
