-- The data of a record are read as they were written, kind by kind.
use Rattle.std.proofs.Common.{◌≡◌, ℕ, ◌+◌, ◌-◌, ◌<◌, ◌^◌, ◌++◌, List, true, length, refl, arith, ap, length-append, Ok, eqb, leb, eq-eqb}
use Rattle.std.specs.Prelude.{IsTrue}
use Rattle.std.specs.Int.{to_be_bytes, w16, w32, w128}
use Rattle.std.proofs.lemmas.Bool.{le-leb}
use Rattle.dns_name.specs.Names.{wire_of, is_name}
use Rattle.dns_record.specs.declared.record.Rdata.TheVariants.{A, Aaaa, Ptr, Cname, Srv, Txt, Nsec}
use Rattle.dns_pointers.specs.Reading.{name_at}
use Rattle.dns_message.specs.Reading.{srv_at, nsec_at, rdata_at}
use Rattle.dns_pointers.proofs.Standing.{Stands, first_part, last_part, ranged, u16_is, u32_is}
use Rattle.dns_pointers.proofs.Wide.{u128_is}
use Rattle.dns_pointers.proofs.NamesRead.{whole_read}
use Rattle.dns_message.proofs.DataNames.{up_to, inside}

pub address_again : (bytes : List ℕ) (at stop n : ℕ) → n < 2 ^ 32 → stop ≡ at + 4 → Stands bytes at (to_be_bytes w32 n) → rdata_at bytes 1 at stop ≡ Ok (A n)
unfolding rdata_at
address_again bytes at stop n h e s =
    let size : eqb (stop - at) 4 ≡ true = eq-eqb (stop - at) 4 (omega arith) in
    rw (size, u32_is bytes at n h s) refl

pub wide_again : (bytes : List ℕ) (at stop n : ℕ) → n < 2 ^ 128 → stop ≡ at + 16 → Stands bytes at (to_be_bytes w128 n) → rdata_at bytes 28 at stop ≡ Ok (Aaaa n)
unfolding rdata_at
wide_again bytes at stop n h e s =
    let size : eqb (stop - at) 16 ≡ true = eq-eqb (stop - at) 16 (omega arith) in
    rw (size, u128_is bytes at n h s) refl

pub ptr_again : (bytes : List ℕ) (at stop : ℕ) (name : List (List ℕ)) → name_at bytes at ≡ Ok (name, stop) → rdata_at bytes 12 at stop ≡ Ok (Ptr name)
unfolding rdata_at
ptr_again bytes at stop name e = rw (up_to bytes at stop name e) refl

pub cname_again : (bytes : List ℕ) (at stop : ℕ) (name : List (List ℕ)) → name_at bytes at ≡ Ok (name, stop) → rdata_at bytes 5 at stop ≡ Ok (Cname name)
unfolding rdata_at
cname_again bytes at stop name e = rw (up_to bytes at stop name e) refl

pub srv_again : (bytes : List ℕ) (at stop priority weight port : ℕ) (target : List (List ℕ)) → priority < 2 ^ 16 → weight < 2 ^ 16 → port < 2 ^ 16 → IsTrue (is_name target)
    → stop ≡ at + 6 + length (wire_of target)
    → Stands bytes at (((to_be_bytes w16 priority ++ to_be_bytes w16 weight) ++ to_be_bytes w16 port) ++ wire_of target)
    → rdata_at bytes 33 at stop ≡ Ok (Srv priority weight port target)
unfolding rdata_at srv_at
srv_again bytes at stop priority weight port target hp hw ho ht e s =
    let p = to_be_bytes w16 priority in
    let w = to_be_bytes w16 weight in
    let o = to_be_bytes w16 port in
    let fixed = first_part bytes at ((p ++ w) ++ o) (wire_of target) s in
    let front = first_part bytes at (p ++ w) o fixed in
    let name : name_at bytes (at + 6) ≡ Ok (target, stop) = rw e (whole_read bytes (at + 6) target ht (last_part bytes at ((p ++ w) ++ o) (wire_of target) s)) in
    let room : leb (at + 6) stop ≡ true = le-leb (at + 6) stop (omega arith) in
    let first = u16_is bytes at priority hp (first_part bytes at p w front) in
    let second = u16_is bytes (at + 2) weight hw (last_part bytes at p w front) in
    let third = u16_is bytes (at + 4) port ho (last_part bytes at (p ++ w) o fixed) in
    rw (room, up_to bytes (at + 6) stop target name, first, second, third) refl

pub txt_again : (bytes : List ℕ) (at stop : ℕ) (text : List ℕ) → stop ≡ at + length text → Stands bytes at text → rdata_at bytes 16 at stop ≡ Ok (Txt text)
unfolding rdata_at
txt_again bytes at stop text e s = ap (λ (l : List ℕ). Ok (Txt l)) (ranged bytes at stop text s e)

pub nsec_again : (bytes : List ℕ) (at stop : ℕ) (next : List (List ℕ)) (bitmap : List ℕ) → IsTrue (is_name next) → stop ≡ at + length (wire_of next ++ bitmap)
    → Stands bytes at (wire_of next ++ bitmap) → rdata_at bytes 47 at stop ≡ Ok (Nsec next bitmap)
unfolding rdata_at nsec_at
nsec_again bytes at stop next bitmap h e s =
    let size = length-append (wire_of next) bitmap in
    let name = whole_read bytes at next h (first_part bytes at (wire_of next) bitmap s) in
    let rest = ranged bytes (at + length (wire_of next)) stop bitmap (last_part bytes at (wire_of next) bitmap s) (omega arith) in
    rw (inside bytes at (at + length (wire_of next)) stop next name (omega arith), rest) refl
