-- Raw data are read as they were written: those of types without names, and NS, MX and SOA.
use Rattle.std.proofs.Common.{◌≡◌, ℕ, ◌+◌, ◌≤◌, ◌++◌, not, List, [], ◌∙◌, Bool, true, false, length, take, drop, refl, arith, ap, sym, subst, append-nil, length-append, length-take, append_assoc, Option, Some, None, Ok, eqb, leb, eq-eqb}
use Rattle.std.specs.Prelude.{IsTrue, option_and_then}
use Rattle.std.proofs.lemmas.Bool.{le-leb, leb-true, eqb-true, false≢true, and_parts, not-true, or_parts}
use Rattle.std.proofs.lemmas.List.{nil_from_length, take-append-drop}
use Rattle.dns_name.specs.Names.{wire_of, labels_of, is_name}
use Rattle.dns_record.specs.Records.{after_name, is_typed, has_raw_form, is_rdata, leaves}
use Rattle.dns_record.proofs.RawForms.{after_name-parts}
use Rattle.dns_record.specs.declared.record.Rdata.TheVariants.{Raw}
use Rattle.dns_pointers.specs.Reading.{name_at}
use Rattle.dns_message.specs.Reading.{ns_at, mx_at, soa_at, rdata_at}
use Rattle.dns_pointers.proofs.Standing.{Stands, first_part, last_part, same_piece, ranged}
use Rattle.dns_pointers.proofs.NamesRead.{whole_read}
use Rattle.dns_message.proofs.DataNames.{up_to, inside}

-- bytes that are a name and so many more
pub record IsNameAnd (bytes more : List ℕ) : Type 0 where
  pub name : List (List ℕ)
  pub is : IsTrue (is_name name)
  pub parts : bytes ≡ wire_of name ++ more

name_and : (bytes more : List ℕ) → after_name bytes ≡ Some more → IsNameAnd bytes more
name_and bytes more e = let p = after_name-parts bytes more e in record { name = labels_of bytes; is = p.0; parts = p.1 }

left : (count : ℕ) (o : Option (List ℕ)) → leaves count o ≡ true → (more : List ℕ) × (o ≡ Some more) × (length more ≡ count)
left count None h = absurd (cc)
left count (Some more) h = (more, refl, eqb-true (length more) count h)

-- nothing follows the name
alone : (bytes : List ℕ) → leaves 0 (after_name bytes) ≡ true → IsNameAnd bytes []
alone bytes h =
    let l = left 0 (after_name bytes) h in
    let none : l.0 ≡ [] = nil_from_length l.0 l.2 in
    name_and bytes [] (l.1 ∙ ap (λ (x : List ℕ). Some x) none)

ns_again : (bytes raw : List ℕ) (at stop : ℕ) → IsNameAnd raw [] → stop ≡ at + length raw → Stands bytes at raw → rdata_at bytes 2 at stop ≡ Ok (Raw 2 raw)
unfolding rdata_at ns_at
ns_again bytes raw at stop n e s =
    let whole : raw ≡ wire_of n.name = n.parts ∙ append-nil (wire_of n.name) in
    let place : stop ≡ at + length (wire_of n.name) = e ∙ ap (λ (l : List ℕ). at + length l) whole in
    let name : name_at bytes at ≡ Ok (n.name, stop) = rw place (whole_read bytes at n.name n.is (same_piece bytes at raw (wire_of n.name) s whole)) in
    rw (up_to bytes at stop n.name name) (ap (λ (l : List ℕ). Ok (Raw 2 l)) (sym whole))

mx_again : (bytes raw : List ℕ) (at stop : ℕ) → 2 ≤ length raw → IsNameAnd (drop 2 raw) [] → stop ≡ at + length raw → Stands bytes at raw → rdata_at bytes 15 at stop ≡ Ok (Raw 15 raw)
unfolding rdata_at mx_at
mx_again bytes raw at stop h n e s =
    let front : List ℕ = take 2 raw in
    let tail : drop 2 raw ≡ wire_of n.name = n.parts ∙ append-nil (wire_of n.name) in
    let whole : raw ≡ take 2 raw ++ wire_of n.name = sym (take-append-drop 2 raw) ∙ ap (λ (l : List ℕ). take 2 raw ++ l) tail in
    let two : length (take 2 raw) ≡ 2 = omega (arith, length-take 2 raw) in
    let size = ap length whole in
    let t = same_piece bytes at raw (take 2 raw ++ wire_of n.name) s whole in
    let behind : Stands bytes (at + 2) (wire_of n.name) = rw two at (last_part bytes at (take 2 raw) (wire_of n.name) t) in
    let place : stop ≡ at + 2 + length (wire_of n.name) = omega (arith, length-append (take 2 raw) (wire_of n.name)) in
    let name : name_at bytes (at + 2) ≡ Ok (n.name, stop) = rw place (whole_read bytes (at + 2) n.name n.is behind) in
    let room : leb (at + 2) stop ≡ true = le-leb (at + 2) stop (omega arith) in
    let begun = ranged bytes at (at + 2) (take 2 raw) (first_part bytes at (take 2 raw) (wire_of n.name) t) (omega arith) in
    rw (room, up_to bytes (at + 2) stop n.name name, begun) (ap (λ (l : List ℕ). Ok (Raw 15 l)) (sym whole))

soa_again : (bytes raw rest last : List ℕ) (at stop : ℕ) → IsNameAnd raw rest → IsNameAnd rest last → length last ≡ 20 → stop ≡ at + length raw → Stands bytes at raw
    → rdata_at bytes 6 at stop ≡ Ok (Raw 6 raw)
unfolding rdata_at soa_at
soa_again bytes raw rest last at stop f n size e s =
    let w1 = wire_of f.name in
    let w2 = wire_of n.name in
    let whole : raw ≡ (wire_of f.name ++ wire_of n.name) ++ last = f.parts ∙ ap (λ (l : List ℕ). wire_of f.name ++ l) n.parts ∙ sym (append_assoc (wire_of f.name) (wire_of n.name) last) in
    let t = same_piece bytes at raw ((w1 ++ w2) ++ last) s whole in
    let names = first_part bytes at (w1 ++ w2) last t in
    let first = whole_read bytes at f.name f.is (first_part bytes at w1 w2 names) in
    let second = whole_read bytes (at + length (wire_of f.name)) n.name n.is (last_part bytes at w1 w2 names) in
    let lengths : length raw ≡ length (wire_of f.name) + length (wire_of n.name) + 20 =
    omega (arith, ap length whole, length-append (wire_of f.name ++ wire_of n.name) last, length-append (wire_of f.name) (wire_of n.name)) in
    let place : at + length (wire_of f.name ++ wire_of n.name) ≡ at + length (wire_of f.name) + length (wire_of n.name) = omega (arith, length-append (wire_of f.name) (wire_of n.name)) in
    let third : Stands bytes (at + length (wire_of f.name) + length (wire_of n.name)) last = rw place at (last_part bytes at (w1 ++ w2) last t) in
    let tail = ranged bytes (at + length (wire_of f.name) + length (wire_of n.name)) stop last third (omega arith) in
    let end : eqb (at + length (wire_of f.name) + length (wire_of n.name) + 20) stop ≡ true = eq-eqb _ _ (omega arith) in
    let i1 = inside bytes at (at + length (wire_of f.name)) stop f.name first (omega arith) in
    let i2 = inside bytes (at + length (wire_of f.name)) (at + length (wire_of f.name) + length (wire_of n.name)) stop n.name second (omega arith) in
    rw (i1, i2, end, tail) (ap (λ (l : List ℕ). Ok (Raw 6 l)) (sym whole))

-- a type that has no variant of its own, and no name in its data
pub record IsUntyped (kind : ℕ) : Type 0 where
  pub a : eqb kind 1 ≡ false
  pub cname : eqb kind 5 ≡ false
  pub ptr : eqb kind 12 ≡ false
  pub txt : eqb kind 16 ≡ false
  pub aaaa : eqb kind 28 ≡ false
  pub srv : eqb kind 33 ≡ false
  pub nsec : eqb kind 47 ≡ false
  pub opt : eqb kind 41 ≡ false

pub untyped : (kind : ℕ) → not (is_typed kind) ≡ true → IsUntyped kind
untyped kind h =
    let h1 = or_parts _ _ (not-true (is_typed kind) h) in
    let h2 = or_parts _ _ h1.0 in
    let h3 = or_parts _ _ h2.0 in
    let h4 = or_parts _ _ h3.0 in
    let h5 = or_parts _ _ h4.0 in
    let h6 = or_parts _ _ h5.0 in
    let h7 = or_parts _ _ h6.0 in
    record { a = h7.0; cname = h7.1; ptr = h6.1; txt = h5.1; aaaa = h4.1; srv = h3.1; nsec = h2.1; opt = h1.1 }

other_again : (bytes raw : List ℕ) (at stop kind : ℕ) → IsUntyped kind → eqb kind 2 ≡ false → eqb kind 15 ≡ false → eqb kind 6 ≡ false
    → stop ≡ at + length raw → Stands bytes at raw → rdata_at bytes kind at stop ≡ Ok (Raw kind raw)
unfolding rdata_at
other_again bytes raw at stop kind u ns mx soa e s =
    let h1 : eqb kind 1 ≡ false = u.a in
    let h2 : eqb kind 28 ≡ false = u.aaaa in
    let h3 : eqb kind 12 ≡ false = u.ptr in
    let h4 : eqb kind 5 ≡ false = u.cname in
    let h5 : eqb kind 33 ≡ false = u.srv in
    let h6 : eqb kind 47 ≡ false = u.nsec in
    let h7 : eqb kind 16 ≡ false = u.txt in
    rw (h1, h2, h3, h4, h5, h6, ns, mx, soa, h7) (ap (λ (l : List ℕ). Ok (Raw kind l)) (ranged bytes at stop raw s e))

form_ns : (bytes raw : List ℕ) (at stop : ℕ) → has_raw_form 2 raw ≡ true → stop ≡ at + length raw → Stands bytes at raw → rdata_at bytes 2 at stop ≡ Ok (Raw 2 raw)
form_ns bytes raw at stop h e s = ns_again bytes raw at stop (alone raw h) e s

form_mx : (bytes raw : List ℕ) (at stop : ℕ) → has_raw_form 15 raw ≡ true → stop ≡ at + length raw → Stands bytes at raw → rdata_at bytes 15 at stop ≡ Ok (Raw 15 raw)
form_mx bytes raw at stop h e s =
    let b = and_parts (leb 2 (length raw)) (leaves 0 (after_name (drop 2 raw))) h in
    mx_again bytes raw at stop (leb-true 2 (length raw) b.0) (alone (drop 2 raw) b.1) e s

form_soa : (bytes raw : List ℕ) (at stop : ℕ) → has_raw_form 6 raw ≡ true → stop ≡ at + length raw → Stands bytes at raw → rdata_at bytes 6 at stop ≡ Ok (Raw 6 raw)
form_soa bytes raw at stop h e s = tried (after_name raw) refl h
  where
    tried : (o : Option (List ℕ)) → after_name raw ≡ o → leaves 20 (option_and_then after_name o) ≡ true → rdata_at bytes 6 at stop ≡ Ok (Raw 6 raw)
    tried None n k = absurd (false≢true k)
    tried (Some rest) n k =
        let l = left 20 (after_name rest) k in
        soa_again bytes raw rest l.0 at stop (name_and raw rest n) (name_and rest l.0 l.1) l.2 e s

pub raw_again : (bytes raw : List ℕ) (at stop kind : ℕ) → is_rdata (Raw kind raw) ≡ true → stop ≡ at + length raw → Stands bytes at raw → rdata_at bytes kind at stop ≡ Ok (Raw kind raw)
unfolding is_rdata
raw_again bytes raw at stop kind h e s = by_kind (eqb kind 2) (eqb kind 15) (eqb kind 6) refl refl refl
  where
    parts : (not (is_typed kind) ≡ true) × (has_raw_form kind raw ≡ true)
    parts = and_parts (not (is_typed kind)) (has_raw_form kind raw) h

    at_kind : (other : ℕ) → eqb kind other ≡ true → (has_raw_form other raw ≡ true → rdata_at bytes other at stop ≡ Ok (Raw other raw)) → rdata_at bytes kind at stop ≡ Ok (Raw kind raw)
    at_kind other t f =
        let same : kind ≡ other = eqb-true kind other t in
        subst (λ (k : ℕ). rdata_at bytes k at stop ≡ Ok (Raw k raw)) (sym same) (f (subst (λ (k : ℕ). has_raw_form k raw ≡ true) same parts.1))

    by_kind : (ns mx soa : Bool) → eqb kind 2 ≡ ns → eqb kind 15 ≡ mx → eqb kind 6 ≡ soa → rdata_at bytes kind at stop ≡ Ok (Raw kind raw)
    by_kind true mx soa a b c = at_kind 2 a (λ f. form_ns bytes raw at stop f e s)
    by_kind false true soa a b c = at_kind 15 b (λ f. form_mx bytes raw at stop f e s)
    by_kind false false true a b c = at_kind 6 c (λ f. form_soa bytes raw at stop f e s)
    by_kind false false false a b c = other_again bytes raw at stop kind (untyped kind parts.0) a b c e s
