-- Data are known by their type and bytes, and answers by their bytes.
use Rattle.std.proofs.Common.{◌≡◌, ℕ, ◌-◌, ◌^◌, ◌<◌, Bool, true, false, cond, not, ◌&&◌, ◌||◌, eqb, List, [], ◌∷◌, ◌++◌, length, take, drop, refl, ap, ◌∙◌, sym, arith, Option, length-append}
use Rattle.std.specs.Int.{to_be_bytes, from_be_bytes, w16, w32, w128}
use Rattle.std.specs.Option.{unwrap_or}
use Rattle.std.specs.List.{list_all}
use Rattle.std.proofs.Math.Seq.{take-append_seam}
use Rattle.std.proofs.lemmas.Nat.{from_be_bytes-to_be_bytes_2, from_be_bytes-to_be_bytes_4}
use Rattle.std.proofs.lemmas.Bool.{and_parts, ltb-true}
use Rattle.dns_name.specs.Names.{wire_of, labels_of, is_name}
use Rattle.dns_name.proofs.Wire.{labels_of-wire_of, name_each}
use Rattle.dns_record.specs.declared.record.Rdata.{Rdata}
use Rattle.dns_record.specs.declared.record.Rdata.TheVariants.{A, Aaaa, Ptr, Cname, Srv, Txt, Nsec, Raw}
use Rattle.dns_record.specs.Records.{kind_of, data_of, after_name, is_typed, has_raw_form, is_rdata}
use Rattle.dns_record.proofs.RawForms.{after_name-is}
use Rattle.dns_message.specs.Writing.{is_below, are_bytes, is_spellable_name, is_spellable_data}
use Rattle.sd_call.specs.declared.answer.Answer.{Answer}
use Rattle.sd_call.specs.declared.answer.Answer.TheVariants.{Datum, Found, Resolved, Named, Conflict}
use Rattle.sd_call.specs.Answers.{answer_bytes}
use Rattle.mdns_history.specs.Typed.{is_typed_answer}
use Rattle.mdns_history.proofs.RecordTexts.{kind_small}

from_be_bytes-to_be_bytes_16 : (n : ℕ) → n < 2 ^ 128 → from_be_bytes w128 (to_be_bytes w128 n) ≡ n
from_be_bytes-to_be_bytes_16 n h = omega arith

-- what follows a name, and the name itself
abbrev rest_of : List ℕ → List ℕ
rest_of bytes = unwrap_or (after_name bytes) []

abbrev front_name : List ℕ → List (List ℕ)
front_name bytes = labels_of (take (length bytes - length (rest_of bytes)) bytes)

rest_is : (name : List (List ℕ)) (more : List ℕ) → is_name name ≡ true → rest_of (wire_of name ++ more) ≡ more
rest_is name more h = ap (λ (o : Option (List ℕ)). unwrap_or o []) (after_name-is name more h)

front_is : (name : List (List ℕ)) (more : List ℕ) → is_name name ≡ true → front_name (wire_of name ++ more) ≡ name
front_is name more h =
    let size : length (wire_of name ++ more) - length (rest_of (wire_of name ++ more)) ≡ length (wire_of name) =
    ap (λ (l : List ℕ). length (wire_of name ++ more) - length l) (rest_is name more h) ∙ omega (arith, length-append (wire_of name) more) in
    ap (λ (k : ℕ). labels_of (take k (wire_of name ++ more))) size ∙ ap labels_of (take-append_seam (wire_of name) more) ∙ labels_of-wire_of name (name_each name h)

-- the data of a type and bytes
abbrev data_read : ℕ → List ℕ → Rdata
data_read kind bytes =
    cond (eqb kind 1) (A (from_be_bytes w32 bytes))
    (cond (eqb kind 28) (Aaaa (from_be_bytes w128 bytes))
    (cond (eqb kind 12) (Ptr (labels_of bytes))
    (cond (eqb kind 5) (Cname (labels_of bytes))
    (cond (eqb kind 33) (Srv (from_be_bytes w16 (take 2 bytes)) (from_be_bytes w16 (take 2 (drop 2 bytes))) (from_be_bytes w16 (take 2 (drop 4 bytes))) (labels_of (drop 6 bytes)))
    (cond (eqb kind 16) (Txt bytes)
    (cond (eqb kind 47) (Nsec (front_name bytes) (rest_of bytes)) (Raw kind bytes)))))))

named : (name : List (List ℕ)) → is_spellable_name name ≡ true → is_name name ≡ true
named name h = (and_parts (is_name name) (list_all are_bytes name) h).0

wire_back : (name : List (List ℕ)) → is_spellable_name name ≡ true → labels_of (wire_of name) ≡ name
wire_back name h = labels_of-wire_of name (name_each name (named name h))

raw_back : (kind : ℕ) (bytes : List ℕ) → not (is_typed kind) ≡ true → data_read kind bytes ≡ Raw kind bytes
raw_back kind bytes h = at (eqb kind 1) (eqb kind 5) (eqb kind 12) (eqb kind 16) (eqb kind 28) (eqb kind 33) (eqb kind 47) (eqb kind 41) h
  where
    at : (a b c d e f g o : Bool) → not (a || b || c || d || e || f || g || o) ≡ true →
        cond a (A (from_be_bytes w32 bytes))
        (cond e (Aaaa (from_be_bytes w128 bytes))
        (cond c (Ptr (labels_of bytes))
        (cond b (Cname (labels_of bytes))
        (cond f (Srv (from_be_bytes w16 (take 2 bytes)) (from_be_bytes w16 (take 2 (drop 2 bytes))) (from_be_bytes w16 (take 2 (drop 4 bytes))) (labels_of (drop 6 bytes)))
        (cond d (Txt bytes)
        (cond g (Nsec (front_name bytes) (rest_of bytes)) (Raw kind bytes))))))) ≡ Raw kind bytes
    at true b c d e f g o k = absurd (cc)
    at false true c d e f g o k = absurd (cc)
    at false false true d e f g o k = absurd (cc)
    at false false false true e f g o k = absurd (cc)
    at false false false false true f g o k = absurd (cc)
    at false false false false false true g o k = absurd (cc)
    at false false false false false false true o k = absurd (cc)
    at false false false false false false false o k = refl

data_back : (rdata : Rdata) → is_spellable_data rdata ≡ true → data_read (kind_of rdata) (data_of rdata) ≡ rdata
unfolding is_rdata
data_back (A address) h = ap A (from_be_bytes-to_be_bytes_4 address (ltb-true address (2 ^ 32) h))
data_back (Aaaa address) h = ap Aaaa (from_be_bytes-to_be_bytes_16 address (ltb-true address (2 ^ 128) h))
data_back (Ptr name) h = ap Ptr (wire_back name h)
data_back (Cname name) h = ap Cname (wire_back name h)
data_back (Srv priority weight port target) h =
    let all = and_parts (is_below 16 priority && is_below 16 weight && is_below 16 port) (is_spellable_name target) h in
    let numbers = and_parts (is_below 16 priority && is_below 16 weight) (is_below 16 port) all.0 in
    let first = and_parts (is_below 16 priority) (is_below 16 weight) numbers.0 in
    let a : from_be_bytes w16 (to_be_bytes w16 priority) ≡ priority = from_be_bytes-to_be_bytes_2 priority (ltb-true priority (2 ^ 16) first.0) in
    let b : from_be_bytes w16 (to_be_bytes w16 weight) ≡ weight = from_be_bytes-to_be_bytes_2 weight (ltb-true weight (2 ^ 16) first.1) in
    let c : from_be_bytes w16 (to_be_bytes w16 port) ≡ port = from_be_bytes-to_be_bytes_2 port (ltb-true port (2 ^ 16) numbers.1) in
    let d : labels_of (wire_of target) ≡ target = wire_back target all.1 in
    λ i. Srv (a i) (b i) (c i) (d i)
data_back (Txt bytes) h = refl
data_back (Nsec next bitmap) h =
    let p = and_parts (is_spellable_name next) (are_bytes bitmap) h in
    let a : front_name (wire_of next ++ bitmap) ≡ next = front_is next bitmap (named next p.0) in
    let b : rest_of (wire_of next ++ bitmap) ≡ bitmap = rest_is next bitmap (named next p.0) in
    λ i. Nsec (a i) (b i)
data_back (Raw kind bytes) h =
    raw_back kind bytes (and_parts (not (is_typed kind)) (has_raw_form kind bytes) (and_parts (is_below 16 kind && are_bytes bytes) (is_rdata (Raw kind bytes)) h).1).0

-- the answer of bytes
abbrev answer_read : List ℕ → Answer
answer_read [] = Conflict
answer_read (tag ∷ bytes) =
    cond (eqb tag 1) (Datum (data_read (from_be_bytes w16 (take 2 bytes)) (drop 2 bytes)))
    (cond (eqb tag 2) (Found (labels_of bytes))
    (cond (eqb tag 3)
    (Resolved (from_be_bytes w16 (take 2 bytes)) (from_be_bytes w16 (take 2 (drop 2 bytes))) (from_be_bytes w16 (take 2 (drop 4 bytes))) (front_name (drop 6 bytes)) (rest_of (drop 6 bytes)))
    (cond (eqb tag 4) (Named (labels_of bytes)) Conflict)))

answer_back : (answer : Answer) → is_typed_answer answer ≡ true → answer_read (answer_bytes answer) ≡ answer
answer_back (Datum rdata) h =
    let kind : from_be_bytes w16 (to_be_bytes w16 (kind_of rdata)) ≡ kind_of rdata = from_be_bytes-to_be_bytes_2 (kind_of rdata) (kind_small rdata h) in
    ap (λ (k : ℕ). Datum (data_read k (data_of rdata))) kind ∙ ap Datum (data_back rdata h)
answer_back (Found instance) h = ap Found (wire_back instance h)
answer_back (Resolved priority weight port target txt) h =
    let p = five (is_below 16 priority) (is_below 16 weight) (is_below 16 port) (is_spellable_name target) (are_bytes txt) h in
    let a : from_be_bytes w16 (to_be_bytes w16 priority) ≡ priority = from_be_bytes-to_be_bytes_2 priority (ltb-true priority (2 ^ 16) p.0) in
    let b : from_be_bytes w16 (to_be_bytes w16 weight) ≡ weight = from_be_bytes-to_be_bytes_2 weight (ltb-true weight (2 ^ 16) p.1) in
    let c : from_be_bytes w16 (to_be_bytes w16 port) ≡ port = from_be_bytes-to_be_bytes_2 port (ltb-true port (2 ^ 16) p.2) in
    let d : front_name (wire_of target ++ txt) ≡ target = front_is target txt (named target p.3) in
    let e : rest_of (wire_of target ++ txt) ≡ txt = rest_is target txt (named target p.3) in
    λ i. Resolved (a i) (b i) (c i) (d i) (e i)
  where
    five : (a b c d e : Bool) → (a && b && c && d && e) ≡ true → (a ≡ true) × (b ≡ true) × (c ≡ true) × (d ≡ true) × (e ≡ true)
    five true true true true true h = (refl, refl, refl, refl, refl)
    five false b c d e h = cc
    five true false c d e h = cc
    five true true false d e h = cc
    five true true true false e h = cc
    five true true true true false h = cc
answer_back (Named full) h = ap Named (wire_back full h)
answer_back Conflict h = refl

-- answers that have the same bytes are the same
pub answer_told : (left right : Answer) → is_typed_answer left ≡ true → is_typed_answer right ≡ true → answer_bytes left ≡ answer_bytes right → left ≡ right
answer_told left right h k e = sym (answer_back left h) ∙ ap answer_read e ∙ answer_back right k
