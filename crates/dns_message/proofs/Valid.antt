-- What bytes spell has parts of their form.
use Rattle.std.proofs.Common.{◌≡◌, ℕ, zero, suc, ◌+◌, ◌-◌, ◌/◌, ◌%◌, ◌<◌, ◌≤◌, ◌++◌, ◌&&◌, ◌||◌, not, List, [], ◌∷◌, ◌∙◌, Bool, true, false, cond, eqb, leb, ltb, length, drop, refl, arith, ap, sym, subst, append-nil, append_assoc, length-append, Option, Some, None, Result, Ok, Err, get_or, inl, inr}
use Rattle.std.proofs.Math.Seq.{drop-append_seam}
use Rattle.std.proofs.lemmas.Bool.{ltb-true, ltb-false, le-leb, leb-true, eqb-true, eqb-false, eq-eqb, and_from, and_parts}
use Rattle.std.specs.Prelude.{IsTrue, option_and_then}
use Rattle.std.specs.List.{list_all, cons_option, slice_range, All}
use Rattle.std.specs.Result.{IfOk}
use Rattle.dns_name.specs.Names.{wire_of, is_label, is_name}
use Rattle.dns_name.proofs.Wire.{label_is, name_is, name_each}
use Rattle.dns_record.specs.Records.{after_name, leaves, is_typed, has_raw_form, is_rdata}
use Rattle.dns_record.proofs.RawForms.{after_name-is}
use Rattle.dns_record.specs.declared.record.Rdata.{Rdata}
use Rattle.dns_record.specs.declared.record.Rdata.TheVariants.{A, Aaaa, Ptr, Cname, Srv, Txt, Nsec, Raw}
use Rattle.dns_pointers.specs.declared.fault.NameFault.{NameFault}
use Rattle.dns_pointers.specs.declared.fault.NameFault.TheVariants as name_fault
use Rattle.dns_message.specs.declared.message.Message.{Message}
use Rattle.dns_message.specs.declared.message.MessageError.{MessageError}
use Rattle.dns_message.specs.declared.message.MessageError.TheVariants.{Truncated, BadRdata, TooLong}
use Rattle.dns_pointers.specs.Reading.{◌>>=◌, byte_at, label_at, target_at, labels_at, name_at, NameAt, u16_in, u32_in, u128_in}
use Rattle.dns_message.specs.Reading.{holds_or, message_fault, of_name, name_within, name_up_to, srv_at, ns_at, nsec_at, class_in, top_bit_in, mx_at, soa_at, rdata_at, data_end_at, record_at, question_at, all_at, Sections, sections_at, with_header, spelled, Spells, IsReadAs}
use Rattle.dns_message.specs.Writing.{is_below, are_bytes, is_spellable_name, is_spellable_data, is_spellable_record, is_spellable_question, is_spellable, HasValidParts}
use Rattle.dns_message.proofs.ValidParts.{is_below_from, piece_bytes, piece_length, joined_bytes, u16_below, u32_below, u128_below, wire_bytes, are_bytes_from}

-- what is read without a fault has a property
pub record Gives {X E : Type 0} (P : X → Type 0) (result : Result X E) : Type 0 where
  pub each : (x : X) → result ≡ Ok x → P x

ok : {X E : Type 0} (P : X → Type 0) (x : X) → P x → Gives {E = E} P (Ok x)
ok {X} {E} P x p = record { each = λ y e. subst P (same y e) p }
  where
    same : (y : X) → ◌≡◌ {A = Result X E} (Ok x) (Ok y) → x ≡ y
    same y e = cc

err : {X E : Type 0} (P : X → Type 0) (fault : E) → Gives P (Err fault)
err {X} {E} P fault = record { each = λ y e. absurd (never y e) }
  where
    never : (y : X) → ◌≡◌ {A = Result X E} (Err fault) (Ok y) → ⊥
    never y e = cc

any : {X E : Type 0} (result : Result X E) → Gives (λ x. Unit {0}) result
any result = record { each = λ x e. tt }

weaker : {X E : Type 0} (P Q : X → Type 0) (result : Result X E) → ((x : X) → P x → Q x) → Gives P result → Gives Q result
weaker P Q result f g = record { each = λ x e. f x (g.each x e) }

next : {X Y E : Type 0} (P : X → Type 0) (Q : Y → Type 0) (r : Result X E) (k : X → Result Y E) → Gives P r → ((x : X) → P x → Gives Q (k x)) → Gives Q (r >>= k)
next P Q (Ok x) k g f = f x (g.each x refl)
next P Q (Err fault) k g f = err Q fault

either : {X E : Type 0} (P : X → Type 0) (b : Bool) (x y : Result X E) → (b ≡ true → Gives P x) → (b ≡ false → Gives P y) → Gives P (cond b x y)
either P true x y h k = h refl
either P false x y h k = k refl

test : (b : Bool) (fault : MessageError) → Gives (λ u. b ≡ true) (holds_or b fault)
test true fault = record { each = λ u e. refl }
test false fault = err (λ u. false ≡ true) fault

-- a label of so many bytes that has room
record IsLabelOf (size used : ℕ) (label : List ℕ) : Type 0 where
  pub bytes : are_bytes label ≡ true
  pub long : length label ≡ size
  pub room : used + 1 + size + 1 ≤ 255

label : (bytes : List ℕ) (at size used : ℕ) → are_bytes bytes ≡ true → Gives (IsLabelOf size used) (label_at bytes at size used)
unfolding label_at
label bytes at size used h =
    either (IsLabelOf size used) (ltb (length bytes) (at + size)) _ _ (λ e. err _ name_fault.Truncated) (λ within.
    either (IsLabelOf size used) (ltb 255 (used + 1 + size + 1)) _ _ (λ e. err _ name_fault.LongName) (λ room. ok (IsLabelOf size used) (slice_range bytes at (at + size)) (record {
      bytes = piece_bytes bytes at (at + size) h;
      long = piece_length bytes at (at + size) size refl (ltb-false (length bytes) (at + size) within);
      room = ltb-false 255 (used + 1 + size + 1) room;
    })))

-- labels of bytes that have room
record IsNameOf (used : ℕ) (name : List (List ℕ)) : Type 0 where
  pub each : list_all is_label name ≡ true
  pub bytes : list_all are_bytes name ≡ true
  pub short : used + length (wire_of name) ≤ 255

longer : (used size : ℕ) (label : List ℕ) (rest : List (List ℕ)) → 1 ≤ size → size ≤ 63 → IsLabelOf size used label → IsNameOf (used + 1 + size) rest → IsNameOf used (label ∷ rest)
longer used size label rest some most l r = record {
  each = and_from (is_label label) (list_all is_label rest) (label_is label (omega (arith, l.long)) (omega (arith, l.long))) r.each;
  bytes = and_from (are_bytes label) (list_all are_bytes rest) l.bytes r.bytes;
  short = omega (arith, l.long, r.short, length-append label (wire_of rest));
}

some_from : (n : ℕ) → eqb n 0 ≡ false → 1 ≤ n
some_from zero e = absurd (eqb-false 0 0 e refl)
some_from (suc n) e = omega arith

labels : (turns : ℕ) (bytes : List ℕ) (start at used : ℕ) → are_bytes bytes ≡ true → used + 1 ≤ 255 → Gives (λ (n : NameAt). IsNameOf used n.0) (labels_at turns bytes start at used)
unfolding labels_at
labels zero bytes start at used h room = err _ name_fault.Truncated
labels (suc turns) bytes start at used h room =
    next _ _ _ _ (any (byte_at bytes at)) (λ first u.
    either _ (eqb first 0) _ _ (λ e. ok _ ([], at + 1) (record { each = refl; bytes = refl; short = omega arith })) (λ some.
    either _ (ltb first 64) _ _
    (λ most. next _ _ _ _ (label bytes (at + 1) first used h) (λ l is.
    next _ _ _ _ (labels turns bytes start (at + 1 + first) (used + 1 + first) h is.room) (λ rest are.
    ok _ (l ∷ rest.0, rest.1) (longer used first l rest.0 (some_from first some) (let small = ltb-true first 64 most in omega arith) is are))))
    (λ long. either _ (ltb first 192) _ _ (λ e. err _ name_fault.BadLabel) (λ e. next _ _ _ _ (any (target_at bytes start at)) (λ t u.
    next _ _ _ _ (labels turns bytes t t used h room) (λ rest are. ok _ (rest.0, at + 2) are))))))

-- names
is_spellable_from : (name : List (List ℕ)) → IsNameOf 0 name → is_spellable_name name ≡ true
is_spellable_from name n = and_from (is_name name) (list_all are_bytes name) (name_is name n.each (omega (arith, n.short))) n.bytes

spelled_name : (bytes : List ℕ) (at : ℕ) → are_bytes bytes ≡ true → Gives (λ (n : NameAt). is_spellable_name n.0 ≡ true) (name_at bytes at)
unfolding name_at
spelled_name bytes at h =
    weaker (λ (n : NameAt). IsNameOf 0 n.0) _ _ (λ n is. is_spellable_from n.0 is) (labels (length bytes + 129) bytes at at 0 h (omega arith))

-- the same, where the fault is one of a message
name : (bytes : List ℕ) (at : ℕ) → are_bytes bytes ≡ true → Gives (λ (n : NameAt). is_spellable_name n.0 ≡ true) (of_name (name_at bytes at))
name bytes at h = as_part (name_at bytes at) (spelled_name bytes at h)
  where
    as_part : (r : Result NameAt NameFault) → Gives (λ (n : NameAt). is_spellable_name n.0 ≡ true) r → Gives (λ (n : NameAt). is_spellable_name n.0 ≡ true) (of_name r)
    as_part (Ok n) g = ok _ n (g.each n refl)
    as_part (Err fault) g = err _ (message_fault fault)

inner : (bytes : List ℕ) (at stop : ℕ) → are_bytes bytes ≡ true → Gives (λ (n : NameAt). is_spellable_name n.0 ≡ true) (name_within bytes at stop)
unfolding name_within
inner bytes at stop h = next _ _ _ _ (name bytes at h) (λ n is. next _ _ _ _ (test (leb n.1 stop) BadRdata) (λ u e. ok _ n is))

last : (bytes : List ℕ) (at stop : ℕ) → are_bytes bytes ≡ true → Gives (λ (n : List (List ℕ)). is_spellable_name n ≡ true) (name_up_to bytes at stop)
unfolding name_up_to
last bytes at stop h = next _ _ _ _ (name bytes at h) (λ n is. next _ _ _ _ (test (eqb n.1 stop) BadRdata) (λ u e. ok _ n.0 is))

wire : (name : List (List ℕ)) → is_spellable_name name ≡ true → are_bytes (wire_of name) ≡ true
wire name h = let b = and_parts (is_name name) (list_all are_bytes name) h in wire_bytes name (name_each name b.0) b.1

named : (name : List (List ℕ)) → is_spellable_name name ≡ true → IsTrue (is_name name)
named name h = (and_parts (is_name name) (list_all are_bytes name) h).0

abbrev IsData : Rdata → Type 0
IsData r = is_spellable_data r ≡ true

-- a name and no more
alone : (name : List (List ℕ)) → is_spellable_name name ≡ true → leaves 0 (after_name (wire_of name)) ≡ true
alone name h = ap (leaves 0) (ap after_name (sym (append-nil (wire_of name))) ∙ after_name-is name [] (named name h))

raw_is : (kind : ℕ) (raw : List ℕ) → is_below 16 kind ≡ true → are_bytes raw ≡ true → not (is_typed kind) ≡ true → has_raw_form kind raw ≡ true → IsData (Raw kind raw)
unfolding is_rdata
raw_is kind raw small bytes kept form =
    and_from (is_below 16 kind && are_bytes raw) (not (is_typed kind) && has_raw_form kind raw) (and_from (is_below 16 kind) (are_bytes raw) small bytes)
    (and_from (not (is_typed kind)) (has_raw_form kind raw) kept form)

srv : (bytes : List ℕ) (at stop : ℕ) → are_bytes bytes ≡ true → Gives IsData (srv_at bytes at stop)
unfolding srv_at
srv bytes at stop h =
    next _ _ _ _ (test (leb (at + 6) stop) BadRdata) (λ u e. next _ _ _ _ (last bytes (at + 6) stop h) (λ n is.
    ok IsData (Srv (u16_in bytes at) (u16_in bytes (at + 2)) (u16_in bytes (at + 4)) n)
    (and_from _ (is_spellable_name n) (and_from _ (is_below 16 (u16_in bytes (at + 4))) (and_from (is_below 16 (u16_in bytes at)) (is_below 16 (u16_in bytes (at + 2)))
    (u16_below bytes at h) (u16_below bytes (at + 2) h)) (u16_below bytes (at + 4) h)) is)))

ns : (bytes : List ℕ) (at stop : ℕ) → are_bytes bytes ≡ true → Gives IsData (ns_at bytes at stop)
unfolding ns_at
ns bytes at stop h = next _ _ _ _ (last bytes at stop h) (λ n is. ok IsData (Raw 2 (wire_of n)) (raw_is 2 (wire_of n) refl (wire n is) refl (alone n is)))

nsec : (bytes : List ℕ) (at stop : ℕ) → are_bytes bytes ≡ true → Gives IsData (nsec_at bytes at stop)
unfolding nsec_at
nsec bytes at stop h = next _ _ _ _ (inner bytes at stop h) (λ n is.
    ok IsData (Nsec n.0 (slice_range bytes n.1 stop)) (and_from (is_spellable_name n.0) (are_bytes (slice_range bytes n.1 stop)) is (piece_bytes bytes n.1 stop h)))

mx_form : (front : List ℕ) (name : List (List ℕ)) → length front ≡ 2 → is_spellable_name name ≡ true → has_raw_form 15 (front ++ wire_of name) ≡ true
mx_form front name two h =
    let rest : drop 2 (front ++ wire_of name) ≡ wire_of name = ap (λ (n : ℕ). drop n (front ++ wire_of name)) (sym two) ∙ drop-append_seam front (wire_of name) in
    and_from (leb 2 (length (front ++ wire_of name))) (leaves 0 (after_name (drop 2 (front ++ wire_of name))))
    (le-leb 2 (length (front ++ wire_of name)) (omega (arith, length-append front (wire_of name))))
    (ap (λ (l : List ℕ). leaves 0 (after_name l)) rest ∙ alone name h)

mx : (bytes : List ℕ) (at stop : ℕ) → are_bytes bytes ≡ true → stop ≤ length bytes → Gives IsData (mx_at bytes at stop)
unfolding mx_at
mx bytes at stop h room =
    next _ _ _ _ (test (leb (at + 2) stop) BadRdata) (λ u within. next _ _ _ _ (last bytes (at + 2) stop h) (λ n is.
    let front : List ℕ = slice_range bytes at (at + 2) in
    let short : at + 2 ≤ length bytes = omega (arith, leb-true (at + 2) stop within) in
    let two : length (slice_range bytes at (at + 2)) ≡ 2 = piece_length bytes at (at + 2) 2 refl short in
    ok IsData (Raw 15 (front ++ wire_of n)) (raw_is 15 (front ++ wire_of n) refl (joined_bytes front (wire_of n) (piece_bytes bytes at (at + 2) h) (wire n is)) refl (mx_form front n two is))))

soa_form : (first second : List (List ℕ)) (tail : List ℕ) → is_spellable_name first ≡ true → is_spellable_name second ≡ true → length tail ≡ 20
    → has_raw_form 6 ((wire_of first ++ wire_of second) ++ tail) ≡ true
soa_form first second tail f s size =
    let outer : after_name ((wire_of first ++ wire_of second) ++ tail) ≡ Some (wire_of second ++ tail) =
    ap after_name (append_assoc (wire_of first) (wire_of second) tail) ∙ after_name-is first (wire_of second ++ tail) (named first f) in
    ap (λ (o : Option (List ℕ)). leaves 20 (option_and_then after_name o)) outer ∙ ap (leaves 20) (after_name-is second tail (named second s)) ∙ eq-eqb (length tail) 20 size

soa : (bytes : List ℕ) (at stop : ℕ) → are_bytes bytes ≡ true → stop ≤ length bytes → Gives IsData (soa_at bytes at stop)
unfolding soa_at
soa bytes at stop h room =
    next _ _ _ _ (inner bytes at stop h) (λ f fis. next _ _ _ _ (inner bytes f.1 stop h) (λ s sis. next _ _ _ _ (test (eqb (s.1 + 20) stop) BadRdata) (λ u end.
    let tail : List ℕ = slice_range bytes s.1 stop in
    let size : length (slice_range bytes s.1 stop) ≡ 20 = piece_length bytes s.1 stop 20 (sym (eqb-true (s.1 + 20) stop end)) room in
    ok IsData (Raw 6 ((wire_of f.0 ++ wire_of s.0) ++ tail))
    (raw_is 6 ((wire_of f.0 ++ wire_of s.0) ++ tail) refl
    (joined_bytes (wire_of f.0 ++ wire_of s.0) tail (joined_bytes (wire_of f.0) (wire_of s.0) (wire f.0 fis) (wire s.0 sis)) (piece_bytes bytes s.1 stop h)) refl
    (soa_form f.0 s.0 tail fis sis size)))))

-- data of a type other than OPT
rdata : (bytes : List ℕ) (kind at stop : ℕ) → are_bytes bytes ≡ true → stop ≤ length bytes → is_below 16 kind ≡ true → eqb kind 41 ≡ false → Gives IsData (rdata_at bytes kind at stop)
unfolding rdata_at
rdata bytes kind at stop h room small opt =
    either IsData (eqb kind 1) _ _ (λ e. next _ _ _ _ (test (eqb (stop - at) 4) BadRdata) (λ u size. ok IsData (A (u32_in bytes at)) (u32_below bytes at h))) (λ a.
    either IsData (eqb kind 28) _ _ (λ e. next _ _ _ _ (test (eqb (stop - at) 16) BadRdata) (λ u size. ok IsData (Aaaa (u128_in bytes at)) (u128_below bytes at h))) (λ aaaa.
    either IsData (eqb kind 12) _ _ (λ e. next _ _ _ _ (last bytes at stop h) (λ n is. ok IsData (Ptr n) is)) (λ ptr.
    either IsData (eqb kind 5) _ _ (λ e. next _ _ _ _ (last bytes at stop h) (λ n is. ok IsData (Cname n) is)) (λ cname.
    either IsData (eqb kind 33) _ _ (λ e. srv bytes at stop h) (λ other.
    either IsData (eqb kind 47) _ _ (λ e. nsec bytes at stop h) (λ further.
    either IsData (eqb kind 2) _ _ (λ e. ns bytes at stop h) (λ server.
    either IsData (eqb kind 15) _ _ (λ e. mx bytes at stop h room) (λ mail.
    either IsData (eqb kind 6) _ _ (λ e. soa bytes at stop h room) (λ start.
    either IsData (eqb kind 16) _ _ (λ e. ok IsData (Txt (slice_range bytes at stop)) (piece_bytes bytes at stop h)) (λ txt.
    ok IsData (Raw kind (slice_range bytes at stop))
    (raw_is kind (slice_range bytes at stop) small (piece_bytes bytes at stop h) (rw (a, cname, ptr, txt, aaaa, other, further, opt) refl) (rw (server, mail, start) refl))))))))))))

-- records
data_end : (bytes : List ℕ) (fields : ℕ) → Gives (λ (stop : ℕ). stop ≤ length bytes) (data_end_at bytes fields)
data_end bytes fields =
    let stop : ℕ = fields + 10 + u16_in bytes (fields + 8) in
    next _ _ _ _ (test (leb (fields + 10) (length bytes)) Truncated) (λ u e. next _ _ _ _ (test (leb stop (length bytes)) Truncated) (λ v k. ok _ stop (leb-true stop (length bytes) k)))

-- what was kept passes a test
abbrev Kept : {X : Type 0} → (X → Bool) → Option X × ℕ → Type 0
Kept passes found = list_all passes (cons_option found.0 []) ≡ true

neither : (a b : Bool) → (a || b) ≡ false → a ≡ false
neither true b h = h
neither false b h = refl

rr : (bytes : List ℕ) (at : ℕ) → are_bytes bytes ≡ true → Gives (Kept is_spellable_record) (record_at bytes at)
unfolding record_at
rr bytes at h =
    next _ _ _ _ (name bytes at h) (λ owner is. next _ _ _ _ (data_end bytes owner.1) (λ stop room.
    either _ (eqb (u16_in bytes owner.1) 41 || not (eqb (class_in bytes (owner.1 + 2)) 1)) _ _ (λ e. ok (Kept is_spellable_record) (None, stop) refl) (λ kept.
    next _ _ _ _ (rdata bytes (u16_in bytes owner.1) (owner.1 + 10) stop h room (u16_below bytes owner.1 h) (neither _ _ kept)) (λ r form.
    ok (Kept is_spellable_record) (Some (record { owner = owner.0; flush = top_bit_in bytes (owner.1 + 2); ttl = u32_in bytes (owner.1 + 4); rdata = r }), stop)
    (and_from (is_spellable_name owner.0 && is_below 32 (u32_in bytes (owner.1 + 4)) && is_spellable_data r) true
    (and_from (is_spellable_name owner.0 && is_below 32 (u32_in bytes (owner.1 + 4))) (is_spellable_data r)
    (and_from (is_spellable_name owner.0) (is_below 32 (u32_in bytes (owner.1 + 4))) is (u32_below bytes (owner.1 + 4) h)) form) refl)))))

question : (bytes : List ℕ) (at : ℕ) → are_bytes bytes ≡ true → Gives (Kept is_spellable_question) (question_at bytes at)
unfolding question_at
question bytes at h =
    next _ _ _ _ (name bytes at h) (λ n is. next _ _ _ _ (test (leb (n.1 + 4) (length bytes)) Truncated) (λ u e.
    either _ (eqb (class_in bytes (n.1 + 2)) 1 || eqb (class_in bytes (n.1 + 2)) 255) _ _
    (λ kept. ok (Kept is_spellable_question) (Some (record { name = n.0; kind = u16_in bytes n.1; unicast = top_bit_in bytes (n.1 + 2) }), n.1 + 4)
    (and_from (is_spellable_name n.0 && is_below 16 (u16_in bytes n.1)) true (and_from (is_spellable_name n.0) (is_below 16 (u16_in bytes n.1)) is (u16_below bytes n.1 h)) refl))
    (λ passed. ok (Kept is_spellable_question) (None, n.1 + 4) refl)))

kept_first : {X : Type 0} (passes : X → Bool) (first : Option X) (rest : List X) → list_all passes (cons_option first []) ≡ true → list_all passes rest ≡ true → list_all passes (cons_option first rest) ≡ true
kept_first passes None rest h k = k
kept_first passes (Some x) rest h k = and_from (passes x) (list_all passes rest) (and_parts (passes x) true h).0 k

all : {X : Type 0} (passes : X → Bool) (thing_at : ℕ → Result (Option X × ℕ) MessageError) → ((at : ℕ) → Gives (Kept passes) (thing_at at)) → (more at : ℕ)
    → Gives (λ (found : List X × ℕ). list_all passes found.0 ≡ true) (all_at thing_at more at)
unfolding all_at
all passes thing_at h zero at = ok _ ([], at) refl
all passes thing_at h (suc more) at =
    next _ _ _ _ (h at) (λ first is. next _ _ _ _ (all passes thing_at h more first.1) (λ rest are. ok _ (cons_option first.0 rest.0, rest.1) (kept_first passes first.0 rest.0 is are)))

-- the sections
record AreValid (parts : Sections) : Type 0 where
  pub questions : list_all is_spellable_question parts.0 ≡ true
  pub answers : list_all is_spellable_record parts.1 ≡ true
  pub authority : list_all is_spellable_record parts.2 ≡ true
  pub additional : list_all is_spellable_record parts.3 ≡ true

sections : (bytes : List ℕ) → are_bytes bytes ≡ true → Gives AreValid (sections_at bytes)
unfolding sections_at
sections bytes h =
    next _ _ _ _ (all is_spellable_question (question_at bytes) (λ at. question bytes at h) (u16_in bytes 4) 12) (λ questions q.
    next _ _ _ _ (all is_spellable_record (record_at bytes) (λ at. rr bytes at h) (u16_in bytes 6) questions.1) (λ answers a.
    next _ _ _ _ (all is_spellable_record (record_at bytes) (λ at. rr bytes at h) (u16_in bytes 8) answers.1) (λ authority b.
    next _ _ _ _ (all is_spellable_record (record_at bytes) (λ at. rr bytes at h) (u16_in bytes 10) authority.1) (λ additional c.
    ok AreValid (questions.0, answers.0, authority.0, additional.0) (record { questions = q; answers = a; authority = b; additional = c })))))

four_bits : (n : ℕ) → is_below 4 (n % 16) ≡ true
four_bits n = is_below_from 4 (n % 16) (omega arith)

message : (bytes : List ℕ) → are_bytes bytes ≡ true → Gives (λ m. is_spellable m ≡ true) (spelled bytes)
unfolding spelled is_spellable
message bytes h =
    next _ _ _ _ (test (leb (length bytes) 8972) TooLong) (λ u e. next _ _ _ _ (test (leb 12 (length bytes)) Truncated) (λ v k. next _ _ _ _ (sections bytes h) (λ parts are.
    ok _ (with_header bytes parts)
    (and_from _ (list_all is_spellable_record parts.3) (and_from _ (list_all is_spellable_record parts.2) (and_from _ (list_all is_spellable_record parts.1) (and_from _ (list_all is_spellable_question parts.0)
    (and_from _ (is_below 4 (get_or bytes 3 0 % 16)) (and_from (is_below 16 (u16_in bytes 0)) (is_below 4 (get_or bytes 2 0 / 8 % 16)) (u16_below bytes 0 h) (four_bits (get_or bytes 2 0 / 8))) (four_bits (get_or bytes 3 0)))
    are.questions) are.answers) are.authority) are.additional))))

-- What bytes spell is a message whose parts have their form.
pub spelled_spellable : (bytes : List ℕ) (m : Message) → are_bytes bytes ≡ true → Spells bytes m → is_spellable m ≡ true
spelled_spellable bytes m h s = (message bytes h).each m s

-- its questions and records are valid
pub parts_valid : (m : Message) → is_spellable m ≡ true → HasValidParts m
unfolding is_spellable
parts_valid m h =
    let h1 = and_parts _ (list_all is_spellable_record m.additional) h in
    let h2 = and_parts _ (list_all is_spellable_record m.authority) h1.0 in
    let h3 = and_parts _ (list_all is_spellable_record m.answers) h2.0 in
    let h4 = and_parts _ (list_all is_spellable_question m.questions) h3.0 in
    record { questions = h4.1; answers = h3.1; authority = h2.1; additional = h1.1 }

-- What is read of bytes has valid parts.
pub valid_read : (result : Result Message MessageError) (bytes : List ℕ) → IfOk result (λ m. All (λ b. b < 256) bytes) → IsReadAs result (spelled bytes) → IfOk result (λ m. HasValidParts m)
valid_read (Err e) bytes small r = tt
valid_read (Ok m) bytes small (inl e) = absurd (cc)
valid_read (Ok m) bytes small (inr e) =
    parts_valid m (spelled_spellable bytes m (are_bytes_from bytes (λ i h. small i 0 h)) (sym e))
