-- What is written is read again.
use Rattle.std.proofs.Common.{◌≡◌, ℕ, ◌+◌, ◌<◌, ◌≤◌, ◌^◌, ◌++◌, ◌&&◌, List, [], true, length, refl, arith, ap, subst, length-append, Ok, leb}
use Rattle.std.specs.List.{list_all}
use Rattle.std.proofs.lemmas.Bool.{le-leb, and_parts}
use Rattle.dns_record.specs.declared.record.Rr.{Rr}
use Rattle.dns_record.specs.declared.record.Question.{Question}
use Rattle.dns_message.specs.declared.message.Message.{Message}
use Rattle.dns_pointers.specs.Reading.{u16_in}
use Rattle.dns_message.specs.Reading.{all_at, question_at, record_at, sections_at, spelled}
use Rattle.dns_pointers.specs.Writing.{Offsets}
use Rattle.dns_message.specs.Writing.{header, written_all, written_question, written_record, written, is_below, is_spellable_question, is_spellable_record, is_spellable, IsReadAgain}
use Rattle.dns_message.proofs.Whole.{questions_of, answers_at, answers_of, authority_at, authority_of, additional_at, additional_of, length-header, whole_is, count_short}
use Rattle.dns_pointers.proofs.Standing.{Stands, within, first_part, last_part, moved}
use Rattle.dns_pointers.proofs.Tables.{IsTable, no_names}
use Rattle.dns_message.proofs.DataRead.{below}
use Rattle.dns_message.proofs.RecordsRead.{AreRead, question_read, record_read, all_read}
use Rattle.dns_message.proofs.HeaderAgain.{IsHeaderRead, header_read}

-- the parts of a spellable message
record AreSpellable (m : Message) : Type 0 where
  pub id : m.id < 2 ^ 16
  pub opcode : m.opcode < 16
  pub rcode : m.rcode < 16
  pub questions : list_all is_spellable_question m.questions ≡ true
  pub answers : list_all is_spellable_record m.answers ≡ true
  pub authority : list_all is_spellable_record m.authority ≡ true
  pub additional : list_all is_spellable_record m.additional ≡ true

parts_of : (m : Message) → is_spellable m ≡ true → AreSpellable m
unfolding is_spellable
parts_of m h =
    let q = list_all is_spellable_question m.questions in
    let a = list_all is_spellable_record m.answers in
    let u = list_all is_spellable_record m.authority in
    let d = list_all is_spellable_record m.additional in
    let i = is_below 16 m.id in
    let o = is_below 4 m.opcode in
    let r = is_below 4 m.rcode in
    let h1 = and_parts (i && o && r && q && a && u) d h in
    let h2 = and_parts (i && o && r && q && a) u h1.0 in
    let h3 = and_parts (i && o && r && q) a h2.0 in
    let h4 = and_parts (i && o && r) q h3.0 in
    let h5 = and_parts (i && o) r h4.0 in
    let h6 = and_parts i o h5.0 in
    record { id = below 16 m.id h6.0; opcode = below 4 m.opcode h6.1; rcode = below 4 m.rcode h5.1; questions = h4.1; answers = h3.1; authority = h2.1; additional = h1.1 }

-- where the sections stand
record AreLaid (bytes : List ℕ) (m : Message) : Type 0 where
  pub header : Stands bytes 0 (header m)
  pub questions : Stands bytes 12 (questions_of m).bytes
  pub answers : Stands bytes (answers_at m) (answers_of m).bytes
  pub authority : Stands bytes (authority_at m) (authority_of m).bytes
  pub additional : Stands bytes (additional_at m) (additional_of m).bytes

laid : (bytes : List ℕ) (h q a u d : List ℕ) (p2 p3 p4 : ℕ) → length h ≡ 12 → p2 ≡ 12 + length q → p3 ≡ p2 + length a → p4 ≡ p3 + length u
    → Stands bytes 0 ((((h ++ q) ++ a) ++ u) ++ d) → Stands bytes 0 h × Stands bytes 12 q × Stands bytes p2 a × Stands bytes p3 u × Stands bytes p4 d
laid bytes h q a u d p2 p3 p4 n e2 e3 e4 s =
    let n1 = length-append h q in
    let n2 = length-append (h ++ q) a in
    let n3 = length-append ((h ++ q) ++ a) u in
    let s4 = first_part bytes 0 (((h ++ q) ++ a) ++ u) d s in
    let s3 = first_part bytes 0 ((h ++ q) ++ a) u s4 in
    let s2 = first_part bytes 0 (h ++ q) a s3 in (
      first_part bytes 0 h q s2,
      moved bytes (0 + length h) 12 q (last_part bytes 0 h q s2) (omega arith),
      moved bytes (0 + length (h ++ q)) p2 a (last_part bytes 0 (h ++ q) a s3) (omega arith),
      moved bytes (0 + length ((h ++ q) ++ a)) p3 u (last_part bytes 0 ((h ++ q) ++ a) u s4) (omega arith),
      moved bytes (0 + length (((h ++ q) ++ a) ++ u)) p4 d (last_part bytes 0 (((h ++ q) ++ a) ++ u) d s) (omega arith),
    )

stands : (m : Message) (more : List ℕ) → AreLaid (written m ++ more) m
stands m more =
    let s : Stands (written m ++ more) 0 (written m) = record { front = []; more = more; is = refl; place = refl } in
    let t = subst (λ (l : List ℕ). Stands (written m ++ more) 0 l) (whole_is m) s in
    let l = laid (written m ++ more) (header m) (questions_of m).bytes (answers_of m).bytes (authority_of m).bytes (additional_of m).bytes
    (answers_at m) (authority_at m) (additional_at m) (length-header m) refl refl refl t in
    record { header = l.0; questions = l.1; answers = l.2; authority = l.3; additional = l.4 }

-- records in a row
records_read : (bytes : List ℕ) (names : Offsets) (at : ℕ) (rrs : List Rr) → length bytes ≤ 8972 → list_all is_spellable_record rrs ≡ true → IsTable bytes names at
    → Stands bytes at (written_all written_record names at rrs).bytes → AreRead (record_at bytes) bytes at rrs (written_all written_record names at rrs)
records_read bytes names at rrs few h t s =
    all_read (record_at bytes) written_record is_spellable_record bytes (λ ns n rr g k p. record_read bytes ns n rr few g k p) names at rrs h t s

joined : (bytes : List ℕ) (qs : List Question) (xs us ds : List Rr) (p1 p2 p3 p4 : ℕ) → u16_in bytes 4 ≡ length qs → u16_in bytes 6 ≡ length xs → u16_in bytes 8 ≡ length us
    → u16_in bytes 10 ≡ length ds → all_at (question_at bytes) (length qs) 12 ≡ Ok (qs, p1) → all_at (record_at bytes) (length xs) p1 ≡ Ok (xs, p2)
    → all_at (record_at bytes) (length us) p2 ≡ Ok (us, p3) → all_at (record_at bytes) (length ds) p3 ≡ Ok (ds, p4) → sections_at bytes ≡ Ok (qs, xs, us, ds)
unfolding sections_at
joined bytes qs xs us ds p1 p2 p3 p4 nq nx nu nd q x u d = rw (nq, q, nx, x, nu, u, nd, d) refl

sections_read : (bytes : List ℕ) (m : Message) → length bytes ≤ 8972 → AreSpellable m → AreLaid bytes m → IsHeaderRead bytes m
    → sections_at bytes ≡ Ok (m.questions, m.answers, m.authority, m.additional)
sections_read bytes m few p l h =
    let q = all_read (question_at bytes) written_question is_spellable_question bytes (λ ns n x g k s. question_read bytes ns n x few g k s) [] 12 m.questions p.questions (no_names bytes 12) l.questions in
    let x = records_read bytes (questions_of m).names (answers_at m) m.answers few p.answers q.table l.answers in
    let u = records_read bytes (answers_of m).names (authority_at m) m.authority few p.authority x.table l.authority in
    let d = records_read bytes (authority_of m).names (additional_at m) m.additional few p.additional u.table l.additional in
    joined bytes m.questions m.answers m.authority m.additional (answers_at m) (authority_at m) (additional_at m) (additional_at m + length (additional_of m).bytes)
    h.questions h.answers h.authority h.additional q.read x.read u.read d.read

spelled_again : (bytes : List ℕ) (m : Message) → length bytes ≤ 8972 → 12 ≤ length bytes → IsHeaderRead bytes m
    → sections_at bytes ≡ Ok (m.questions, m.answers, m.authority, m.additional) → spelled bytes ≡ Ok m
unfolding spelled
spelled_again bytes m few some h e =
    let short : leb (length bytes) 8972 ≡ true = le-leb (length bytes) 8972 few in
    let long : leb 12 (length bytes) ≡ true = le-leb 12 (length bytes) some in
    rw (short, long, e) (ap (λ (x : Message). Ok x) h.message)

pub read_again : IsReadAgain
read_again m more h few =
    let p = parts_of m h in
    let l = stands m more in
    let count = count_short m in
    let whole = length-append (written m) more in
    let start : 0 + length (header m) ≤ length (written m ++ more) = within (written m ++ more) 0 (header m) l.header in
    let head = header_read (written m ++ more) m p.id p.opcode p.rcode (omega arith) (omega arith) (omega arith) (omega arith) l.header in
    spelled_again (written m ++ more) m few (omega (arith, length-header m)) head (sections_read (written m ++ more) m few p l head)
