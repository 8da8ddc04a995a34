-- Rows are those of a transcript where their lines can be printed and each message has the header of a written one.
use Rattle.std.proofs.Common.{◌≡◌, ℕ, Bool, true, ◌&&◌, List, [], ◌∷◌, ◌++◌, map, length, refl, ap, sym, ◌∙◌}
use Rattle.std.specs.Prelude.{◌==◌}
use Rattle.std.specs.List.{list_all, flat_map}
use Rattle.std.proofs.lemmas.Bool.{and_from, and_parts, eqb-true}
use Rattle.std.proofs.lemmas.List.Folds.{list_all-append, list_all-map}
use Rattle.dns_record.specs.declared.record.Rr.{Rr}
use Rattle.dns_message.specs.declared.message.Message.{Message}
use Rattle.dns_message.specs.Writing.{is_below, is_spellable_question, is_spellable_record, is_spellable}
use Rattle.mdns_history.specs.declared.entry.Sent.{Sent}
use Rattle.mdns_history.specs.declared.entry.Outcome.{Outcome}
use Rattle.mdns_history.specs.declared.entry.Outcome.TheVariants as outcome
use Rattle.mdns_history.specs.declared.entry.Entry.{Entry}
use Rattle.mdns_history.specs.Typed.{is_typed_dest, is_typed_item, is_typed_event, is_typed_mark, is_typed_sent, is_typed_given, is_typed_outcome, is_typed_entry}
use Rattle.mdns_script.specs.Writable.{is_daemon}
use Rattle.mdns_print.specs.declared.line.Section.{Section}
use Rattle.mdns_print.specs.declared.line.Section.TheVariants.{Answers, Authority, Additional}
use Rattle.mdns_print.specs.declared.line.Line.{Line}
use Rattle.mdns_print.specs.declared.line.Line.TheVariants as lines
use Rattle.mdns_lines.specs.Printable.{event_has_text, is_printable_line}
use Rattle.mdns_transcript.specs.declared.row.Row.{Row}
use Rattle.mdns_transcript.specs.Rows.{is_written, is_row}
use Rattle.mdns_transcript.specs.RowLines.{message_lines, sent_lines, outcome_lines, row_lines, rows_lines}
use Rattle.mdns_transcript.specs.Drafts.{sends_written}

-- whether all lines can be printed
abbrev pub are_printable : List Line → Bool
are_printable ls = list_all is_printable_line ls

pub printable_joined : (xs ys : List Line) → are_printable xs ≡ true → are_printable ys ≡ true → are_printable (xs ++ ys) ≡ true
printable_joined xs ys h k = list_all-append is_printable_line xs ys ∙ and_from _ _ h k

pub printable_parts : (xs ys : List Line) → are_printable (xs ++ ys) ≡ true → (are_printable xs ≡ true) × (are_printable ys ≡ true)
printable_parts xs ys h = and_parts (are_printable xs) (are_printable ys) (sym (list_all-append is_printable_line xs ys) ∙ h)

-- a test of each element that follows from another
implied : {X : Type 0} (p q r : X → Bool) → ((x : X) → p x ≡ true → q x ≡ true → r x ≡ true) → (xs : List X) → list_all p xs ≡ true → list_all q xs ≡ true → list_all r xs ≡ true
implied p q r each [] h k = refl
implied p q r each (x ∷ xs) h k =
    let a = and_parts (p x) (list_all p xs) h in
    let b = and_parts (q x) (list_all q xs) k in
    and_from _ _ (each x a.0 b.0) (implied p q r each xs a.1 b.1)

-- lines of lists of lines
all_inner : {X : Type 0} (inner : X → List Line) (xs : List X) → are_printable (flat_map inner xs) ≡ list_all (λ x. are_printable (inner x)) xs
all_inner inner [] = refl
all_inner inner (x ∷ xs) = list_all-append is_printable_line (inner x) (flat_map inner xs) ∙ ap (λ (b : Bool). are_printable (inner x) && b) (all_inner inner xs)

-- ---- sent messages

record HasParts (m : Message) : Type 0 where
  questions : list_all is_spellable_question m.questions ≡ true
  answers : list_all is_spellable_record m.answers ≡ true
  authority : list_all is_spellable_record m.authority ≡ true
  additional : list_all is_spellable_record m.additional ≡ true

section_of : (section : Section) (rrs : List Rr) → are_printable (map (λ rr. lines.Record section rr) rrs) ≡ list_all is_spellable_record rrs
section_of section rrs = list_all-map is_printable_line (λ rr. lines.Record section rr) rrs

message_from : (m : Message) → are_printable (message_lines m) ≡ true → HasParts m
message_from m h =
    let q = map (λ question. lines.Question question) m.questions in
    let a = map (λ rr. lines.Record Answers rr) m.answers in
    let n = map (λ rr. lines.Record Authority rr) m.authority in
    let x = map (λ rr. lines.Record Additional rr) m.additional in
    let px = printable_parts ((q ++ a) ++ n) x h in
    let pn = printable_parts (q ++ a) n px.0 in
    let pa = printable_parts q a pn.0 in
    record {
      questions = sym (list_all-map is_printable_line (λ question. lines.Question question) m.questions) ∙ pa.0;
      answers = sym (section_of Answers m.answers) ∙ pa.1;
      authority = sym (section_of Authority m.authority) ∙ pn.1;
      additional = sym (section_of Additional m.additional) ∙ px.1;
    }

message_to : (m : Message) → HasParts m → are_printable (message_lines m) ≡ true
message_to m p =
    let q = map (λ question. lines.Question question) m.questions in
    let a = map (λ rr. lines.Record Answers rr) m.answers in
    let n = map (λ rr. lines.Record Authority rr) m.authority in
    let x = map (λ rr. lines.Record Additional rr) m.additional in
    printable_joined ((q ++ a) ++ n) x
    (printable_joined (q ++ a) n
    (printable_joined q a (list_all-map is_printable_line (λ question. lines.Question question) m.questions ∙ p.questions) (section_of Answers m.answers ∙ p.answers))
    (section_of Authority m.authority ∙ p.authority))
    (section_of Additional m.additional ∙ p.additional)

zero_fits : (n : ℕ) → (n == 0) ≡ true → is_below 4 n ≡ true
zero_fits n h = ap (is_below 4) (eqb-true n 0 h)

sent_from : (sent : Sent) → are_printable (sent_lines sent) ≡ true → is_written sent ≡ true → is_typed_sent sent ≡ true
unfolding is_spellable
sent_from sent h w =
    let m = sent.message in
    let p = and_parts (is_typed_dest sent.to && is_below 16 m.id) (are_printable (message_lines m)) h in
    let q = and_parts (is_typed_dest sent.to) (is_below 16 m.id) p.0 in
    let parts = message_from m p.1 in
    let header = and_parts ((m.opcode == 0) && (m.rcode == 0)) _ w in
    let codes = and_parts (m.opcode == 0) (m.rcode == 0) header.0 in
    and_from _ _ q.0
    (and_from _ _
    (and_from _ _ (and_from _ _ (and_from _ _ (and_from _ _ (and_from _ _ q.1 (zero_fits m.opcode codes.0)) (zero_fits m.rcode codes.1)) parts.questions) parts.answers) parts.authority)
    parts.additional)

sent_to : (sent : Sent) → is_typed_sent sent ≡ true → are_printable (sent_lines sent) ≡ true
unfolding is_spellable
sent_to sent h =
    let m = sent.message in
    let p = and_parts (is_typed_dest sent.to) (is_spellable m) h in
    let a = and_parts _ (list_all is_spellable_record m.additional) p.1 in
    let b = and_parts _ (list_all is_spellable_record m.authority) a.0 in
    let c = and_parts _ (list_all is_spellable_record m.answers) b.0 in
    let d = and_parts _ (list_all is_spellable_question m.questions) c.0 in
    let e = and_parts _ (is_below 4 m.rcode) d.0 in
    let f = and_parts (is_below 16 m.id) (is_below 4 m.opcode) e.0 in
    and_from _ _ (and_from _ _ p.0 f.0) (message_to m (record { questions = d.1; answers = c.1; authority = b.1; additional = a.1 }))

-- ---- outcomes

one_line : (b : Bool) → (b && true) ≡ true → b ≡ true
one_line b h = (and_parts b true h).0

outcome_from : (o : Outcome) → are_printable (outcome_lines o) ≡ true → is_typed_outcome o ≡ true
outcome_from outcome.Done h = refl
outcome_from (outcome.Opened session) h = one_line _ h
outcome_from outcome.Full h = refl
outcome_from outcome.Ended h = refl
outcome_from outcome.Closed h = refl
outcome_from outcome.Cut h = refl
outcome_from (outcome.Code code) h = one_line _ h
outcome_from (outcome.Items items) h =
    let p = and_parts (is_below 64 (length items)) (are_printable (map (λ item. lines.Item item) items)) h in
    and_from _ _ (sym (list_all-map is_printable_line (λ item. lines.Item item) items) ∙ p.1) p.0
outcome_from outcome.Empty h = refl

outcome_to : (o : Outcome) → is_typed_outcome o ≡ true → are_printable (outcome_lines o) ≡ true
outcome_to outcome.Done h = refl
outcome_to (outcome.Opened session) h = and_from _ _ h refl
outcome_to outcome.Full h = refl
outcome_to outcome.Ended h = refl
outcome_to outcome.Closed h = refl
outcome_to outcome.Cut h = refl
outcome_to (outcome.Code code) h = and_from _ _ h refl
outcome_to (outcome.Items items) h =
    let p = and_parts (list_all is_typed_item items) (is_below 64 (length items)) h in
    and_from _ _ p.1 (list_all-map is_printable_line (λ item. lines.Item item) items ∙ p.0)
outcome_to outcome.Empty h = refl

-- ---- rows

record HasTypes (number : ℕ) (e : Entry) : Type 0 where
  daemon : is_daemon number ≡ true
  moment : is_below 64 e.moment ≡ true
  word : is_below 32 e.word ≡ true
  event : is_typed_event e.event ≡ true
  text : event_has_text e.event ≡ true

head_parts : (daemon : ℕ) (e : Entry) → is_printable_line (lines.Head daemon e.moment e.word e.event) ≡ true → HasTypes daemon e
head_parts daemon e h =
    let a = and_parts _ (event_has_text e.event) h in
    let b = and_parts _ (is_typed_event e.event) a.0 in
    let c = and_parts _ (is_below 32 e.word) b.0 in
    let d = and_parts (is_daemon daemon) (is_below 64 e.moment) c.0 in
    record { daemon = d.0; moment = d.1; word = c.1; event = b.1; text = a.1 }

pub row_from : (row : Row) → are_printable (row_lines row) ≡ true → sends_written row ≡ true → is_row row ≡ true
unfolding is_typed_entry
row_from row h w =
    let e = row.entry in
    let head = lines.Head row.daemon e.moment e.word e.event ∷ [] in
    let m = map (λ mark. lines.Mark mark) e.marks in
    let s = flat_map sent_lines e.sent in
    let g = map (λ given. lines.Given given) e.given in
    let o = outcome_lines e.outcome in
    let po = printable_parts (((head ++ m) ++ s) ++ g) o h in
    let pg = printable_parts ((head ++ m) ++ s) g po.0 in
    let ps = printable_parts (head ++ m) s pg.0 in
    let pm = printable_parts head m ps.0 in
    let t = head_parts row.daemon e (one_line _ pm.0) in
    let marks : list_all is_typed_mark e.marks ≡ true = sym (list_all-map is_printable_line (λ mark. lines.Mark mark) e.marks) ∙ pm.1 in
    let sent : list_all is_typed_sent e.sent ≡ true =
    implied (λ x. are_printable (sent_lines x)) is_written is_typed_sent sent_from e.sent (sym (all_inner sent_lines e.sent) ∙ ps.1) w in
    let given : list_all is_typed_given e.given ≡ true = sym (list_all-map is_printable_line (λ given. lines.Given given) e.given) ∙ pg.1 in
    and_from _ _
    (and_from _ _
    (and_from _ _ t.daemon
    (and_from _ _ (and_from _ _ (and_from _ _ (and_from _ _ (and_from _ _ (and_from _ _ t.moment t.word) t.event) marks) sent) given) (outcome_from e.outcome po.1)))
    t.text)
    w

pub row_to : (row : Row) → is_row row ≡ true → are_printable (row_lines row) ≡ true
unfolding is_typed_entry
row_to row h =
    let e = row.entry in
    let head = lines.Head row.daemon e.moment e.word e.event ∷ [] in
    let m = map (λ mark. lines.Mark mark) e.marks in
    let s = flat_map sent_lines e.sent in
    let g = map (λ given. lines.Given given) e.given in
    let o = outcome_lines e.outcome in
    let p = and_parts _ (list_all is_written e.sent) h in
    let q = and_parts _ (event_has_text e.event) p.0 in
    let r = and_parts (is_daemon row.daemon) (is_typed_entry e) q.0 in
    let to = and_parts _ (is_typed_outcome e.outcome) r.1 in
    let tg = and_parts _ (list_all is_typed_given e.given) to.0 in
    let ts = and_parts _ (list_all is_typed_sent e.sent) tg.0 in
    let tm = and_parts _ (list_all is_typed_mark e.marks) ts.0 in
    let te = and_parts _ (is_typed_event e.event) tm.0 in
    let tw = and_parts (is_below 64 e.moment) (is_below 32 e.word) te.0 in
    let first : are_printable head ≡ true = and_from _ _ (and_from _ _ (and_from _ _ (and_from _ _ (and_from _ _ r.0 tw.0) tw.1) te.1) q.1) refl in
    let sent : are_printable s ≡ true = all_inner sent_lines e.sent ∙ implied is_typed_sent is_typed_sent (λ x. are_printable (sent_lines x)) (λ x a b. sent_to x a) e.sent ts.1 ts.1 in
    printable_joined (((head ++ m) ++ s) ++ g) o
    (printable_joined ((head ++ m) ++ s) g
    (printable_joined (head ++ m) s
    (printable_joined head m first (list_all-map is_printable_line (λ mark. lines.Mark mark) e.marks ∙ tm.1)) sent)
    (list_all-map is_printable_line (λ given. lines.Given given) e.given ∙ tg.1))
    (outcome_to e.outcome to.1)

pub rows_from : (rows : List Row) → are_printable (rows_lines rows) ≡ true → list_all sends_written rows ≡ true → list_all is_row rows ≡ true
rows_from rows h w = implied (λ row. are_printable (row_lines row)) sends_written is_row row_from rows (sym (all_inner row_lines rows) ∙ h) w

pub rows_to : (rows : List Row) → list_all is_row rows ≡ true → are_printable (rows_lines rows) ≡ true
rows_to rows h = all_inner row_lines rows ∙ implied is_row is_row (λ row. are_printable (row_lines row)) (λ row a b. row_to row a) rows h h
