-- The text of rows is that of their lines, one behind the other.
use Rattle.std.proofs.Common.{◌≡◌, ℕ, List, [], ◌∷◌, ◌++◌, map, length, codes, refl, ap, ◌∙◌, append-nil}
use Rattle.std.specs.List.{flat_map}
use Rattle.std.proofs.lemmas.List.Concat.{flat_map-append}
use Rattle.dns_record.specs.declared.record.Rr.{Rr}
use Rattle.dns_message.specs.declared.message.Message.{Message}
use Rattle.sd_call.specs.CallText.{item_text}
use Rattle.mdns_history.specs.declared.entry.Sent.{Sent}
use Rattle.mdns_history.specs.declared.entry.Outcome.{Outcome}
use Rattle.mdns_history.specs.declared.entry.Outcome.TheVariants as outcome
use Rattle.mdns_history.specs.EntryText as texts
use Rattle.mdns_print.specs.declared.line.Section.{Section}
use Rattle.mdns_print.specs.declared.line.Section.TheVariants.{Answers, Authority, Additional}
use Rattle.mdns_print.specs.declared.line.Line.{Line}
use Rattle.mdns_print.specs.declared.line.Line.TheVariants as lines
use Rattle.mdns_print.specs.LineText.{line_text, letter}
use Rattle.mdns_transcript.specs.declared.row.Row.{Row}
use Rattle.mdns_transcript.specs.Rows.{row_text, rows_text}
use Rattle.mdns_transcript.specs.RowLines.{message_lines, sent_lines, outcome_lines, row_lines, rows_lines}

-- the text of lines
abbrev pub text_of : List Line → List ℕ
text_of ls = flat_map line_text ls

pub text_joined : (xs ys : List Line) → text_of (xs ++ ys) ≡ text_of xs ++ text_of ys
text_joined xs ys = flat_map-append line_text xs ys

-- lines that are made from a list
of_each : {X : Type 0} (make : X → Line) (text : X → List ℕ) → ((x : X) → line_text (make x) ≡ text x) → (xs : List X) → text_of (map make xs) ≡ flat_map text xs
of_each make text same [] = refl
of_each make text same (x ∷ xs) = λ i. same x i ++ of_each make text same xs i

of_all : {X : Type 0} (inner : X → List Line) (text : X → List ℕ) → ((x : X) → text_of (inner x) ≡ text x) → (xs : List X) → text_of (flat_map inner xs) ≡ flat_map text xs
of_all inner text same [] = refl
of_all inner text same (x ∷ xs) = text_joined (inner x) (flat_map inner xs) ∙ (λ i. same x i ++ of_all inner text same xs i)

section_text : (section : Section) (rrs : List Rr) → text_of (map (λ rr. lines.Record section rr) rrs) ≡ texts.section_lines (letter section) rrs
section_text section [] = refl
section_text section (rr ∷ rrs) = ap (λ (t : List ℕ). line_text (lines.Record section rr) ++ t) (section_text section rrs)

message_text : (m : Message) → text_of (message_lines m) ≡ texts.message_lines m
message_text m =
    let q = map (λ question. lines.Question question) m.questions in
    let a = map (λ rr. lines.Record Answers rr) m.answers in
    let n = map (λ rr. lines.Record Authority rr) m.authority in
    let x = map (λ rr. lines.Record Additional rr) m.additional in
    let eq = of_each (λ question. lines.Question question) texts.question_line (λ question. refl) m.questions in
    let ea = section_text Answers m.answers in
    let en = section_text Authority m.authority in
    let ex = section_text Additional m.additional in
    text_joined ((q ++ a) ++ n) x
    ∙ ap (λ (t : List ℕ). t ++ text_of x) (text_joined (q ++ a) n ∙ ap (λ (t : List ℕ). t ++ text_of n) (text_joined q a))
    ∙ (λ i. ((eq i ++ ea i) ++ en i) ++ ex i)

sent_text : (sent : Sent) → text_of (sent_lines sent) ≡ texts.sent_lines sent
sent_text sent = ap (λ (t : List ℕ). line_text (lines.Sent sent.to sent.message.response sent.message.id sent.message.truncated) ++ t) (message_text sent.message)

outcome_text : (o : Outcome) → text_of (outcome_lines o) ≡ texts.outcome_lines o
outcome_text outcome.Done = refl
outcome_text (outcome.Opened session) = append-nil _
outcome_text outcome.Full = append-nil _
outcome_text outcome.Ended = append-nil _
outcome_text outcome.Closed = append-nil _
outcome_text outcome.Cut = append-nil _
outcome_text (outcome.Code code) = append-nil _
outcome_text (outcome.Items items) =
    ap (λ (t : List ℕ). line_text (lines.Count (length items)) ++ t) (of_each (λ item. lines.Item item) (λ item. texts.line (codes "  " ++ item_text item)) (λ item. refl) items)
outcome_text outcome.Empty = append-nil _

row_is : (row : Row) → text_of (row_lines row) ≡ row_text row
row_is row =
    let e = row.entry in
    let h = lines.Head row.daemon e.moment e.word e.event ∷ [] in
    let m = map (λ mark. lines.Mark mark) e.marks in
    let s = flat_map sent_lines e.sent in
    let g = map (λ given. lines.Given given) e.given in
    let o = outcome_lines e.outcome in
    let eh : text_of h ≡ texts.head_line row.daemon e = append-nil _ in
    let em = of_each (λ mark. lines.Mark mark) texts.mark_line (λ mark. refl) e.marks in
    let es = of_all sent_lines texts.sent_lines sent_text e.sent in
    let eg = of_each (λ given. lines.Given given) texts.given_line (λ given. refl) e.given in
    let eo = outcome_text e.outcome in
    text_joined (((h ++ m) ++ s) ++ g) o
    ∙ ap (λ (t : List ℕ). t ++ text_of o)
    (text_joined ((h ++ m) ++ s) g ∙ ap (λ (t : List ℕ). t ++ text_of g) (text_joined (h ++ m) s ∙ ap (λ (t : List ℕ). t ++ text_of s) (text_joined h m)))
    ∙ (λ i. (((eh i ++ em i) ++ es i) ++ eg i) ++ eo i)

pub rows_are : (rows : List Row) → text_of (rows_lines rows) ≡ rows_text rows
rows_are rows = of_all row_lines row_text row_is rows
