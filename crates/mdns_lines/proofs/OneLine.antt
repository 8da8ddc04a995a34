-- A line that can be printed has no control characters, so it has one line feed, at its end.
use Rattle.std.proofs.Common.{◌≡◌, ℕ, ◌^◌, Bool, true, false, eqb, ltb, List, [], ◌∷◌, ◌++◌, Some, refl, ap, ◌∙◌, arith, append_assoc, codes}
use Rattle.std.specs.Prelude.{decimal, nat_le}
use Rattle.std.specs.Fmt.{signed_decimal}
use Rattle.std.proofs.lemmas.Bool.{and_parts, lt-ltb, leb-true}
use Rattle.std.proofs.lemmas.Bool.Decides.{nat_tests}
use Rattle.number_text.specs.Cut.{cut_of}
use Rattle.number_text.proofs.Joined.{lacks, cut_of-joined}
use Rattle.dns_name.specs.NameText.{name_text}
use Rattle.dns_record.specs.RecordText.{space, kind_text, record_text}
use Rattle.dns_record.specs.declared.record.Question.{Question}
use Rattle.dns_record.specs.declared.record.Rr.{Rr}
use Rattle.dns_message.specs.Writing.{is_below, is_spellable_name, is_spellable_question, is_spellable_record}
use Rattle.sd_call.specs.CallText.{item_text}
use Rattle.mdns_base.specs.declared.host.Dest.{Dest}
use Rattle.mdns_history.specs.declared.event.Event.{Event}
use Rattle.mdns_history.specs.declared.entry.Given.{Given}
use Rattle.mdns_history.specs.EntryText.{event_text, mark_text, dest_text, way_text, word_if}
use Rattle.mdns_history.specs.Typed.{is_typed_event, is_typed_dest, is_typed_item, is_typed_given, is_typed_outcome}
use Rattle.mdns_history.proofs.Texts.{in_line, line_joined, seen_line}
use Rattle.mdns_history.proofs.TokenTexts.{below, name_seen, signed_seen}
use Rattle.mdns_history.proofs.RecordTexts.{kind_seen, number_line, record_line}
use Rattle.mdns_history.proofs.CallTexts.{item_line}
use Rattle.mdns_history.proofs.EventTexts.{event_line, mark_content, dest_line}
use Rattle.mdns_script.specs.Writable.{is_daemon}
use Rattle.mdns_print.specs.declared.line.Section.{Section}
use Rattle.mdns_print.specs.declared.line.Section.TheVariants.{Answers, Authority, Additional}
use Rattle.mdns_print.specs.declared.line.Ending.{Ending}
use Rattle.mdns_print.specs.declared.line.Ending.TheVariants.{Opened, Full, Ended, Closed, Cut, Code, Empty}
use Rattle.mdns_print.specs.declared.line.Line.{Line}
use Rattle.mdns_print.specs.declared.line.Line.TheVariants as lines
use Rattle.mdns_print.specs.LineText.{letter, outcome_of, line_text}
use Rattle.mdns_lines.specs.Printable.{event_has_text, is_printable_line}
use Rattle.mdns_lines.proofs.LinesBack.{ending_text, content, shown, is_head}

daemon_line : (daemon : ℕ) → is_daemon daemon ≡ true → in_line (decimal daemon) ≡ true
daemon_line daemon h =
    let p = and_parts (nat_le 1 daemon) (nat_le daemon 16) h in number_line 64 daemon (lt-ltb daemon (2 ^ 64) (omega (arith, leb-true daemon 16 p.1))) (omega arith)

head_in_line : (daemon moment word : ℕ) (event : Event) → is_printable_line (lines.Head daemon moment word event) ≡ true → in_line (content (lines.Head daemon moment word event)) ≡ true
head_in_line daemon moment word event h =
    let p = is_head daemon moment word (is_typed_event event) (event_has_text event) h in
    let a = codes "@" ++ decimal moment in
    let b = (a ++ codes " d") ++ decimal daemon in
    let c = (b ++ codes " w") ++ decimal word in
    line_joined (c ++ space) (event_text event)
    (line_joined c space
    (line_joined (b ++ codes " w") (decimal word)
    (line_joined b (codes " w")
    (line_joined (a ++ codes " d") (decimal daemon)
    (line_joined a (codes " d") (line_joined (codes "@") (decimal moment) refl (number_line 64 moment p.moment_fits (omega arith))) refl)
    (daemon_line daemon p.daemon_fits)) refl)
    (number_line 32 word p.word_fits (omega arith))) refl)
    (event_line event p.event_fits)

way_line : (r : Bool) → in_line (way_text r) ≡ true
way_line true = refl
way_line false = refl

tc_line : (t : Bool) → in_line (word_if t (codes " tc")) ≡ true
tc_line true = refl
tc_line false = refl

qu_line : (t : Bool) → in_line (word_if t (codes " qu")) ≡ true
qu_line true = refl
qu_line false = refl

sent_in_line : (to : Dest) (response : Bool) (id : ℕ) (truncated : Bool) → is_typed_dest to ≡ true → is_below 16 id ≡ true → in_line (content (lines.Sent to response id truncated)) ≡ true
sent_in_line to response id truncated h k =
    line_joined (((codes " > " ++ dest_text to) ++ way_text response) ++ decimal id) (word_if truncated (codes " tc"))
    (line_joined ((codes " > " ++ dest_text to) ++ way_text response) (decimal id)
    (line_joined (codes " > " ++ dest_text to) (way_text response) (line_joined (codes " > ") (dest_text to) refl (dest_line to h)) (way_line response))
    (number_line 16 id k (omega arith)))
    (tc_line truncated)

question_in_line : (q : Question) → is_spellable_question q ≡ true → in_line (content (lines.Question q)) ≡ true
question_in_line q h =
    let p = and_parts (is_spellable_name q.name) (is_below 16 q.kind) h in
    line_joined (((codes "  ? " ++ name_text q.name) ++ space) ++ kind_text q.kind) (word_if q.unicast (codes " qu"))
    (line_joined ((codes "  ? " ++ name_text q.name) ++ space) (kind_text q.kind)
    (line_joined (codes "  ? " ++ name_text q.name) space (line_joined (codes "  ? ") (name_text q.name) refl (seen_line (name_text q.name) (name_seen q.name))) refl)
    (seen_line (kind_text q.kind) (kind_seen q.kind (below 16 q.kind p.1))))
    (qu_line q.unicast)

letter_line : (section : Section) → in_line (letter section) ≡ true
letter_line Answers = refl
letter_line Authority = refl
letter_line Additional = refl

record_in_line : (section : Section) (rr : Rr) → is_spellable_record rr ≡ true → in_line (content (lines.Record section rr)) ≡ true
record_in_line section rr h =
    line_joined ((codes "  " ++ letter section) ++ space) (record_text rr) (line_joined (codes "  " ++ letter section) space (line_joined (codes "  ") (letter section) refl (letter_line section)) refl) (record_line rr h)

given_in_line : (g : Given) → is_typed_given g ≡ true → in_line (content (lines.Given g)) ≡ true
given_in_line g h =
    let p = and_parts (is_below 64 g.session) (is_typed_item g.item) h in
    line_joined ((codes " < " ++ decimal g.session) ++ space) (item_text g.item)
    (line_joined (codes " < " ++ decimal g.session) space (line_joined (codes " < ") (decimal g.session) refl (number_line 64 g.session p.0 (omega arith))) refl) (item_line g.item p.1)

ending_in_line : (e : Ending) → is_typed_outcome (outcome_of e) ≡ true → in_line (ending_text e) ≡ true
ending_in_line (Opened session) h = line_joined (codes "opened ") (decimal session) refl (number_line 64 session h (omega arith))
ending_in_line Full h = refl
ending_in_line Ended h = refl
ending_in_line Closed h = refl
ending_in_line Cut h = refl
ending_in_line (Code code) h = line_joined (codes "code ") (signed_decimal code) refl (seen_line (signed_decimal code) (signed_seen code h))
ending_in_line Empty h = refl

content_in_line : (l : Line) → is_printable_line l ≡ true → in_line (content l) ≡ true
content_in_line (lines.Head daemon moment word event) h = head_in_line daemon moment word event h
content_in_line (lines.Mark mark) h = line_joined (codes " ! ") (mark_text mark) refl (mark_content mark h)
content_in_line (lines.Sent to response id truncated) h = let p = and_parts (is_typed_dest to) (is_below 16 id) h in sent_in_line to response id truncated p.0 p.1
content_in_line (lines.Question q) h = question_in_line q h
content_in_line (lines.Record section rr) h = record_in_line section rr h
content_in_line (lines.Given g) h = given_in_line g h
content_in_line (lines.Ending ending) h = line_joined (codes " = ") (ending_text ending) refl (ending_in_line ending h)
content_in_line (lines.Count count) h = line_joined (codes " = ") (codes "items " ++ decimal count) refl (line_joined (codes "items ") (decimal count) refl (number_line 64 count h (omega arith)))
content_in_line (lines.Item item) h = line_joined (codes "  ") (item_text item) refl (item_line item h)

no_feed : (t : List ℕ) → in_line t ≡ true → lacks 10 t ≡ false
no_feed [] h = refl
no_feed (b ∷ t) h = let p = and_parts (ltb 31 b) (in_line t) h in rw (above b p.0, no_feed t p.1) refl
  where
    above : (b : ℕ) → ltb 31 b ≡ true → eqb b 10 ≡ false
    above b h = grind (arith, nat_tests)

-- the first line of a text that begins with the print of a line is that line's
pub line_cut : (l : Line) (rest : List ℕ) → is_printable_line l ≡ true → cut_of 10 (line_text l ++ rest) ≡ Some (content l, rest)
line_cut l rest h =
    ap (λ (t : List ℕ). cut_of 10 (t ++ rest)) (shown l) ∙ ap (cut_of 10) (append_assoc (content l) (10 ∷ []) rest) ∙ cut_of-joined 10 (content l) rest (no_feed (content l) (content_in_line l h))
