-- Entries that grow by lines.
use Rattle.std.proofs.Common.{◌≡◌, ℕ, Bool, true, false, ◌&&◌, List, [], ◌∷◌, ◌++◌, map, length, Option, Some, None, refl, ap, sym, ◌∙◌, arith, append_assoc, append-nil, subst}
use Rattle.std.specs.Prelude.{nat_le, ◌==◌, Result, Ok, Err, IfOk, IsTrue}
use Rattle.std.specs.List.{list_all, flat_map}
use Rattle.std.proofs.lemmas.Bool.{le-leb, eqb-true, and_from, and_parts}
use Rattle.std.proofs.lemmas.List.Concat.{flat_map-append}
use Rattle.std.proofs.lemmas.List.Folds.{list_all-append}
use Rattle.dns_record.specs.declared.record.Question.{Question}
use Rattle.dns_record.specs.declared.record.Rr.{Rr}
use Rattle.dns_message.specs.declared.message.Message.{Message}
use Rattle.mdns_history.specs.declared.event.Event.{Event}
use Rattle.mdns_history.specs.declared.entry.Sent.{Sent}
use Rattle.mdns_history.specs.declared.entry.Given.{Given}
use Rattle.mdns_history.specs.Typed.{has_written_header}
use Rattle.mdns_print.specs.declared.line.Section.{Section}
use Rattle.mdns_print.specs.declared.line.Line.{Line}
use Rattle.mdns_print.specs.declared.line.Line.TheVariants as lines
use Rattle.mdns_transcript.specs.declared.draft.End.{End}
use Rattle.mdns_transcript.specs.declared.draft.End.TheVariants as ends
use Rattle.mdns_transcript.specs.declared.draft.Draft.{Draft}
use Rattle.mdns_transcript.specs.Rows.{is_written}
use Rattle.mdns_transcript.specs.RowLines.{message_lines, sent_lines}
use Rattle.mdns_transcript.specs.Stages.{Stage, Before, Upto, place, onward, next}
use Rattle.mdns_transcript.specs.Messages.{with_question, with_record}
use Rattle.mdns_transcript.specs.Drafts.{reach, place_of, stage_at, draft_stage, end_open, is_sending, all_sent, end_lines, draft_lines, is_head, IsDraft, IsGrown, IsAdded}
use Rattle.mdns_transcript.proofs.Growing.{one_at, question_lines, reach_some, record_header, record_lines, record_reach, with_same}

-- ---- an entry that grows

open_end : (e : End) → end_open e ≡ true → e ≡ ends.Open
open_end ends.Open h = refl
open_end (ends.Told outcome) h = absurd (cc)
open_end (ends.Items items left) h = absurd (cc)

none_given : (g : List Given) → (length g == 0) ≡ true → g ≡ []
none_given [] h = refl
none_given (one ∷ g) h = absurd (omega (arith, eqb-true (length (one ∷ g)) 0 h))

record IsSending (d : Draft) : Type 0 where
  end : d.end ≡ ends.Open
  given : d.given ≡ []

sending : (d : Draft) → is_sending d ≡ true → IsSending d
sending d h = let p = and_parts (end_open d.end) (length d.given == 0) h in record { end = open_end d.end p.0; given = none_given d.given p.1 }

-- lists put together with one more element
put_sent : (f s l : List Line) → ((f ++ (s ++ l)) ++ []) ++ [] ≡ (((f ++ s) ++ []) ++ []) ++ l
put_sent f s l = simp (append-nil, append_assoc)

-- an entry before its outcome that gave nothing comes as far as its message
sending_stage : (d : Draft) → IsSending d → draft_stage d ≡ Upto (place_of d.message [])
sending_stage d s = λ i. stage_at (s.end i) (place_of d.message (s.given i))

message_stage : (d : Draft) (sent : Sent) → IsSending d → d.message ≡ Some sent → draft_stage d ≡ Upto (reach sent.message)
message_stage d sent s e = sending_stage d s ∙ ap (λ (message : Option Sent). Upto (place_of message [])) e

-- one more line of messages
sent_grown : (d : Draft) (sent : List Sent) (message : Option Sent) (l : Line) → IsSending d → flat_map sent_lines (all_sent sent message) ≡ flat_map sent_lines (all_sent d.sent d.message) ++ l ∷ []
    → draft_lines (record d { sent = sent; message = message }) ≡ draft_lines d ++ l ∷ []
sent_grown d sent message l s e =
    let front = (lines.Head d.daemon d.moment d.word d.event ∷ []) ++ map (λ mark. lines.Mark mark) d.marks in
    let all = flat_map sent_lines (all_sent d.sent d.message) in
    let before : draft_lines d ≡ ((front ++ all) ++ []) ++ [] = λ i. ((front ++ all) ++ map (λ given. lines.Given given) (s.given i)) ++ end_lines (s.end i) in
    let after : draft_lines (record d { sent = sent; message = message }) ≡ ((front ++ (all ++ l ∷ [])) ++ []) ++ [] =
    λ i. ((front ++ e i) ++ map (λ given. lines.Given given) (s.given i)) ++ end_lines (s.end i) in
    after ∙ put_sent front all (l ∷ []) ∙ ap (λ (ls : List Line). ls ++ l ∷ []) (sym before)

sent_last : (sent : List Sent) (one : Sent) → flat_map sent_lines (sent ++ one ∷ []) ≡ flat_map sent_lines sent ++ sent_lines one
sent_last sent one = flat_map-append sent_lines sent (one ∷ []) ∙ ap (λ (ls : List Line). flat_map sent_lines sent ++ ls) (append-nil (sent_lines one))

-- the last message of an entry with one more line
message_put : (d : Draft) (old : Sent) (m : Message) (l : Line) (to : ℕ) → IsDraft d → is_sending d ≡ true → d.message ≡ Some old → message_lines m ≡ message_lines old.message ++ l ∷ []
    → m.id ≡ old.message.id → m.response ≡ old.message.response → m.truncated ≡ old.message.truncated → has_written_header m ≡ has_written_header old.message → reach m ≡ to
    → next l (Upto (reach old.message)) ≡ Some (Upto to) → IsGrown d l (record d { message = Some (record old { message = m }) })
message_put d old m l to is h some grows id response truncated header reached goes =
    let new : Sent = record old { message = m } in
    let sends = sending d h in
    let all : all_sent d.sent d.message ≡ d.sent ++ old ∷ [] = ap (all_sent d.sent) some in
    let one : sent_lines new ≡ sent_lines old ++ l ∷ [] = λ i. lines.Sent old.to (response i) (id i) (truncated i) ∷ grows i in
    let flat : flat_map sent_lines (d.sent ++ new ∷ []) ≡ flat_map sent_lines (all_sent d.sent d.message) ++ l ∷ [] =
    sent_last d.sent new ∙ ap (λ (ls : List Line). flat_map sent_lines d.sent ++ ls) one ∙ sym (append_assoc (flat_map sent_lines d.sent) (sent_lines old) (l ∷ []))
    ∙ ap (λ (ls : List Line). ls ++ l ∷ []) (sym (sent_last d.sent old) ∙ ap (flat_map sent_lines) (sym all)) in
    let parts = and_parts (list_all is_written d.sent) (is_written old && true) (sym (list_all-append is_written d.sent (old ∷ [])) ∙ ap (list_all is_written) (sym all) ∙ is.written) in
    record {
      stage = ap (next l) (message_stage d old sends some) ∙ goes ∙ ap (λ (n : ℕ). Some (Upto n)) (sym reached) ∙ ap Some (sym (λ i. stage_at (sends.end i) (place_of (Some new) (sends.given i))));
      put = sent_grown d d.sent (Some new) l sends flat;
      is = record {
        first = λ (none : Some new ≡ None). absurd (cc);
        written = list_all-append is_written d.sent (new ∷ []) ∙ and_from _ _ parts.0 (and_from _ _ (header ∙ (and_parts (is_written old) true parts.1).0) refl);
      };
    }

pub question_put : (d : Draft) (old : Sent) (q : Question) → IsDraft d → is_sending d ≡ true → d.message ≡ Some old → nat_le (reach old.message) 1 ≡ true →
    IsGrown d (lines.Question q) (record d { message = Some (record old { message = with_question q old.message }) })
question_put d old q is h some low =
    let one : reach old.message ≡ 1 = one_at (reach old.message) (reach_some old.message).0 low in
    message_put d old (with_question q old.message) (lines.Question q) 1 is h some (question_lines q old.message low) refl refl refl refl one (ap (λ (n : ℕ). next (lines.Question q) (Upto n)) one)

pub record_put : (d : Draft) (old : Sent) (section : Section) (rr : Rr) → IsDraft d → is_sending d ≡ true → d.message ≡ Some old → nat_le (reach old.message) (place section) ≡ true →
    IsGrown d (lines.Record section rr) (record d { message = Some (record old { message = with_record section rr old.message }) })
record_put d old section rr is h some low =
    let same = with_same section rr old.message in
    message_put d old (with_record section rr old.message) (lines.Record section rr) (place section) is h some (record_lines section rr old.message low) same.0 same.1 same.2
    (record_header section rr old.message) (record_reach section rr old.message low) (rw (and_from _ _ (le-leb 1 (reach old.message) (reach_some old.message).0) low) refl)

and_false : (a b : Bool) → b ≡ false → (a && b) ≡ false
and_false true b h = h
and_false false b h = refl

-- lines of a message may not follow behind a later section
pub past_section : (d : Draft) (sent : Sent) (most : ℕ) (later : Stage) → is_sending d ≡ true → d.message ≡ Some sent → nat_le (reach sent.message) most ≡ false → onward (λ at. nat_le 1 at && nat_le at most) later (draft_stage d) ≡ None
past_section d sent most later h some high =
    ap (onward (λ at. nat_le 1 at && nat_le at most) later) (message_stage d sent (sending d h) some) ∙ rw (and_false (nat_le 1 (reach sent.message)) (nat_le (reach sent.message) most) high) refl

pub question_added : (d : Draft) (old : Sent) (q : Question) (b : Bool) (m : Message) → IsDraft d → is_sending d ≡ true → d.message ≡ Some old → b ≡ nat_le (reach old.message) 1
    → (b ≡ true → m ≡ with_question q old.message) → IsAdded d (lines.Question q) b (record d { message = Some (record old { message = m }) })
question_added d old q true m is h some fits put =
    subst (λ (n : Message). IsGrown d (lines.Question q) (record d { message = Some (record old { message = n }) })) (sym (put refl)) (question_put d old q is h some (sym fits))
question_added d old q false m is h some fits put = past_section d old 1 (Upto 1) h some (sym fits)

pub record_added : (d : Draft) (old : Sent) (section : Section) (rr : Rr) (b : Bool) (m : Message) → IsDraft d → is_sending d ≡ true → d.message ≡ Some old → b ≡ nat_le (reach old.message) (place section)
    → (b ≡ true → m ≡ with_record section rr old.message) → IsAdded d (lines.Record section rr) b (record d { message = Some (record old { message = m }) })
record_added d old section rr true m is h some fits put =
    subst (λ (n : Message). IsGrown d (lines.Record section rr) (record d { message = Some (record old { message = n }) })) (sym (put refl)) (record_put d old section rr is h some (sym fits))
record_added d old section rr false m is h some fits put = past_section d old (place section) (Upto (place section)) h some (sym fits)

-- what a call answers, which adds a line to the last message
pub question_answered : {E : Type 0} (d : Draft) (old : Sent) (q : Question) (m : Message) (r : Result Bool E) → IsDraft d → is_sending d ≡ true → d.message ≡ Some old
    → IfOk r (λ fits. fits ≡ nat_le (reach old.message) 1) → IfOk r (λ fits. IsTrue fits → m ≡ with_question q old.message)
    → IfOk r (λ added. IsAdded d (lines.Question q) added (record d { message = Some (record old { message = m }) }))
question_answered d old q m (Ok b) is h some fits put = question_added d old q b m is h some fits put
question_answered d old q m (Err e) is h some fits put = tt

pub record_answered : {E : Type 0} (d : Draft) (old : Sent) (section : Section) (rr : Rr) (m : Message) (r : Result Bool E) → IsDraft d → is_sending d ≡ true → d.message ≡ Some old
    → IfOk r (λ fits. fits ≡ nat_le (reach old.message) (place section)) → IfOk r (λ fits. IsTrue fits → m ≡ with_record section rr old.message)
    → IfOk r (λ added. IsAdded d (lines.Record section rr) added (record d { message = Some (record old { message = m }) }))
record_answered d old section rr m (Ok b) is h some fits put = record_added d old section rr b m is h some fits put
record_answered d old section rr m (Err e) is h some fits put = tt

-- only the first line of an entry may stand before all entries
pub no_entry_yet : (l : Line) → is_head l ≡ false → next l Before ≡ None
no_entry_yet (lines.Head daemon moment word event) h = absurd (cc)
no_entry_yet (lines.Mark mark) h = refl
no_entry_yet (lines.Sent to response id truncated) h = refl
no_entry_yet (lines.Question question) h = refl
no_entry_yet (lines.Record section rr) h = refl
no_entry_yet (lines.Given given) h = refl
no_entry_yet (lines.Ending ending) h = refl
no_entry_yet (lines.Count count) h = refl
no_entry_yet (lines.Item item) h = refl

pub no_head : (l : Line) → ((daemon moment word : ℕ) (event : Event) → l ≡ lines.Head daemon moment word event → ⊥) → is_head l ≡ false
no_head (lines.Head daemon moment word event) other = absurd (other daemon moment word event refl)
no_head (lines.Mark mark) other = refl
no_head (lines.Sent to response id truncated) other = refl
no_head (lines.Question question) other = refl
no_head (lines.Record section rr) other = refl
no_head (lines.Given given) other = refl
no_head (lines.Ending ending) other = refl
no_head (lines.Count count) other = refl
no_head (lines.Item item) other = refl
