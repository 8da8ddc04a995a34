-- An entry that was read in part may become a row, so what was read is the beginning of the print of some rows.
use Rattle.std.proofs.Common.{◌≡◌, ℕ, zero, suc, pos, ◌+◌, true, List, [], ◌∷◌, ◌++◌, map, length, Option, Some, None, refl, ap, sym, ◌∙◌, append_assoc, append-nil, length-append}
use Rattle.std.specs.List.{list_all, flat_map}
use Rattle.std.proofs.lemmas.Bool.{and_from}
use Rattle.std.proofs.lemmas.List.{map-append}
use Rattle.std.proofs.lemmas.List.Concat.{flat_map-append}
use Rattle.std.proofs.lemmas.List.Folds.{list_all-append}
use Rattle.sd_call.specs.declared.item.Item.{Item}
use Rattle.sd_call.specs.declared.item.Item.TheVariants.{Reply}
use Rattle.sd_call.specs.declared.request.Verb.TheVariants as verb
use Rattle.mdns_history.specs.declared.entry.Outcome.{Outcome}
use Rattle.mdns_history.specs.declared.entry.Outcome.TheVariants as outcome
use Rattle.mdns_print.specs.declared.line.Line.{Line}
use Rattle.mdns_print.specs.declared.line.Line.TheVariants as lines
use Rattle.mdns_transcript.specs.declared.row.Row.{Row}
use Rattle.mdns_transcript.specs.declared.draft.End.{End}
use Rattle.mdns_transcript.specs.declared.draft.End.TheVariants as ends
use Rattle.mdns_transcript.specs.declared.draft.Draft.{Draft}
use Rattle.mdns_transcript.specs.RowLines.{sent_lines, outcome_lines, row_lines, rows_lines}
use Rattle.mdns_transcript.specs.Drafts.{all_sent, end_lines, draft_lines, IsDraftOrNone, lines_of, sends_written}
use Rattle.mdns_transcript.proofs.RowTypes.{are_printable, printable_joined, rows_from}
use Rattle.mdns_transcript.proofs.Bad.{IsBegun}

-- an item, and so many of it
abbrev some_item : Item
some_item = Reply 0 verb.Start (pos 0)

abbrev items_left : ℕ → List Item
items_left zero = []
items_left (suc n) = some_item ∷ items_left n

left_length : (n : ℕ) → length (items_left n) ≡ n
left_length zero = refl
left_length (suc n) = ap suc (left_length n)

left_printable : (n : ℕ) → are_printable (map (λ item. lines.Item item) (items_left n)) ≡ true
left_printable zero = refl
left_printable (suc n) = left_printable n

abbrev completed : End → Outcome
completed ends.Open = outcome.Done
completed (ends.Told outcome) = outcome
completed (ends.Items items left) = outcome.Items (items ++ items_left left)

abbrev wanting : End → List Line
wanting ends.Open = []
wanting (ends.Told outcome) = []
wanting (ends.Items items left) = map (λ item. lines.Item item) (items_left left)

wanting_printable : (end : End) → are_printable (wanting end) ≡ true
wanting_printable ends.Open = refl
wanting_printable (ends.Told outcome) = refl
wanting_printable (ends.Items items left) = left_printable left

completed_lines : (end : End) → outcome_lines (completed end) ≡ end_lines end ++ wanting end
completed_lines ends.Open = refl
completed_lines (ends.Told outcome) = sym (append-nil (outcome_lines outcome))
completed_lines (ends.Items items left) =
    let count : length (items ++ items_left left) ≡ length items + left = length-append items (items_left left) ∙ ap (λ (n : ℕ). length items + n) (left_length left) in
    λ i. lines.Count (count i) ∷ map-append (λ item. lines.Item item) items (items_left left) i

-- the row that an entry may become
abbrev row_of : Draft → Row
row_of d =
    record {
      daemon = d.daemon;
      entry = record {
        moment = d.moment;
        word = d.word;
        event = d.event;
        marks = d.marks;
        sent = all_sent d.sent d.message;
        given = d.given;
        outcome = completed d.end;
      };
    }

-- the lines of an entry before its outcome
abbrev pub front_lines : Draft → List Line
front_lines d =
    (lines.Head d.daemon d.moment d.word d.event ∷ []) ++ map (λ mark. lines.Mark mark) d.marks ++ flat_map sent_lines (all_sent d.sent d.message) ++ map (λ given. lines.Given given) d.given

row_of_lines : (d : Draft) → row_lines (row_of d) ≡ draft_lines d ++ wanting d.end
row_of_lines d = ap (λ (ls : List Line). front_lines d ++ ls) (completed_lines d.end) ∙ sym (append_assoc (front_lines d) (end_lines d.end) (wanting d.end))

rows_joined : (rows more : List Row) → rows_lines (rows ++ more) ≡ rows_lines rows ++ rows_lines more
rows_joined rows more = flat_map-append row_lines rows more

-- what was read is the beginning of the print of some rows
pub begun_rows : (rows : List Row) (draft : Option Draft) → list_all sends_written rows ≡ true → IsDraftOrNone draft → are_printable (rows_lines rows ++ lines_of draft) ≡ true → IsBegun (rows_lines rows ++ lines_of draft)
begun_rows rows None w is h =
    record {
      rows = rows;
      more = [];
      are_rows = rows_from rows (ap are_printable (sym (append-nil (rows_lines rows))) ∙ h) w;
      is = sym (append-nil (rows_lines rows)) ∙ sym (append-nil (rows_lines rows ++ []));
    }
begun_rows rows (Some d) w is h =
    let row = row_of d in
    let one : rows_lines (row ∷ []) ≡ draft_lines d ++ wanting d.end = append-nil (row_lines row) ∙ row_of_lines d in
    let all : rows_lines (rows ++ row ∷ []) ≡ (rows_lines rows ++ draft_lines d) ++ wanting d.end =
    rows_joined rows (row ∷ []) ∙ ap (λ (ls : List Line). rows_lines rows ++ ls) one ∙ sym (append_assoc (rows_lines rows) (draft_lines d) (wanting d.end)) in
    record {
      rows = rows ++ row ∷ [];
      more = wanting d.end;
      are_rows = rows_from (rows ++ row ∷ []) (ap are_printable all ∙ printable_joined (rows_lines rows ++ draft_lines d) (wanting d.end) h (wanting_printable d.end))
          (list_all-append sends_written rows (row ∷ []) ∙ and_from _ _ w (and_from _ _ is.written refl));
      is = all;
    }
