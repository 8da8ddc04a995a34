-- A text is the print of at most one list of rows.
use Rattle.std.proofs.Common.{◌≡◌, ◌^◌, true, ◌&&◌, List, [], ◌∷◌, map, refl, ap, sym, ◌∙◌, arith}
use Rattle.std.specs.Prelude.{nat_le}
use Rattle.std.specs.List.{list_all}
use Rattle.std.proofs.lemmas.Bool.{lt-ltb, leb-true, and_from, and_parts}
use Rattle.std.proofs.lemmas.List.Folds.{flat_map-map}
use Rattle.mdns_history.specs.EntryText.{entry_text}
use Rattle.mdns_history.specs.Typed.{is_typed_entry, is_printed, Printed, printed_text}
use Rattle.mdns_history.proofs.EntryTexts.{one_to_one}
use Rattle.mdns_script.specs.Writable.{is_daemon}
use Rattle.mdns_lines.specs.Printable.{event_has_text}
use Rattle.mdns_transcript.specs.declared.row.Row.{Row}
use Rattle.mdns_transcript.specs.Rows.{is_written, is_row, rows_text, IsPrintOfOne}

abbrev printed : Row → Printed
printed row = record { daemon = row.daemon; entry = row.entry }

abbrev row_of : Printed → Row
row_of p = record { daemon = p.daemon; entry = p.entry }

back : (rows : List Row) → map row_of (map printed rows) ≡ rows
back [] = refl
back (row ∷ rows) = ap (λ (l : List Row). row ∷ l) (back rows)

row_printed : (row : Row) → is_row row ≡ true → is_printed (printed row) ≡ true
row_printed row h =
    let a = and_parts (is_daemon row.daemon && is_typed_entry row.entry && event_has_text row.entry.event) (list_all is_written row.entry.sent) h in
    let b = and_parts (is_daemon row.daemon && is_typed_entry row.entry) (event_has_text row.entry.event) a.0 in
    let c = and_parts (is_daemon row.daemon) (is_typed_entry row.entry) b.0 in
    let d = and_parts (nat_le 1 row.daemon) (nat_le row.daemon 16) c.0 in
    and_from _ _ (lt-ltb row.daemon (2 ^ 32) (omega (arith, leb-true row.daemon 16 d.1))) (and_from _ _ c.1 a.1)

all_printed : (rows : List Row) → list_all is_row rows ≡ true → list_all is_printed (map printed rows) ≡ true
all_printed [] h = refl
all_printed (row ∷ rows) h = let p = and_parts (is_row row) (list_all is_row rows) h in and_from _ _ (row_printed row p.0) (all_printed rows p.1)

same_text : (rows : List Row) → printed_text (map printed rows) ≡ rows_text rows
same_text rows = flat_map-map (λ (p : Printed). entry_text p.daemon p.entry) printed rows

pub print_of_one : IsPrintOfOne
print_of_one text left right p q =
    let same : map printed left ≡ map printed right =
    one_to_one (map printed left) (map printed right) (all_printed left p.are_rows) (all_printed right q.are_rows) (same_text left ∙ p.printed ∙ sym q.printed ∙ sym (same_text right)) in
    sym (back left) ∙ ap (map row_of) same ∙ back right
