-- Texts that are the print of no rows, and the line at which that is seen.
use Rattle.std.proofs.Common.{◌≡◌, ◌≢◌, ℕ, suc, ◌+◌, ◌-◌, ◌<◌, true, false, List, [], ◌∷◌, ◌++◌, map, length, Some, None, ap, sym, ◌∙◌, inl, inr, arith, subst, append-nil}
use Rattle.std.specs.List.{list_all}
use Rattle.std.proofs.lemmas.Bool.{cases_lt}
use Rattle.number_text.specs.Cut.{cut_of}
use Rattle.mdns_history.specs.EntryText.{line}
use Rattle.mdns_print.specs.declared.line.Line.{Line}
use Rattle.mdns_lines.specs.ReadLines.{line_read}
use Rattle.mdns_lines.proofs.LinesBack.{content, shown, lines_back}
use Rattle.mdns_transcript.specs.declared.row.Row.{Row}
use Rattle.mdns_transcript.specs.Rows.{rows_text, is_row, IsPrintOf}
use Rattle.mdns_transcript.specs.Leading.{first_lines, BeginsPrint, IsBadAt}
use Rattle.mdns_transcript.specs.RowLines.{rows_lines}
use Rattle.mdns_transcript.specs.Stages.{Stage, Before, next, run, is_whole}
use Rattle.mdns_transcript.specs.Drafts.{sends_written}
use Rattle.mdns_transcript.proofs.RowTexts.{text_of, text_joined, rows_are}
use Rattle.mdns_transcript.proofs.RowTypes.{are_printable, rows_from, rows_to}
use Rattle.mdns_transcript.proofs.Runs.{none_next, none_whole}
use Rattle.mdns_transcript.proofs.Fronts.{first_of_print, further, further_lines, no_more, same_lines}

-- the print of some rows begins with these lines
pub record IsBegun (seen : List Line) : Type 0 where
  pub rows : List Row
  pub more : List Line
  pub are_rows : list_all is_row rows ≡ true
  pub is : rows_lines rows ≡ seen ++ more

-- lines of a text were read up to a rest
pub record IsReadTo (text : List ℕ) (seen : List Line) (stage : Stage) (rest : List ℕ) : Type 0 where
  pub text_is : text ≡ text_of seen ++ rest
  pub printable : are_printable seen ≡ true
  pub ran : run seen Before ≡ Some stage

-- and the print of some rows begins with them
pub record AreRead (text : List ℕ) (seen : List Line) (stage : Stage) (rest : List ℕ) : Type 0 where
  pub read : IsReadTo text seen stage rest
  pub begun : IsBegun seen

begins : (text : List ℕ) (seen : List Line) (stage : Stage) (rest : List ℕ) → AreRead text seen stage rest → BeginsPrint text (length seen)
begins text seen stage rest r =
    let print : rows_text r.begun.rows ≡ text_of seen ++ text_of r.begun.more = sym (rows_are r.begun.rows) ∙ ap text_of r.begun.is ∙ text_joined seen r.begun.more in
    record {
      rows = r.begun.rows;
      are_rows = r.begun.are_rows;
      lines = map content seen;
      of_text = ap (first_lines (length seen)) r.read.text_is ∙ first_of_print seen rest r.read.printable;
      of_print = ap (first_lines (length seen)) print ∙ first_of_print seen (text_of r.begun.more) r.read.printable;
    }

bad_from : (text : List ℕ) (seen : List Line) (stage : Stage) (rest : List ℕ) → AreRead text seen stage rest → ((rows : List Row) → IsPrintOf rows text → ⊥)
    → ((count : ℕ) → BeginsPrint text count → count < length seen + 1) → IsBadAt text (length seen + 1)
bad_from text seen stage rest r none most =
    let e : length seen ≡ length seen + 1 - 1 = omega arith in
    record { none = none; begins = subst (λ (n : ℕ). BeginsPrint text n) e (begins text seen stage rest r); most = most }

-- a line that may not follow
pub bad_line : (text : List ℕ) (seen : List Line) (stage : Stage) (rest front after : List ℕ) → AreRead text seen stage rest → cut_of 10 rest ≡ Some (front, after)
    → ((l : Line) → line_read front ≡ Some l → next l stage ≡ None) → IsBadAt text (length seen + 1)
bad_line text seen stage rest front after r cut refused = bad_from text seen stage rest r none most
  where
    -- no rows have the lines and the further one
    none_further : (rows : List Row) (count : ℕ) (lines : List (List ℕ)) → list_all is_row rows ≡ true → length seen < count → first_lines count text ≡ Some lines
        → first_lines count (rows_text rows) ≡ Some lines → ⊥
    none_further rows count lines h less a b =
        let f = further seen (rows_lines rows) count rest front after lines r.read.printable (rows_to rows h) less cut (sym (ap (first_lines count) r.read.text_is) ∙ a) (ap (first_lines count) (rows_are rows) ∙ b) in
        let read : line_read front ≡ Some f.line = lines_back f.line front f.fits (shown f.line ∙ ap line f.text) in
        none_next rows seen f.more f.line stage f.is r.read.ran (refused f.line read)

    most : (count : ℕ) → BeginsPrint text count → count < length seen + 1
    most count b =
        elim (cases_lt (length seen) count) [
          | inl more ↦ absurd (none_further b.rows count b.lines b.are_rows more b.of_text b.of_print)
          | inr within ↦ omega arith
        ]

    none : (rows : List Row) → IsPrintOf rows text → ⊥
    none rows p =
        let count = suc (length seen) in
        let e : first_lines count text ≡ Some (map content seen ++ front ∷ []) = ap (first_lines count) r.read.text_is ∙ further_lines seen rest front after r.read.printable cut in
        none_further rows count (map content seen ++ front ∷ []) p.are_rows (omega arith) e (ap (first_lines count) p.printed ∙ e)

-- a text that doesn't end with a line feed
pub bad_rest : (text : List ℕ) (seen : List Line) (stage : Stage) (rest : List ℕ) → AreRead text seen stage rest → cut_of 10 rest ≡ None → rest ≢ [] → IsBadAt text (length seen + 1)
bad_rest text seen stage rest r cut some = bad_from text seen stage rest r none most
  where
    none : (rows : List Row) → IsPrintOf rows text → ⊥
    none rows p = some (same_lines seen (rows_lines rows) rest r.read.printable (rows_to rows p.are_rows) cut (rows_are rows ∙ p.printed ∙ r.read.text_is)).1

    most : (count : ℕ) → BeginsPrint text count → count < length seen + 1
    most count b = let few = no_more seen rest count b.lines r.read.printable cut (sym (ap (first_lines count) r.read.text_is) ∙ b.of_text) in omega arith

-- a text at whose end a line is wanting
pub bad_end : (text : List ℕ) (seen : List Line) (stage : Stage) (rest : List ℕ) → AreRead text seen stage rest → cut_of 10 rest ≡ None → is_whole stage ≡ false → IsBadAt text (length seen + 1)
bad_end text seen stage rest r cut wanting = bad_from text seen stage rest r none most
  where
    none : (rows : List Row) → IsPrintOf rows text → ⊥
    none rows p = none_whole rows seen stage (same_lines seen (rows_lines rows) rest r.read.printable (rows_to rows p.are_rows) cut (rows_are rows ∙ p.printed ∙ r.read.text_is)).0 r.read.ran wanting

    most : (count : ℕ) → BeginsPrint text count → count < length seen + 1
    most count b = let few = no_more seen rest count b.lines r.read.printable cut (sym (ap (first_lines count) r.read.text_is) ∙ b.of_text) in omega arith

-- a text whose lines were all read
pub good_end : (text : List ℕ) (seen : List Line) (stage : Stage) (rows : List Row) → AreRead text seen stage [] → rows_lines rows ≡ seen → list_all sends_written rows ≡ true → IsPrintOf rows text
good_end text seen stage rows r e w =
    record {
      printed = sym (rows_are rows) ∙ ap text_of e ∙ sym (append-nil (text_of seen)) ∙ sym r.read.text_is;
      are_rows = rows_from rows (ap are_printable e ∙ r.read.printable) w;
    }
