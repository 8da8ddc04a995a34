-- Lines that are read one after another.
use Rattle.std.proofs.Common.{◌≡◌, ◌≢◌, ℕ, eqb, arith, ◌+◌, true, false, List, [], ◌∷◌, ◌++◌, length, Option, Some, None, refl, ap, sym, ◌∙◌, append_assoc, append-nil, length-append}
use Rattle.std.proofs.lemmas.Bool.{and_from, and_parts, eqb-true, eqb-false}
use Rattle.std.proofs.lemmas.List.Folds.{list_all-append}
use Rattle.number_text.specs.Cut.{cut_of}
use Rattle.number_text.specs.Digits.{◌>>=◌}
use Rattle.number_text.proofs.Joined.{cut_of-parts}
use Rattle.dns_message.specs.Writing.{is_below, are_bytes}
use Rattle.mdns_history.specs.EntryText.{line}
use Rattle.mdns_print.specs.declared.line.Line.{Line}
use Rattle.mdns_print.specs.LineText.{line_text}
use Rattle.mdns_lines.specs.ReadLines.{line_read}
use Rattle.mdns_lines.specs.Printable.{is_printable_line}
use Rattle.mdns_lines.proofs.LinesBack.{lines_printed}
use Rattle.mdns_lines.proofs.OnlyLines.{only_printable}
use Rattle.mdns_transcript.specs.declared.reading.Reading.{Reading}
use Rattle.mdns_transcript.specs.Stages.{Stage, Before, next, run}
use Rattle.mdns_transcript.specs.Leading.{IsBadAt}
use Rattle.mdns_transcript.specs.Drafts.{lines_read, stage_of, IsReading, IsTaken}
use Rattle.mdns_transcript.proofs.RowTexts.{text_of, text_joined}
use Rattle.mdns_transcript.proofs.RowTypes.{are_printable, printable_joined}
use Rattle.mdns_transcript.proofs.Runs.{run_joined}
use Rattle.mdns_transcript.proofs.Bad.{IsReadTo, AreRead, bad_line}
use Rattle.mdns_transcript.proofs.Completed.{begun_rows}

pub nothing_read : (text : List ℕ) → IsReadTo text [] Before text
nothing_read text = record { text_is = refl; printable = refl; ran = refl }

-- the bytes before and behind a line feed
pub cut_bytes : (rest front after : List ℕ) → are_bytes rest ≡ true → cut_of 10 rest ≡ Some (front, after) → (are_bytes front ≡ true) × (are_bytes after ≡ true)
cut_bytes rest front after h cut =
    let p = and_parts (are_bytes front) (are_bytes (10 ∷ after)) (sym (list_all-append (is_below 8) front (10 ∷ after)) ∙ sym (ap are_bytes (cut_of-parts 10 rest front after cut)) ∙ h) in
    (p.0, (and_parts (is_below 8 10) (are_bytes after) p.1).1)

one_more : (s l after : List ℕ) → (s ++ (l ++ [])) ++ after ≡ s ++ (l ++ after)
one_more s l after = simp (append-nil, append_assoc)

-- a further line
pub read_on : (text rest front after : List ℕ) (seen more : List Line) (stage later : Stage) (l : Line) → IsReadTo text seen stage rest → are_bytes rest ≡ true → cut_of 10 rest ≡ Some (front, after)
    → line_read front ≡ Some l → next l stage ≡ Some later → more ≡ seen ++ l ∷ [] → IsReadTo text more later after
read_on text rest front after seen more stage later l r bytes cut read goes e =
    let fits : is_printable_line l ≡ true = only_printable front l (cut_bytes rest front after bytes cut).0 read in
    let shown : line_text l ≡ line front = lines_printed front l read in
    let split : rest ≡ line front ++ after = cut_of-parts 10 rest front after cut ∙ sym (append_assoc front (10 ∷ []) after) in
    let text_here : text ≡ text_of (seen ++ l ∷ []) ++ after =
    r.text_is ∙ ap (λ (t : List ℕ). text_of seen ++ t) (split ∙ ap (λ (t : List ℕ). t ++ after) (sym shown)) ∙ sym (one_more (text_of seen) (line_text l) after)
    ∙ ap (λ (t : List ℕ). t ++ after) (sym (text_joined seen (l ∷ []))) in
    let ran_here : run (seen ++ l ∷ []) Before ≡ Some later =
    run_joined seen (l ∷ []) Before ∙ ap (λ (o : Option Stage). o >>= run (l ∷ [])) r.ran ∙ ap (λ (o : Option Stage). o >>= run []) goes in
    record {
      text_is = text_here ∙ ap (λ (ls : List Line). text_of ls ++ after) (sym e);
      printable = ap are_printable e ∙ printable_joined seen (l ∷ []) r.printable (and_from _ _ fits refl);
      ran = ap (λ (ls : List Line). run ls Before) e ∙ ran_here;
    }

-- the print of some rows begins with what was read
pub are_read : (text rest : List ℕ) (reading : Reading) → IsReadTo text (lines_read reading) (stage_of reading.draft) rest → IsReading reading → AreRead text (lines_read reading) (stage_of reading.draft) rest
are_read text rest reading r is = record { read = r; begun = begun_rows reading.rows reading.draft is.rows is.draft r.printable }

-- what is known behind a line that was taken
pub record IsTakenOn (text : List ℕ) (old new : Reading) (after : List ℕ) : Type 0 where
  pub read : IsReadTo text (lines_read new) (stage_of new.draft) after
  pub reading : IsReading new
  pub bytes : are_bytes after ≡ true
  pub counted : length (lines_read new) ≡ length (lines_read old) + 1

pub taken_on : (text rest front after : List ℕ) (old new : Reading) → IsReadTo text (lines_read old) (stage_of old.draft) rest → are_bytes rest ≡ true → cut_of 10 rest ≡ Some (front, after)
    → IsTaken old (line_read front) true new → IsTakenOn text old new after
taken_on text rest front after old new r bytes cut taken = go (line_read front) refl taken
  where
    go : (o : Option Line) → line_read front ≡ o → IsTaken old o true new → IsTakenOn text old new after
    go None e t = absurd (cc)
    go (Some l) e t =
        record {
          read = read_on text rest front after (lines_read old) (lines_read new) (stage_of old.draft) (stage_of new.draft) l r bytes cut e t.stage t.put;
          reading = t.is;
          bytes = (cut_bytes rest front after bytes cut).1;
          counted = ap length t.put ∙ length-append (lines_read old) (l ∷ []);
        }

-- where a line was not taken, none may follow that the text is
pub refused : (front : List ℕ) (old new : Reading) → IsTaken old (line_read front) false new → (l : Line) → line_read front ≡ Some l → next l (stage_of old.draft) ≡ None
refused front old new taken l e = go (line_read front) refl taken
  where
    go : (o : Option Line) → line_read front ≡ o → IsTaken old o false new → next l (stage_of old.draft) ≡ None
    go None f t = absurd (cc)
    go (Some other) f t = let same : other ≡ l = cc in ap (λ (x : Line). next x (stage_of old.draft)) (sym same) ∙ t

-- a text of which a line was not taken
pub bad_at : (text rest front after : List ℕ) (old new : Reading) → IsReadTo text (lines_read old) (stage_of old.draft) rest → IsReading old → cut_of 10 rest ≡ Some (front, after) → IsTaken old (line_read front) false new
    → IsBadAt text (length (lines_read old) + 1)
bad_at text rest front after old new r is cut taken = bad_line text (lines_read old) (stage_of old.draft) rest front after (are_read text rest old r is) cut (refused front old new taken)

-- nothing was read yet
pub begin_read : (text : List ℕ) (reading : Reading) → lines_read reading ≡ [] → stage_of reading.draft ≡ Before → IsReadTo text (lines_read reading) (stage_of reading.draft) text
begin_read text reading none stage =
    record {
      text_is = ap (λ (ls : List Line). text_of ls ++ text) (sym none);
      printable = ap are_printable none;
      ran = ap (λ (ls : List Line). run ls Before) none ∙ ap Some (sym stage);
    }

-- what is left at the end
pub some_rest : (rest : List ℕ) → eqb (length rest) 0 ≡ false → rest ≢ []
some_rest rest h e = absurd (omega (arith, eqb-false (length rest) 0 h, ap length e))

pub no_rest : (rest : List ℕ) → eqb (length rest) 0 ≡ true → rest ≡ []
no_rest [] h = refl
no_rest (b ∷ rest) h = absurd (omega (arith, eqb-true (length (b ∷ rest)) 0 h))
