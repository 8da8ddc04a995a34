-- The histories of rows, with one more row and with fewer.
use Rattle.std.proofs.Common.{◌≡◌, ℕ, suc, ◌+◌, ◌-◌, ◌<◌, ◌≤◌, Bool, true, false, cond, eqb, List, [], ◌∷◌, ◌++◌, map, length, take, drop, refl, ap, sym, ◌∙◌, arith, subst, length-append, eq-eqb}
use Rattle.std.specs.Prelude.{◌^◌, ◌↔◌, IsTrue, filter, reverse}
use Rattle.std.proofs.lemmas.Bool.{eqb-true, false≢true}
use Rattle.std.proofs.lemmas.List.{map-append, reverse-append, length-reverse, take-append-drop}
use Rattle.std.proofs.lemmas.List.Elements.{filter-append}
use Rattle.mdns_history.specs.declared.entry.Entry.{Entry}
use Rattle.mdns_history.specs.InForce.{Duties, all_duties}
use Rattle.mdns_history.specs.Fitting.{IsLegalFrom}
use Rattle.mdns_transcript.specs.declared.row.Row.{Row}
use Rattle.plain_legal.specs.Laws.{IsLegalOrNone}
use Rattle.plain_check.specs.Checked.{history_of, AreLegalRows, IsFirstIllegal, BeginLegally}
use Rattle.plain_check.specs.Held.{with_row}

abbrev is_of : ℕ → Row → Bool
is_of daemon row = eqb row.daemon daemon

abbrev entry_of : Row → Entry
entry_of row = row.entry

history_joined : (daemon : ℕ) (rows more : List Row) → history_of daemon (rows ++ more) ≡ history_of daemon more ++ history_of daemon rows
history_joined daemon rows more =
    ap (λ (l : List Row). reverse (map entry_of l)) (filter-append (is_of daemon) rows more)
    ∙ ap reverse (map-append entry_of (filter (is_of daemon) rows) (filter (is_of daemon) more))
    ∙ reverse-append (map entry_of (filter (is_of daemon) rows)) (map entry_of (filter (is_of daemon) more))

pub history_pushed : (daemon : ℕ) (rows : List Row) (row : Row) → history_of daemon (rows ++ row ∷ []) ≡ with_row row daemon (history_of daemon rows)
history_pushed daemon rows row = history_joined daemon rows (row ∷ []) ∙ go (eqb row.daemon daemon)
  where
    go : (b : Bool) → reverse (map entry_of (cond b (row ∷ []) [])) ++ history_of daemon rows ≡ cond b (row.entry ∷ history_of daemon rows) (history_of daemon rows)
    go true = refl
    go false = refl

filter_short : (p : Row → Bool) (rows : List Row) → length (filter p rows) ≤ length rows
filter_short p [] = omega arith
filter_short p (row ∷ rows) = go (p row) (filter_short p rows)
  where
    go : (b : Bool) → length (filter p rows) ≤ length rows → length (cond b (row ∷ filter p rows) (filter p rows)) ≤ length (row ∷ rows)
    go true h = omega arith
    go false h = omega arith

mapped_length : (rows : List Row) → length (map entry_of rows) ≡ length rows
mapped_length [] = refl
mapped_length (row ∷ rows) = ap suc (mapped_length rows)

pub history_short : (daemon : ℕ) (rows : List Row) → length (history_of daemon rows) ≤ length rows
history_short daemon rows =
    let short = filter_short (is_of daemon) rows in
    let same : length (history_of daemon rows) ≡ length (filter (is_of daemon) rows) = length-reverse (map entry_of (filter (is_of daemon) rows)) ∙ mapped_length (filter (is_of daemon) rows) in
    omega arith

-- a legal history without its last entries is legal
legal_before : (duties : Duties) (xs ys : List Entry) → IsLegalOrNone duties (xs ++ ys) → IsLegalOrNone duties ys
legal_before duties [] ys h = h
legal_before duties (x ∷ xs) ys h = legal_before duties xs ys (tail (xs ++ ys) h)
  where
    tail : (past : List Entry) → IsLegalFrom duties x past → IsLegalOrNone duties past
    tail [] h = tt
    tail (before ∷ past) h = h.1

pub legal_front : (rows more : List Row) → AreLegalRows (rows ++ more) → AreLegalRows rows
legal_front rows more h daemon = legal_before all_duties (history_of daemon more) (history_of daemon rows) (subst (IsLegalOrNone all_duties) (history_joined daemon rows more) (h daemon))

pub begin_legally : BeginLegally
begin_legally rows count h = legal_front (take count rows) (drop count rows) (subst AreLegalRows (sym (take-append-drop count rows)) h)

pub legal_pushed : (rows : List Row) (row : Row) → AreLegalRows rows → IsLegalFrom all_duties row.entry (history_of row.daemon rows) → AreLegalRows (rows ++ row ∷ [])
legal_pushed rows row h fits daemon = subst (IsLegalOrNone all_duties) (sym (history_pushed daemon rows row)) (go (eqb row.daemon daemon) refl)
  where
    go : (b : Bool) → eqb row.daemon daemon ≡ b → IsLegalOrNone all_duties (cond b (row.entry ∷ history_of daemon rows) (history_of daemon rows))
    go true e = subst (λ (n : ℕ). IsLegalFrom all_duties row.entry (history_of n rows)) (eqb-daemon e) fits
      where
        eqb-daemon : eqb row.daemon daemon ≡ true → row.daemon ≡ daemon
        eqb-daemon e = eqb-true row.daemon daemon e
    go false e = h daemon

pub legal_last : (rows : List Row) (row : Row) → AreLegalRows (rows ++ row ∷ []) → IsLegalFrom all_duties row.entry (history_of row.daemon rows)
legal_last rows row h =
    let same : with_row row row.daemon (history_of row.daemon rows) ≡ row.entry ∷ history_of row.daemon rows =
    ap (λ (b : Bool). cond b (row.entry ∷ history_of row.daemon rows) (history_of row.daemon rows)) (eq-eqb row.daemon row.daemon refl) in
    subst (IsLegalOrNone all_duties) (history_pushed row.daemon rows row ∙ same) (h row.daemon)

taken_front : (xs ys : List Row) → take (length xs) (xs ++ ys) ≡ xs
taken_front [] ys = refl
taken_front (x ∷ xs) ys = ap (λ (l : List Row). x ∷ l) (taken_front xs ys)

taken_one : (xs ys : List Row) (x : Row) → take (suc (length xs)) (xs ++ x ∷ ys) ≡ xs ++ x ∷ []
taken_one [] ys x = refl
taken_one (y ∷ xs) ys x = ap (λ (l : List Row). y ∷ l) (taken_one xs ys x)

pub first_illegal : (rows before rest : List Row) (row : Row) (number : ℕ) → before ++ row ∷ rest ≡ rows → number ≡ length before + 1 → AreLegalRows before → (IsLegalFrom all_duties row.entry (history_of row.daemon before) → ⊥) → IsFirstIllegal rows number
first_illegal rows before rest row number e n legal breaks =
    let less : number - 1 ≡ length before = omega arith in
    let more : number ≡ suc (length before) = omega arith in
    let front : before ≡ take (number - 1) rows = sym (taken_front before (row ∷ rest)) ∙ (λ i. take (sym less i) (e i)) in
    let with_it : take number rows ≡ before ++ row ∷ [] = (λ i. take (more i) (sym e i)) ∙ taken_one before rest row in
    record {
      counted = omega arith;
      within = omega (arith, ap length e, length-append before (row ∷ rest));
      before = subst AreLegalRows front legal;
      illegal = λ h. breaks (legal_last before row (subst AreLegalRows with_it h));
    }

-- the history of the rows before a row is short
pub short_history : (daemon : ℕ) (rows before rest : List Row) (row : Row) (held : List Entry) → before ++ row ∷ rest ≡ rows → length rows + 1 < 2 ^ 30 → held ≡ history_of daemon before →
    length held + 1 < 2 ^ 30
short_history daemon rows before rest row held e few same =
    omega (arith, history_short daemon before, ap length e, length-append before (row ∷ rest), ap length same)

-- an entry that isn't legal behind the history that is held isn't legal behind that of the rows
pub breaks_too : (rows : List Row) (row : Row) (held : List Entry) (fits : Bool) → held ≡ history_of row.daemon rows → IsTrue fits ↔ IsLegalFrom all_duties row.entry held → fits ≡ false →
    IsLegalFrom all_duties row.entry (history_of row.daemon rows) → ⊥
breaks_too rows row held fits same told fails legal = false≢true (sym fails ∙ told.1 (subst (λ (h : List Entry). IsLegalFrom all_duties row.entry h) (sym same) legal))
