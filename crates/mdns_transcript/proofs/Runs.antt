-- Lines of rows may follow one another.
use Rattle.std.proofs.Common.{◌≡◌, ℕ, suc, ◌-◌, ◌≤◌, true, false, ◌&&◌, List, [], ◌∷◌, ◌++◌, map, length, Option, Some, None, refl, ap, sym, ◌∙◌, arith, subst}
use Rattle.std.specs.Prelude.{nat_le}
use Rattle.std.specs.List.{flat_map}
use Rattle.std.proofs.lemmas.Bool.{le-leb, and_from}
use Rattle.number_text.specs.Digits.{◌>>=◌}
use Rattle.dns_record.specs.declared.record.Question.{Question}
use Rattle.dns_record.specs.declared.record.Rr.{Rr}
use Rattle.dns_message.specs.declared.message.Message.{Message}
use Rattle.sd_call.specs.declared.item.Item.{Item}
use Rattle.mdns_history.specs.declared.mark.Mark.{Mark}
use Rattle.mdns_history.specs.declared.entry.Sent.{Sent}
use Rattle.mdns_history.specs.declared.entry.Given.{Given}
use Rattle.mdns_history.specs.declared.entry.Outcome.{Outcome}
use Rattle.mdns_history.specs.declared.entry.Outcome.TheVariants as outcome
use Rattle.mdns_print.specs.declared.line.Section.{Section}
use Rattle.mdns_print.specs.declared.line.Section.TheVariants.{Answers, Authority, Additional}
use Rattle.mdns_print.specs.declared.line.Line.{Line}
use Rattle.mdns_print.specs.declared.line.Line.TheVariants as lines
use Rattle.mdns_transcript.specs.declared.row.Row.{Row}
use Rattle.mdns_transcript.specs.RowLines.{message_lines, sent_lines, outcome_lines, row_lines, rows_lines}
use Rattle.mdns_transcript.specs.Stages.{Stage, Before, Upto, Left, place, is_whole, next, run}

pub run_joined : (xs ys : List Line) (s : Stage) → run (xs ++ ys) s ≡ (run xs s >>= run ys)
run_joined [] ys s = refl
run_joined (x ∷ xs) ys s = go (next x s) (λ t. run_joined xs ys t)
  where
    go : (o : Option Stage) → ((t : Stage) → run (xs ++ ys) t ≡ (run xs t >>= run ys)) → (o >>= run (xs ++ ys)) ≡ ((o >>= run xs) >>= run ys)
    go None each = refl
    go (Some t) each = each t

-- lines may follow at a stage, and lead to one of which something holds
pub record Leads (ls : List Line) (s : Stage) (P : Stage → Type 0) : Type 0 where
  pub to : Stage
  pub runs : run ls s ≡ Some to
  pub is : P to

joined : (xs ys : List Line) (s : Stage) (P Q : Stage → Type 0) → Leads xs s P → ((t : Stage) → P t → Leads ys t Q) → Leads (xs ++ ys) s Q
joined xs ys s P Q first then =
    let second = then first.to first.is in record { to = second.to; runs = run_joined xs ys s ∙ ap (λ (o : Option Stage). o >>= run ys) first.runs ∙ second.runs; is = second.is }

-- an entry without an outcome, from one place to another
abbrev Within : ℕ → ℕ → Stage → Type 0
Within low high (Upto at) = (low ≤ at) × (at ≤ high)
Within low high Before = ⊥
Within low high (Left count) = ⊥

marks_lead : (marks : List Mark) → Leads (map (λ mark. lines.Mark mark) marks) (Upto 0) (Within 0 0)
marks_lead [] = record { to = Upto 0; runs = refl; is = (omega arith, omega arith) }
marks_lead (mark ∷ marks) = let more = marks_lead marks in record { to = more.to; runs = more.runs; is = more.is }

questions_lead : (questions : List Question) → Leads (map (λ question. lines.Question question) questions) (Upto 1) (Within 1 1)
questions_lead [] = record { to = Upto 1; runs = refl; is = (omega arith, omega arith) }
questions_lead (question ∷ questions) = let more = questions_lead questions in record { to = more.to; runs = more.runs; is = more.is }

section_leads : (section : Section) (rrs : List Rr) (at : ℕ) → 1 ≤ at → at ≤ place section → 1 ≤ place section → Leads (map (λ rr. lines.Record section rr) rrs) (Upto at) (Within 1 (place section))
section_leads section [] at low high fits = record { to = Upto at; runs = refl; is = (low, high) }
section_leads section (rr ∷ rrs) at low high fits =
    let more = section_leads section rrs (place section) fits (omega arith) fits in
    let test : (nat_le 1 at && nat_le at (place section)) ≡ true = and_from _ _ (le-leb 1 at low) (le-leb at (place section) high) in
    record { to = more.to; runs = rw test more.runs; is = more.is }

-- a section's lines behind those of the sections before it
section_on : (section : Section) (rrs : List Rr) (low : ℕ) (t : Stage) → low ≤ place section → 1 ≤ place section → Within 1 low t → Leads (map (λ rr. lines.Record section rr) rrs) t (Within 1 (place section))
section_on section rrs low Before fits some h = absurd h
section_on section rrs low (Upto at) fits some h = section_leads section rrs at h.0 (omega (arith, h.1)) some
section_on section rrs low (Left count) fits some h = absurd h

message_leads : (m : Message) → Leads (message_lines m) (Upto 1) (Within 1 4)
message_leads m =
    let q = map (λ question. lines.Question question) m.questions in
    let a = map (λ rr. lines.Record Answers rr) m.answers in
    let n = map (λ rr. lines.Record Authority rr) m.authority in
    let x = map (λ rr. lines.Record Additional rr) m.additional in
    joined ((q ++ a) ++ n) x (Upto 1) (Within 1 3) (Within 1 4)
    (joined (q ++ a) n (Upto 1) (Within 1 2) (Within 1 3)
    (joined q a (Upto 1) (Within 1 1) (Within 1 2) (questions_lead m.questions) (λ t h. section_on Answers m.answers 1 t (omega arith) (omega arith) h))
    (λ t h. section_on Authority m.authority 2 t (omega arith) (omega arith) h))
    (λ t h. section_on Additional m.additional 3 t (omega arith) (omega arith) h)

-- what holds within leads on
on_within : (low high : ℕ) (ls : List Line) (Q : Stage → Type 0) → ((at : ℕ) → low ≤ at → at ≤ high → Leads ls (Upto at) Q) → (t : Stage) → Within low high t → Leads ls t Q
on_within low high ls Q each Before h = absurd h
on_within low high ls Q each (Upto at) h = each at h.0 h.1
on_within low high ls Q each (Left count) h = absurd h

sends_lead : (sent : List Sent) (at : ℕ) → at ≤ 4 → Leads (flat_map sent_lines sent) (Upto at) (Within 0 4)
sends_lead [] at h = record { to = Upto at; runs = refl; is = (omega arith, h) }
sends_lead (one ∷ sent) at h =
    let m = message_leads one.message in
    let first : Leads (sent_lines one) (Upto at) (Within 1 4) = record { to = m.to; runs = rw (le-leb at 4 h) m.runs; is = m.is } in
    joined (sent_lines one) (flat_map sent_lines sent) (Upto at) (Within 1 4) (Within 0 4) first (λ t k. on_within 1 4 (flat_map sent_lines sent) (Within 0 4) (λ n low high. sends_lead sent n high) t k)

given_lead : (given : List Given) (at : ℕ) → at ≤ 5 → Leads (map (λ given. lines.Given given) given) (Upto at) (Within 0 5)
given_lead [] at h = record { to = Upto at; runs = refl; is = (omega arith, h) }
given_lead (one ∷ given) at h = let more = given_lead given 5 (omega arith) in record { to = more.to; runs = rw (le-leb at 5 h) more.runs; is = more.is }

-- no line is wanting
abbrev pub IsWhole : Stage → Type 0
IsWhole s = is_whole s ≡ true

items_lead : (items : List Item) → Leads (map (λ item. lines.Item item) items) (Left (length items)) IsWhole
items_lead [] = record { to = Left 0; runs = refl; is = refl }
items_lead (item ∷ items) =
    let more = items_lead items in
    let some : nat_le 1 (suc (length items)) ≡ true = le-leb 1 (suc (length items)) (omega arith) in
    let less : suc (length items) - 1 ≡ length items = omega arith in
    record { to = more.to; runs = rw (some, less) more.runs; is = more.is }

outcome_leads : (o : Outcome) (at : ℕ) → at ≤ 5 → Leads (outcome_lines o) (Upto at) IsWhole
outcome_leads outcome.Done at h = record { to = Upto at; runs = refl; is = refl }
outcome_leads (outcome.Opened session) at h = record { to = Left 0; runs = rw (le-leb at 5 h) refl; is = refl }
outcome_leads outcome.Full at h = record { to = Left 0; runs = rw (le-leb at 5 h) refl; is = refl }
outcome_leads outcome.Ended at h = record { to = Left 0; runs = rw (le-leb at 5 h) refl; is = refl }
outcome_leads outcome.Closed at h = record { to = Left 0; runs = rw (le-leb at 5 h) refl; is = refl }
outcome_leads outcome.Cut at h = record { to = Left 0; runs = rw (le-leb at 5 h) refl; is = refl }
outcome_leads (outcome.Code code) at h = record { to = Left 0; runs = rw (le-leb at 5 h) refl; is = refl }
outcome_leads (outcome.Items items) at h = let more = items_lead items in record { to = more.to; runs = rw (le-leb at 5 h) more.runs; is = more.is }
outcome_leads outcome.Empty at h = record { to = Left 0; runs = rw (le-leb at 5 h) refl; is = refl }

row_leads : (row : Row) (s : Stage) → IsWhole s → Leads (row_lines row) s IsWhole
row_leads row s whole =
    let e = row.entry in
    let head = lines.Head row.daemon e.moment e.word e.event ∷ [] in
    let m = map (λ mark. lines.Mark mark) e.marks in
    let sends = flat_map sent_lines e.sent in
    let g = map (λ given. lines.Given given) e.given in
    let o = outcome_lines e.outcome in
    let first : Leads head s (Within 0 0) = record { to = Upto 0; runs = rw whole refl; is = (omega arith, omega arith) } in
    joined (((head ++ m) ++ sends) ++ g) o s (Within 0 5) IsWhole
    (joined ((head ++ m) ++ sends) g s (Within 0 4) (Within 0 5)
    (joined (head ++ m) sends s (Within 0 0) (Within 0 4)
    (joined head m s (Within 0 0) (Within 0 0) first (λ t h. on_within 0 0 m (Within 0 0) (λ at a b. subst (λ (n : ℕ). Leads m (Upto n) (Within 0 0)) (zero_at at b) (marks_lead e.marks)) t h))
    (λ t h. on_within 0 0 sends (Within 0 4) (λ at a b. sends_lead e.sent at (omega arith)) t h))
    (λ t h. on_within 0 4 g (Within 0 5) (λ at a b. given_lead e.given at (omega arith)) t h))
    (λ t h. on_within 0 5 o IsWhole (λ at a b. outcome_leads e.outcome at b) t h)
  where
    zero_at : (at : ℕ) → at ≤ 0 → 0 ≡ at
    zero_at at h = omega arith

-- the lines of rows may follow one another, and none is wanting behind them
pub rows_lead : (rows : List Row) (s : Stage) → IsWhole s → Leads (rows_lines rows) s IsWhole
rows_lead [] s whole = record { to = s; runs = refl; is = whole }
rows_lead (row ∷ rows) s whole = joined (row_lines row) (rows_lines rows) s IsWhole IsWhole (row_leads row s whole) (λ t h. rows_lead rows t h)

-- a line that may not follow isn't the next of any rows
pub none_next : (rows : List Row) (seen more : List Line) (line : Line) (s : Stage) → rows_lines rows ≡ seen ++ line ∷ more → run seen Before ≡ Some s → next line s ≡ None → ⊥
none_next rows seen more line s e ran none =
    let lead = rows_lead rows Before refl in
    let all : Some lead.to ≡ None =
    sym lead.runs ∙ ap (λ (ls : List Line). run ls Before) e ∙ run_joined seen (line ∷ more) Before ∙ ap (λ (o : Option Stage). o >>= run (line ∷ more)) ran ∙ ap (λ (o : Option Stage). o >>= run more) none in
    absurd (cc)

-- where a line is wanting, the lines are those of no rows
pub none_whole : (rows : List Row) (seen : List Line) (s : Stage) → rows_lines rows ≡ seen → run seen Before ≡ Some s → is_whole s ≡ false → ⊥
none_whole rows seen s e ran none =
    let lead = rows_lead rows Before refl in
    let same : Some lead.to ≡ Some s = sym lead.runs ∙ ap (λ (ls : List Line). run ls Before) e ∙ ran in
    let end : lead.to ≡ s = cc in
    let no : true ≡ false = sym lead.is ∙ ap is_whole end ∙ none in absurd (cc)
