-- Messages that grow by a question or a record.
use Rattle.std.proofs.Common.{◌≡◌, ℕ, ◌≤◌, Bool, true, false, cond, List, [], ◌∷◌, ◌++◌, map, length, refl, ap, sym, ◌∙◌, arith, append_assoc, append-nil, length-append}
use Rattle.std.specs.Prelude.{nat_le, ◌==◌, if◌then◌else◌}
use Rattle.std.proofs.lemmas.Bool.{ne_eqb, false≢true, leb-true}
use Rattle.std.proofs.lemmas.List.{map-append}
use Rattle.dns_record.specs.declared.record.Question.{Question}
use Rattle.dns_record.specs.declared.record.Rr.{Rr}
use Rattle.dns_message.specs.declared.message.Message.{Message}
use Rattle.mdns_history.specs.Typed.{has_written_header}
use Rattle.mdns_print.specs.declared.line.Section.{Section}
use Rattle.mdns_print.specs.declared.line.Section.TheVariants.{Answers, Authority, Additional}
use Rattle.mdns_print.specs.declared.line.Line.{Line}
use Rattle.mdns_print.specs.declared.line.Line.TheVariants as lines
use Rattle.mdns_transcript.specs.RowLines.{message_lines}
use Rattle.mdns_transcript.specs.Stages.{place}
use Rattle.mdns_transcript.specs.Messages.{with_question, with_record}
use Rattle.mdns_transcript.specs.Drafts.{reach}

not_empty : {X : Type 0} (x : X) (xs : List X) → (length (x ∷ xs) == 0) ≡ false
not_empty x xs = ne_eqb (length (x ∷ xs)) 0 (λ e. omega (arith, e))

some_more : (xs : List Rr) (x : Rr) → (length (xs ++ x ∷ []) == 0) ≡ false
some_more xs x = ne_eqb (length (xs ++ x ∷ [])) 0 (λ e. omega (arith, length-append xs (x ∷ []), e))

abbrev reach_by : List Rr → List Rr → List Rr → ℕ
reach_by x n a = if length x == 0 then (if length n == 0 then (if length a == 0 then 1 else 2) else 3) else 4

no_records : (x n a : List Rr) → nat_le (reach_by x n a) 1 ≡ true → (a ≡ []) × (n ≡ []) × (x ≡ [])
no_records [] [] [] h = (refl, refl, refl)
no_records [] [] (r ∷ a) h = let no : false ≡ true = sym (ap (λ (b : Bool). nat_le (cond b 1 2) 1) (not_empty r a)) ∙ h in absurd (false≢true no)
no_records [] (r ∷ n) a h = let no : false ≡ true = sym (ap (λ (b : Bool). nat_le (cond b (cond (length a == 0) 1 2) 3) 1) (not_empty r n)) ∙ h in absurd (false≢true no)
no_records (r ∷ x) n a h =
    let no : false ≡ true = sym (ap (λ (b : Bool). nat_le (cond b (cond (length n == 0) (cond (length a == 0) 1 2) 3) 4) 1) (not_empty r x)) ∙ h in absurd (false≢true no)

no_later : (x n a : List Rr) → nat_le (reach_by x n a) 2 ≡ true → (n ≡ []) × (x ≡ [])
no_later [] [] a h = (refl, refl)
no_later [] (r ∷ n) a h = let no : false ≡ true = sym (ap (λ (b : Bool). nat_le (cond b (cond (length a == 0) 1 2) 3) 2) (not_empty r n)) ∙ h in absurd (false≢true no)
no_later (r ∷ x) n a h =
    let no : false ≡ true = sym (ap (λ (b : Bool). nat_le (cond b (cond (length n == 0) (cond (length a == 0) 1 2) 3) 4) 2) (not_empty r x)) ∙ h in absurd (false≢true no)

no_additional : (x n a : List Rr) → nat_le (reach_by x n a) 3 ≡ true → x ≡ []
no_additional [] n a h = refl
no_additional (r ∷ x) n a h =
    let no : false ≡ true = sym (ap (λ (b : Bool). nat_le (cond b (cond (length n == 0) (cond (length a == 0) 1 2) 3) 4) 3) (not_empty r x)) ∙ h in absurd (false≢true no)

put_question : (q l : List Line) → (((q ++ l) ++ []) ++ []) ++ [] ≡ (((q ++ []) ++ []) ++ []) ++ l
put_question q l = simp append-nil

put_answer : (q a l : List Line) → ((q ++ (a ++ l)) ++ []) ++ [] ≡ (((q ++ a) ++ []) ++ []) ++ l
put_answer q a l = simp (append-nil, append_assoc)

put_authority : (q n l : List Line) → (q ++ (n ++ l)) ++ [] ≡ ((q ++ n) ++ []) ++ l
put_authority q n l = simp (append-nil, append_assoc)

abbrev section_map : Section → List Rr → List Line
section_map section rrs = map (λ rr. lines.Record section rr) rrs

pub question_lines : (q : Question) (m : Message) → nat_le (reach m) 1 ≡ true → message_lines (with_question q m) ≡ message_lines m ++ lines.Question q ∷ []
question_lines q m h =
    let none = no_records m.additional m.authority m.answers h in
    let qs = map (λ question. lines.Question question) m.questions in
    let before : message_lines m ≡ ((qs ++ []) ++ []) ++ [] = λ i. ((qs ++ section_map Answers (none.0 i)) ++ section_map Authority (none.1 i)) ++ section_map Additional (none.2 i) in
    let after : message_lines (with_question q m) ≡ (((qs ++ lines.Question q ∷ []) ++ []) ++ []) ++ [] =
    λ i. ((map-append (λ question. lines.Question question) m.questions (q ∷ []) i ++ section_map Answers (none.0 i)) ++ section_map Authority (none.1 i)) ++ section_map Additional (none.2 i) in
    after ∙ put_question qs (lines.Question q ∷ []) ∙ ap (λ (ls : List Line). ls ++ lines.Question q ∷ []) (sym before)

pub record_lines : (section : Section) (rr : Rr) (m : Message) → nat_le (reach m) (place section) ≡ true → message_lines (with_record section rr m) ≡ message_lines m ++ lines.Record section rr ∷ []
record_lines Answers rr m h =
    let none = no_later m.additional m.authority m.answers h in
    let qs = map (λ question. lines.Question question) m.questions in
    let a = section_map Answers m.answers in
    let l = lines.Record Answers rr ∷ [] in
    let before : message_lines m ≡ ((qs ++ a) ++ []) ++ [] = λ i. ((qs ++ a) ++ section_map Authority (none.0 i)) ++ section_map Additional (none.1 i) in
    let after : message_lines (with_record Answers rr m) ≡ ((qs ++ (a ++ l)) ++ []) ++ [] =
    λ i. ((qs ++ map-append (λ rr. lines.Record Answers rr) m.answers (rr ∷ []) i) ++ section_map Authority (none.0 i)) ++ section_map Additional (none.1 i) in
    after ∙ put_answer qs a l ∙ ap (λ (ls : List Line). ls ++ l) (sym before)
record_lines Authority rr m h =
    let none = no_additional m.additional m.authority m.answers h in
    let qa = map (λ question. lines.Question question) m.questions ++ section_map Answers m.answers in
    let n = section_map Authority m.authority in
    let l = lines.Record Authority rr ∷ [] in
    let before : message_lines m ≡ (qa ++ n) ++ [] = λ i. (qa ++ n) ++ section_map Additional (none i) in
    let after : message_lines (with_record Authority rr m) ≡ (qa ++ (n ++ l)) ++ [] =
    λ i. (qa ++ map-append (λ rr. lines.Record Authority rr) m.authority (rr ∷ []) i) ++ section_map Additional (none i) in
    after ∙ put_authority qa n l ∙ ap (λ (ls : List Line). ls ++ l) (sym before)
record_lines Additional rr m h =
    let front = (map (λ question. lines.Question question) m.questions ++ section_map Answers m.answers) ++ section_map Authority m.authority in
    let x = section_map Additional m.additional in
    let l = lines.Record Additional rr ∷ [] in
    ap (λ (ls : List Line). front ++ ls) (map-append (λ rr. lines.Record Additional rr) m.additional (rr ∷ [])) ∙ sym (append_assoc front x l)

pub record_reach : (section : Section) (rr : Rr) (m : Message) → nat_le (reach m) (place section) ≡ true → reach (with_record section rr m) ≡ place section
record_reach Answers rr m h =
    let none = no_later m.additional m.authority m.answers h in
    (λ i. reach_by (none.1 i) (none.0 i) (m.answers ++ rr ∷ [])) ∙ rw (some_more m.answers rr) refl
record_reach Authority rr m h =
    let none = no_additional m.additional m.authority m.answers h in
    (λ i. reach_by (none i) (m.authority ++ rr ∷ []) m.answers) ∙ rw (some_more m.authority rr) refl
record_reach Additional rr m h = rw (some_more m.additional rr) refl

pub record_header : (section : Section) (rr : Rr) (m : Message) → has_written_header (with_record section rr m) ≡ has_written_header m
record_header Answers rr m = refl
record_header Authority rr m = refl
record_header Additional rr m = refl

pub one_at : (n : ℕ) → 1 ≤ n → nat_le n 1 ≡ true → n ≡ 1
one_at n h k = omega (arith, leb-true n 1 k)

pub with_same : (section : Section) (rr : Rr) (m : Message) → ((with_record section rr m).id ≡ m.id) × ((with_record section rr m).response ≡ m.response) × ((with_record section rr m).truncated ≡ m.truncated)
with_same Answers rr m = (refl, refl, refl)
with_same Authority rr m = (refl, refl, refl)
with_same Additional rr m = (refl, refl, refl)

pub reach_some : (m : Message) → (1 ≤ reach m) × (reach m ≤ 4)
reach_some m = go (length m.additional == 0) (length m.authority == 0) (length m.answers == 0)
  where
    go : (x n a : Bool) → (1 ≤ cond x (cond n (cond a 1 2) 3) 4) × (cond x (cond n (cond a 1 2) 3) 4 ≤ 4)
    go true true true = (omega arith, omega arith)
    go true true false = (omega arith, omega arith)
    go true false a = (omega arith, omega arith)
    go false n a = (omega arith, omega arith)
