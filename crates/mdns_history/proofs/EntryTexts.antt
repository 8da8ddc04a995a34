-- Entries as text tell what they are the text of, one behind the other.
use Rattle.std.proofs.Common.{◌≡◌, ℕ, ℤ, Bool, true, false, not, ◌&&◌, eqb, List, [], ◌∷◌, ◌++◌, length, refl, ap, sym, ◌∙◌, arith, codes, append_assoc, append-nil, drop}
use Rattle.std.specs.Prelude.{decimal}
use Rattle.std.specs.Fmt.{signed_decimal}
use Rattle.std.specs.List.{list_all, flat_map}
use Rattle.std.proofs.lemmas.Bool.{eqb-true, and_from, and_parts}
use Rattle.dns_record.specs.RecordText.{space}
use Rattle.dns_message.specs.Writing.{is_below}
use Rattle.sd_call.specs.declared.item.Item.{Item}
use Rattle.sd_call.specs.CallText.{item_text}
use Rattle.mdns_history.specs.declared.mark.Mark.{Mark}
use Rattle.mdns_history.specs.declared.entry.Sent.{Sent}
use Rattle.mdns_history.specs.declared.entry.Given.{Given}
use Rattle.mdns_history.specs.declared.entry.Outcome.{Outcome}
use Rattle.mdns_history.specs.declared.entry.Outcome.TheVariants as outcome
use Rattle.mdns_history.specs.declared.entry.Entry.{Entry}
use Rattle.mdns_history.specs.EntryText.{line, event_text, mark_text, mark_line, sent_lines, given_line, item_lines, outcome_line, outcome_lines, entry_text}
use Rattle.mdns_history.specs.Typed.{is_typed_event, is_typed_item, is_typed_mark, is_typed_sent, is_typed_given, is_typed_outcome, is_typed_entry, has_written_header, is_printable, is_printed, Printed, printed_text, IsOneToOne}
use Rattle.mdns_history.proofs.Texts.{in_line, line_joined, seen_line, line_apart, lead, first, sign, runs_apart, run_skips}
use Rattle.mdns_history.proofs.TokenTexts.{signed_seen, signed_told}
use Rattle.mdns_history.proofs.RecordTexts.{number_line}
use Rattle.mdns_history.proofs.CallTexts.{number_seen, number_told, words, item_line, item_told}
use Rattle.mdns_history.proofs.EventTexts.{event_line, event_told, mark_content, mark_told}
use Rattle.mdns_history.proofs.SentTexts.{is_indented, is_printed_sent, sent_apart}

regroup : (a b c : List ℕ) → (a ++ b) ++ c ≡ a ++ (b ++ c)
regroup a b c = append_assoc a b c

-- nothing goes on in no way
abbrev nothing : List ℕ → Bool
nothing x = false

-- ---- marks

mark_apart : (a b : Mark) (x y : List ℕ) → is_typed_mark a ≡ true → is_typed_mark b ≡ true → false ≡ false → false ≡ false → mark_line a ++ x ≡ mark_line b ++ y → (a ≡ b) × (x ≡ y)
mark_apart a b x y h k u v e =
    let l = line_apart (codes " ! " ++ mark_text a) (codes " ! " ++ mark_text b) x y (line_joined (codes " ! ") (mark_text a) refl (mark_content a h)) (line_joined (codes " ! ") (mark_text b) refl (mark_content b k)) e in
    (mark_told a b h k (ap (drop 3) l.0), l.1)

-- ---- items given

abbrev given_content : Given → List ℕ
given_content g = codes " < " ++ decimal g.session ++ space ++ item_text g.item

given_in_line : (g : Given) → is_typed_given g ≡ true → in_line (given_content g) ≡ true
given_in_line g h =
    let p = and_parts (is_below 64 g.session) (is_typed_item g.item) h in
    line_joined ((codes " < " ++ decimal g.session) ++ space) (item_text g.item)
    (line_joined (codes " < " ++ decimal g.session) space (line_joined (codes " < ") (decimal g.session) refl (number_line 64 g.session p.0 (omega arith))) refl) (item_line g.item p.1)

given_apart : (a b : Given) (x y : List ℕ) → is_typed_given a ≡ true → is_typed_given b ≡ true → false ≡ false → false ≡ false → given_line a ++ x ≡ given_line b ++ y → (a ≡ b) × (x ≡ y)
given_apart a b x y h k u v e =
    let p = and_parts (is_below 64 a.session) (is_typed_item a.item) h in
    let q = and_parts (is_below 64 b.session) (is_typed_item b.item) k in
    let l = line_apart (given_content a) (given_content b) x y (given_in_line a h) (given_in_line b k) e in
    let w = words (decimal a.session) (decimal b.session) (item_text a.item) (item_text b.item) (number_seen 64 a.session p.0 (omega arith)) (number_seen 64 b.session q.0 (omega arith))
    (sym (regroup (decimal a.session) space (item_text a.item)) ∙ ap (drop 3) l.0 ∙ regroup (decimal b.session) space (item_text b.item)) in
    let es : a.session ≡ b.session = number_told 64 a.session b.session p.0 q.0 (omega arith) w.0 in
    let ei : a.item ≡ b.item = item_told a.item b.item p.1 q.1 w.1 in
    (λ i. record { session = es i; item = ei i }, l.1)

-- ---- outcomes

taken_apart : (a b : Item) (x y : List ℕ) → is_typed_item a ≡ true → is_typed_item b ≡ true → false ≡ false → false ≡ false → line (codes "  " ++ item_text a) ++ x ≡ line (codes "  " ++ item_text b) ++ y → (a ≡ b) × (x ≡ y)
taken_apart a b x y h k u v e =
    let l = line_apart (codes "  " ++ item_text a) (codes "  " ++ item_text b) x y (line_joined (codes "  ") (item_text a) refl (item_line a h)) (line_joined (codes "  ") (item_text b) refl (item_line b k)) e in
    (item_told a b h k (ap (drop 2) l.0), l.1)

abbrev is_done : Outcome → Bool
is_done outcome.Done = true
is_done _ = false

-- what an outcome's line tells, and the lines below it
abbrev outcome_text : Outcome → List ℕ
outcome_text outcome.Done = []
outcome_text (outcome.Opened session) = codes "opened " ++ decimal session
outcome_text outcome.Full = codes "full"
outcome_text outcome.Ended = codes "ended"
outcome_text outcome.Closed = codes "closed"
outcome_text outcome.Cut = codes "cut"
outcome_text (outcome.Code code) = codes "code " ++ signed_decimal code
outcome_text (outcome.Items items) = codes "items " ++ decimal (length items)
outcome_text outcome.Empty = codes "empty"

abbrev outcome_tail : Outcome → List ℕ
outcome_tail (outcome.Items items) = item_lines items
outcome_tail _ = []

outcome_split : (o : Outcome) (x : List ℕ) → is_done o ≡ false → outcome_lines o ++ x ≡ line (codes " = " ++ outcome_text o) ++ (outcome_tail o ++ x)
outcome_split outcome.Done x h = cc
outcome_split (outcome.Opened session) x h = refl
outcome_split outcome.Full x h = refl
outcome_split outcome.Ended x h = refl
outcome_split outcome.Closed x h = refl
outcome_split outcome.Cut x h = refl
outcome_split (outcome.Code code) x h = refl
outcome_split (outcome.Items items) x h = append_assoc (outcome_line (codes "items " ++ decimal (length items))) (item_lines items) x
outcome_split outcome.Empty x h = refl

outcome_in_line : (o : Outcome) → is_typed_outcome o ≡ true → in_line (outcome_text o) ≡ true
outcome_in_line outcome.Done h = refl
outcome_in_line (outcome.Opened session) h = line_joined (codes "opened ") (decimal session) refl (number_line 64 session h (omega arith))
outcome_in_line outcome.Full h = refl
outcome_in_line outcome.Ended h = refl
outcome_in_line outcome.Closed h = refl
outcome_in_line outcome.Cut h = refl
outcome_in_line (outcome.Code code) h = line_joined (codes "code ") (signed_decimal code) refl (seen_line (signed_decimal code) (signed_seen code h))
outcome_in_line (outcome.Items items) h = line_joined (codes "items ") (decimal (length items)) refl (number_line 64 (length items) (and_parts (list_all is_typed_item items) (is_below 64 (length items)) h).1 (omega arith))
outcome_in_line outcome.Empty h = refl

outcome_pair : (a b : Outcome) (x y : List ℕ) → is_done a ≡ false → is_done b ≡ false → is_typed_outcome a ≡ true → is_typed_outcome b ≡ true → outcome_lines a ++ x ≡ outcome_lines b ++ y →
    (outcome_text a ≡ outcome_text b) × (outcome_tail a ++ x ≡ outcome_tail b ++ y)
outcome_pair a b x y da db h k e =
    let l = line_apart (codes " = " ++ outcome_text a) (codes " = " ++ outcome_text b) (outcome_tail a ++ x) (outcome_tail b ++ y)
    (line_joined (codes " = ") (outcome_text a) refl (outcome_in_line a h)) (line_joined (codes " = ") (outcome_text b) refl (outcome_in_line b k))
    (sym (outcome_split a x da) ∙ e ∙ outcome_split b y db) in
    (ap (drop 3) l.0, l.1)

outcome_apart : (a b : Outcome) (x y : List ℕ) → is_typed_outcome a ≡ true → is_typed_outcome b ≡ true → sign x ≡ 0 → sign y ≡ 0 → outcome_lines a ++ x ≡ outcome_lines b ++ y → (a ≡ b) × (x ≡ y)
outcome_apart outcome.Done outcome.Done x y h k f g e = (refl, e)
outcome_apart (outcome.Opened s) (outcome.Opened t) x y h k f g e =
    let p = outcome_pair (outcome.Opened s) (outcome.Opened t) x y refl refl h k e in (ap (λ (n : ℕ). outcome.Opened n) (number_told 64 s t h k (omega arith) (ap (drop 7) p.0)), p.1)
outcome_apart outcome.Full outcome.Full x y h k f g e = let p = outcome_pair outcome.Full outcome.Full x y refl refl h k e in (refl, p.1)
outcome_apart outcome.Ended outcome.Ended x y h k f g e = let p = outcome_pair outcome.Ended outcome.Ended x y refl refl h k e in (refl, p.1)
outcome_apart outcome.Closed outcome.Closed x y h k f g e = let p = outcome_pair outcome.Closed outcome.Closed x y refl refl h k e in (refl, p.1)
outcome_apart outcome.Cut outcome.Cut x y h k f g e = let p = outcome_pair outcome.Cut outcome.Cut x y refl refl h k e in (refl, p.1)
outcome_apart (outcome.Code c) (outcome.Code d) x y h k f g e =
    let p = outcome_pair (outcome.Code c) (outcome.Code d) x y refl refl h k e in (ap (λ (z : ℤ). outcome.Code z) (signed_told c d h k (ap (drop 5) p.0)), p.1)
outcome_apart (outcome.Items us) (outcome.Items vs) x y h k f g e =
    let p = outcome_pair (outcome.Items us) (outcome.Items vs) x y refl refl h k e in
    let hs = and_parts (list_all is_typed_item us) (is_below 64 (length us)) h in
    let ks = and_parts (list_all is_typed_item vs) (is_below 64 (length vs)) k in
    let run = runs_apart (λ item. line (codes "  " ++ item_text item)) is_typed_item is_indented nothing (λ item z. refl) (λ item z. refl) taken_apart us vs x y hs.0 ks.0
    (ap (λ n. eqb n 32) f, refl) (ap (λ n. eqb n 32) g, refl) p.1 in
    (ap (λ (items : List Item). outcome.Items items) run.0, run.1)
outcome_apart outcome.Empty outcome.Empty x y h k f g e = let p = outcome_pair outcome.Empty outcome.Empty x y refl refl h k e in (refl, p.1)
outcome_apart outcome.Done b x y h k f g e = absurd (omega (arith, sym f ∙ ap sign e))
outcome_apart a outcome.Done x y h k f g e = absurd (omega (arith, sym g ∙ sym (ap sign e)))
outcome_apart a b x y h k f g e = let p = outcome_pair a b x y refl refl h k e in absurd (omega (arith, ap lead p.0))

-- what stands behind an outcome begins with its sign, or doesn't begin with a space
outcome_opens : (c : ℕ) → eqb 61 c ≡ false → eqb 0 c ≡ false → (o : Outcome) (x : List ℕ) → sign x ≡ 0 → eqb (sign (outcome_lines o ++ x)) c ≡ false
outcome_opens c u z outcome.Done x f = ap (λ n. eqb n c) f ∙ z
outcome_opens c u z (outcome.Opened session) x f = u
outcome_opens c u z outcome.Full x f = u
outcome_opens c u z outcome.Ended x f = u
outcome_opens c u z outcome.Closed x f = u
outcome_opens c u z outcome.Cut x f = u
outcome_opens c u z (outcome.Code code) x f = u
outcome_opens c u z (outcome.Items items) x f = u
outcome_opens c u z outcome.Empty x f = u

-- ---- the first line

abbrev head_content : ℕ → Entry → List ℕ
head_content daemon entry = codes "@" ++ decimal entry.moment ++ codes " d" ++ decimal daemon ++ codes " w" ++ decimal entry.word ++ space ++ event_text entry.event

head_tokens : (daemon : ℕ) (entry : Entry) → drop 1 (head_content daemon entry) ≡ decimal entry.moment ++ (32 ∷ 100 ∷ (decimal daemon ++ (32 ∷ 119 ∷ (decimal entry.word ++ (32 ∷ event_text entry.event)))))
head_tokens daemon entry = simp append_assoc

head_in_line : (daemon : ℕ) (entry : Entry) → is_below 32 daemon ≡ true → is_below 64 entry.moment ≡ true → is_below 32 entry.word ≡ true → is_typed_event entry.event ≡ true → in_line (head_content daemon entry) ≡ true
head_in_line daemon entry d m w e =
    let a = codes "@" ++ decimal entry.moment in
    let b = (a ++ codes " d") ++ decimal daemon in
    let c = (b ++ codes " w") ++ decimal entry.word in
    line_joined (c ++ space) (event_text entry.event)
    (line_joined c space
    (line_joined (b ++ codes " w") (decimal entry.word)
    (line_joined b (codes " w")
    (line_joined (a ++ codes " d") (decimal daemon)
    (line_joined a (codes " d") (line_joined (codes "@") (decimal entry.moment) refl (number_line 64 entry.moment m (omega arith))) refl)
    (number_line 32 daemon d (omega arith))) refl)
    (number_line 32 entry.word w (omega arith))) refl)
    (event_line entry.event e)

-- what the types say of an entry
record AreTyped (entry : Entry) : Type 0 where
  moment : is_below 64 entry.moment ≡ true
  word : is_below 32 entry.word ≡ true
  event : is_typed_event entry.event ≡ true
  marks : list_all is_typed_mark entry.marks ≡ true
  sent : list_all is_printed_sent entry.sent ≡ true
  given : list_all is_typed_given entry.given ≡ true
  outcome : is_typed_outcome entry.outcome ≡ true

both_tests : (p q : Sent → Bool) (xs : List Sent) → list_all p xs ≡ true → list_all q xs ≡ true → list_all (λ x. p x && q x) xs ≡ true
both_tests p q [] h k = refl
both_tests p q (x ∷ xs) h k =
    let a = and_parts (p x) (list_all p xs) h in
    let b = and_parts (q x) (list_all q xs) k in
    and_from (p x && q x) _ (and_from (p x) (q x) a.0 b.0) (both_tests p q xs a.1 b.1)

printable_parts : (entry : Entry) → is_printable entry ≡ true → AreTyped entry
unfolding is_typed_entry
printable_parts entry h =
    let z = and_parts (is_typed_entry entry) (list_all (λ sent. has_written_header sent.message) entry.sent) h in
    let a = and_parts _ (is_typed_outcome entry.outcome) z.0 in
    let b = and_parts _ (list_all is_typed_given entry.given) a.0 in
    let c = and_parts _ (list_all is_typed_sent entry.sent) b.0 in
    let d = and_parts _ (list_all is_typed_mark entry.marks) c.0 in
    let e = and_parts _ (is_typed_event entry.event) d.0 in
    let f = and_parts (is_below 64 entry.moment) (is_below 32 entry.word) e.0 in
    record { moment = f.0; word = f.1; event = e.1; marks = d.1; sent = both_tests is_typed_sent (λ sent. has_written_header sent.message) entry.sent c.1 z.1; given = b.1; outcome = a.1 }

record TellsHead (d e : ℕ) (a b : Entry) : Type 0 where
  daemon : d ≡ e
  moment : a.moment ≡ b.moment
  word : a.word ≡ b.word
  event : a.event ≡ b.event

head_told : (d e : ℕ) (a b : Entry) → is_below 32 d ≡ true → is_below 32 e ≡ true → AreTyped a → AreTyped b → head_content d a ≡ head_content e b → TellsHead d e a b
head_told d e a b hd he ha hb eq =
    let f = sym (head_tokens d a) ∙ ap (drop 1) eq ∙ head_tokens e b in
    let one = words (decimal a.moment) (decimal b.moment) _ _ (number_seen 64 a.moment ha.moment (omega arith)) (number_seen 64 b.moment hb.moment (omega arith)) f in
    let two = words (decimal d) (decimal e) _ _ (number_seen 32 d hd (omega arith)) (number_seen 32 e he (omega arith)) (ap (drop 1) one.1) in
    let three = words (decimal a.word) (decimal b.word) _ _ (number_seen 32 a.word ha.word (omega arith)) (number_seen 32 b.word hb.word (omega arith)) (ap (drop 1) two.1) in
    record {
      daemon = number_told 32 d e hd he (omega arith) two.0;
      moment = number_told 64 a.moment b.moment ha.moment hb.moment (omega arith) one.0;
      word = number_told 32 a.word b.word ha.word hb.word (omega arith) three.0;
      event = event_told a.event b.event ha.event hb.event three.1;
    }

-- ---- the entry

entry_tokens : (d : ℕ) (entry : Entry) (x : List ℕ) →
    entry_text d entry ++ x ≡ line (head_content d entry) ++ (flat_map mark_line entry.marks ++ (flat_map sent_lines entry.sent ++ (flat_map given_line entry.given ++ (outcome_lines entry.outcome ++ x))))
entry_tokens d entry x = simp append_assoc

-- the lines behind the marks, and those behind the sent messages
no_mark : (entry : Entry) (x : List ℕ) → sign x ≡ 0 → eqb (sign (flat_map sent_lines entry.sent ++ (flat_map given_line entry.given ++ (outcome_lines entry.outcome ++ x)))) 33 ≡ false
no_mark entry x f =
    run_skips sent_lines (λ z. eqb (sign z) 33) (λ s z. refl) entry.sent _
    (run_skips given_line (λ z. eqb (sign z) 33) (λ g z. refl) entry.given _ (outcome_opens 33 refl refl entry.outcome x f))

no_sent : (c : ℕ) → eqb 60 c ≡ false → eqb 61 c ≡ false → eqb 0 c ≡ false → (entry : Entry) (x : List ℕ) → sign x ≡ 0 → eqb (sign (flat_map given_line entry.given ++ (outcome_lines entry.outcome ++ x))) c ≡ false
no_sent c u v w entry x f = run_skips given_line (λ z. eqb (sign z) c) (λ g z. u) entry.given _ (outcome_opens c v w entry.outcome x f)

pub entry_apart : (d e : ℕ) (a b : Entry) (x y : List ℕ) → is_below 32 d ≡ true → is_below 32 e ≡ true → is_printable a ≡ true → is_printable b ≡ true → sign x ≡ 0 → sign y ≡ 0 →
    entry_text d a ++ x ≡ entry_text e b ++ y → (d ≡ e) × (a ≡ b) × (x ≡ y)
entry_apart d e a b x y hd he pa pb f g eq =
    let ha = printable_parts a pa in
    let hb = printable_parts b pb in
    let l = line_apart (head_content d a) (head_content e b) _ _ (head_in_line d a hd ha.moment ha.word ha.event) (head_in_line e b he hb.moment hb.word hb.event) (sym (entry_tokens d a x) ∙ eq ∙ entry_tokens e b y) in
    let t = head_told d e a b hd he ha hb l.0 in
    let marks = runs_apart mark_line is_typed_mark (λ z. eqb (sign z) 33) nothing (λ m z. refl) (λ m z. refl) mark_apart a.marks b.marks _ _ ha.marks hb.marks (no_mark a x f, refl) (no_mark b y g, refl) l.1 in
    let sent = runs_apart sent_lines is_printed_sent (λ z. eqb (sign z) 62) is_indented (λ s z. refl) (λ s z. refl) sent_apart a.sent b.sent _ _ ha.sent hb.sent
    (no_sent 62 refl refl refl a x f, no_sent 32 refl refl refl a x f) (no_sent 62 refl refl refl b y g, no_sent 32 refl refl refl b y g) marks.1 in
    let given = runs_apart given_line is_typed_given (λ z. eqb (sign z) 60) nothing (λ s z. refl) (λ s z. refl) given_apart a.given b.given _ _ ha.given hb.given
    (outcome_opens 60 refl refl a.outcome x f, refl) (outcome_opens 60 refl refl b.outcome y g, refl) sent.1 in
    let out = outcome_apart a.outcome b.outcome x y ha.outcome hb.outcome f g given.1 in
    (t.daemon, λ i. record { moment = t.moment i; word = t.word i; event = t.event i; marks = marks.0 i; sent = sent.0 i; given = given.0 i; outcome = out.0 i }, out.1)

-- ---- entries in a row

abbrev printed : Printed → List ℕ
printed p = entry_text p.daemon p.entry

-- whether a line is an entry's first
abbrev is_head : List ℕ → Bool
is_head x = eqb (first x) 64

printed_apart : (a b : Printed) (x y : List ℕ) → is_printed a ≡ true → is_printed b ≡ true → eqb (sign x) 0 ≡ true → eqb (sign y) 0 ≡ true → printed a ++ x ≡ printed b ++ y → (a ≡ b) × (x ≡ y)
printed_apart a b x y h k f g e =
    let p = and_parts (is_below 32 a.daemon) (is_printable a.entry) h in
    let q = and_parts (is_below 32 b.daemon) (is_printable b.entry) k in
    let w = entry_apart a.daemon b.daemon a.entry b.entry x y p.0 q.0 p.1 q.1 (eqb-true (sign x) 0 f) (eqb-true (sign y) 0 g) e in
    (λ i. record { daemon = w.0 i; entry = w.1 i }, w.2)

-- whether a line begins with a space and a sign
abbrev is_signed_line : List ℕ → Bool
is_signed_line x = not (eqb (sign x) 0)

pub one_to_one : IsOneToOne
one_to_one left right h k e =
    (runs_apart printed is_printed is_head is_signed_line (λ a z. refl) (λ a z. refl) (λ a b x y g j u v eq. printed_apart a b x y g j (unsigned x u) (unsigned y v) eq) left right [] [] h k (refl, refl) (refl, refl)
    (append-nil (printed_text left) ∙ e ∙ sym (append-nil (printed_text right)))).0
  where
    unsigned : (z : List ℕ) → not (eqb (sign z) 0) ≡ false → eqb (sign z) 0 ≡ true
    unsigned z u = of (eqb (sign z) 0) u
      where
        of : (b : Bool) → not b ≡ false → b ≡ true
        of true u = refl
        of false u = cc
