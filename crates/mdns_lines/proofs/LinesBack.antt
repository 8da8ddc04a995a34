-- What is printed of a line is read as it.
use Rattle.std.proofs.Common.{◌≡◌, ℕ, ◌^◌, ◌<◌, Bool, true, false, ◌&&◌, List, [], ◌∷◌, ◌++◌, Option, Some, None, refl, ap, sym, ◌∙◌, arith, append_assoc, append-nil, codes}
use Rattle.std.specs.Prelude.{decimal}
use Rattle.std.specs.Fmt.{signed_decimal}
use Rattle.std.specs.Str.{bytes_eq}
use Rattle.std.proofs.lemmas.Bool.{and_parts}
use Rattle.std.proofs.lemmas.Slice.Eq.{bytes_eq-Decides}
use Rattle.number_text.specs.Cut.{cut_of}
use Rattle.number_text.specs.Digits.{◌>>=◌, ipv4_of, four_of, ipv4_text}
use Rattle.mdns_base.specs.declared.host.Host.{Host}
use Rattle.mdns_base.specs.declared.host.Dest.{Dest}
use Rattle.mdns_base.specs.declared.host.Dest.TheVariants.{All, One}
use Rattle.number_text.proofs.Ipv4Text.{ipv4_written}
use Rattle.number_text.proofs.Joined.{cut_of-joined}
use Rattle.dns_name.specs.NameText.{name_text}
use Rattle.dns_record.specs.RecordText.{space, kind_text, record_text}
use Rattle.dns_record.specs.declared.record.Question.{Question}
use Rattle.dns_record.specs.declared.record.Rr.{Rr}
use Rattle.dns_record.proofs.KindTexts.{kind_written}
use Rattle.dns_message.specs.Writing.{is_below, is_spellable_name, is_spellable_question, is_spellable_record}
use Rattle.sd_call.specs.CallText.{item_text}
use Rattle.sd_call.specs.declared.item.Item.{Item}
use Rattle.sd_call.specs.declared.item.Item.TheVariants.{Reply, Add, Remove}
use Rattle.mdns_history.specs.EntryText.{line, event_text, mark_text, dest_text, way_text, word_if, outcome_lines}
use Rattle.mdns_history.specs.Typed.{is_typed_host, is_typed_dest, is_typed_outcome, is_typed_event}
use Rattle.mdns_history.proofs.TokenTexts.{below, ipv4_seen, name_seen}
use Rattle.mdns_history.proofs.RecordTexts.{kind_seen, three}
use Rattle.mdns_history.proofs.CallTexts.{number_seen}
use Rattle.mdns_script.specs.Tokens.{when}
use Rattle.mdns_script.specs.Writable.{is_daemon}
use Rattle.mdns_script.proofs.TokensBack.{word_cut}
use Rattle.mdns_print.specs.declared.line.Section.{Section}
use Rattle.mdns_print.specs.declared.line.Section.TheVariants.{Answers, Authority, Additional}
use Rattle.mdns_print.specs.declared.line.Ending.{Ending}
use Rattle.mdns_print.specs.declared.line.Ending.TheVariants.{Opened, Full, Ended, Closed, Cut, Code, Empty}
use Rattle.mdns_print.specs.declared.line.Line.{Line}
use Rattle.mdns_print.specs.declared.line.Line.TheVariants as lines
use Rattle.mdns_print.specs.LineText.{letter, outcome_of, line_text}
use Rattle.mdns_lines.specs.ReadItems.{outcome_in, item_in}
use Rattle.mdns_lines.specs.ReadLines.{id_in, way_words, to_host, sent_in, kind_in, question_in, line_in, line_read}
use Rattle.mdns_lines.specs.Printable.{event_has_text, is_printable_line, AreReadBack, ArePrinted}
use Rattle.mdns_lines.proofs.WordsBack.{name_in_back, host_in_back, signed_back, rr_back}
use Rattle.mdns_lines.proofs.EventsBack.{no_cut_seen, number_cut, wide_back, below_back, head_back}
use Rattle.mdns_lines.proofs.ItemsBack.{mark_read, item_read, given_read}

-- ---- sent messages

id_back : (id : ℕ) (truncated : Bool) → is_below 16 id ≡ true → id_in (decimal id ++ word_if truncated (codes " tc")) ≡ Some (id, truncated)
id_back id true h = rw (number_cut 16 id (codes "tc") h (omega arith), below_back 16 id (omega arith) h) refl
id_back id false h =
    ap id_in (append-nil (decimal id)) ∙ rw (no_cut_seen (decimal id) (number_seen 16 id h (omega arith)), below_back 16 id (omega arith) h) refl

-- the word of a reply or of a query
abbrev if_reply : Bool → List ℕ
if_reply true = codes "reply"
if_reply false = codes "query"

way_back : (to : Dest) (response : Bool) (id : ℕ) (truncated : Bool) → is_below 16 id ≡ true →
    way_words to (if_reply response ++ 32 ∷ (decimal id ++ word_if truncated (codes " tc"))) ≡ Some (lines.Sent to response id truncated)
unfolding way_words
way_back to true id truncated h = rw (cut_of-joined 32 (codes "reply") (decimal id ++ word_if truncated (codes " tc")) refl, id_back id truncated h) refl
way_back to false id truncated h = rw (cut_of-joined 32 (codes "query") (decimal id ++ word_if truncated (codes " tc")) refl, id_back id truncated h) refl

way_split : (response : Bool) (rest : List ℕ) → way_text response ++ rest ≡ 32 ∷ (if_reply response ++ 32 ∷ rest)
way_split true rest = refl
way_split false rest = refl

to_host_back : (host : Host) (response : Bool) (id : ℕ) (truncated : Bool) → is_typed_host host ≡ true → is_below 16 id ≡ true →
    to_host (ipv4_text host.ip) (decimal host.port ++ 32 ∷ (if_reply response ++ 32 ∷ (decimal id ++ word_if truncated (codes " tc")))) ≡ Some (lines.Sent (One host) response id truncated)
unfolding to_host
to_host_back host response id truncated h k =
    let p = and_parts (is_below 32 host.ip) (is_below 16 host.port) h in
    rw (
      number_cut 16 host.port (if_reply response ++ 32 ∷ (decimal id ++ word_if truncated (codes " tc"))) p.1 (omega arith),
      host_in_back host h,
    )
    (way_back (One host) response id truncated k)

all_no_address : ipv4_of (codes "all") ≡ None
unfolding ipv4_of four_of cut_of
all_no_address = refl

-- an address isn't the word for all
no_all : (ip : ℕ) → ip < 2 ^ 32 → bytes_eq (ipv4_text ip) (codes "all") ≡ false
no_all ip small = go (bytes_eq (ipv4_text ip) (codes "all")) refl
  where
    go : (b : Bool) → bytes_eq (ipv4_text ip) (codes "all") ≡ b → b ≡ false
    go true e = let no : Some ip ≡ None = sym (ipv4_written ip small) ∙ ap ipv4_of ((bytes_eq-Decides (ipv4_text ip) (codes "all")).0 e) ∙ all_no_address in absurd (cc)
    go false e = refl

sent_back : (to : Dest) (response : Bool) (id : ℕ) (truncated : Bool) → is_typed_dest to ≡ true → is_below 16 id ≡ true →
    sent_in (dest_text to ++ way_text response ++ decimal id ++ word_if truncated (codes " tc")) ≡ Some (lines.Sent to response id truncated)
sent_back All response id truncated h k =
    ap sent_in (split (codes "all") (decimal id) (word_if truncated (codes " tc")))
    ∙ rw (cut_of-joined 32 (codes "all") (if_reply response ++ 32 ∷ (decimal id ++ word_if truncated (codes " tc"))) refl) (way_back All response id truncated k)
  where
    split : (t d w : List ℕ) → t ++ way_text response ++ d ++ w ≡ t ++ 32 ∷ (if_reply response ++ 32 ∷ (d ++ w))
    split t d w = append_assoc (t ++ way_text response) d w ∙ append_assoc t (way_text response) (d ++ w) ∙ ap (λ x. t ++ x) (way_split response (d ++ w))
sent_back (One host) response id truncated h k =
    let p = and_parts (is_below 32 host.ip) (is_below 16 host.port) h in
    ap sent_in (split (ipv4_text host.ip) (decimal host.port) (decimal id) (word_if truncated (codes " tc")))
    ∙ rw (
      word_cut (ipv4_text host.ip) (decimal host.port ++ 32 ∷ (if_reply response ++ 32 ∷ (decimal id ++ word_if truncated (codes " tc")))) (ipv4_seen host.ip (below 32 host.ip p.0)),
      no_all host.ip (below 32 host.ip p.0),
    )
    (to_host_back host response id truncated h k)
  where
    split : (i q d w : List ℕ) → (i ++ space ++ q) ++ way_text response ++ d ++ w ≡ i ++ 32 ∷ (q ++ 32 ∷ (if_reply response ++ 32 ∷ (d ++ w)))
    split i q d w =
        append_assoc ((i ++ space ++ q) ++ way_text response) d w
        ∙ append_assoc (i ++ space ++ q) (way_text response) (d ++ w)
        ∙ append_assoc (i ++ space) q (way_text response ++ (d ++ w))
        ∙ append_assoc i space (q ++ (way_text response ++ (d ++ w)))
        ∙ ap (λ x. i ++ 32 ∷ (q ++ x)) (way_split response (d ++ w))

-- ---- questions

kind_back : (kind : ℕ) (unicast : Bool) → kind < 2 ^ 16 → kind_in (kind_text kind ++ word_if unicast (codes " qu")) ≡ Some (kind, unicast)
kind_back kind true h = rw (word_cut (kind_text kind) (codes "qu") (kind_seen kind h), kind_written kind h) refl
kind_back kind false h = ap kind_in (append-nil (kind_text kind)) ∙ rw (no_cut_seen (kind_text kind) (kind_seen kind h), kind_written kind h) refl

question_back : (q : Question) → is_spellable_question q ≡ true → question_in (name_text q.name ++ space ++ kind_text q.kind ++ word_if q.unicast (codes " qu")) ≡ Some q
unfolding question_in
question_back q h =
    let p = and_parts (is_spellable_name q.name) (is_below 16 q.kind) h in
    ap question_in (append_assoc (name_text q.name ++ space) (kind_text q.kind) (word_if q.unicast (codes " qu")) ∙ append_assoc (name_text q.name) space (kind_text q.kind ++ word_if q.unicast (codes " qu")))
    ∙ rw (
      word_cut (name_text q.name) (kind_text q.kind ++ word_if q.unicast (codes " qu")) (name_seen q.name),
      name_in_back q.name p.0,
      kind_back q.kind q.unicast (below 16 q.kind p.1),
    )
    refl

-- ---- outcomes

-- the text of an outcome
abbrev pub ending_text : Ending → List ℕ
ending_text (Opened session) = codes "opened " ++ decimal session
ending_text Full = codes "full"
ending_text Ended = codes "ended"
ending_text Closed = codes "closed"
ending_text Cut = codes "cut"
ending_text (Code code) = codes "code " ++ signed_decimal code
ending_text Empty = codes "empty"

ending_shown : (e : Ending) → outcome_lines (outcome_of e) ≡ line (codes " = " ++ ending_text e)
ending_shown (Opened session) = refl
ending_shown Full = refl
ending_shown Ended = refl
ending_shown Closed = refl
ending_shown Cut = refl
ending_shown (Code code) = refl
ending_shown Empty = refl

ending_back : (e : Ending) → is_typed_outcome (outcome_of e) ≡ true → outcome_in (ending_text e) ≡ Some (lines.Ending e)
ending_back (Opened session) h = rw (cut_of-joined 32 (codes "opened") (decimal session) refl, wide_back session h) refl
ending_back Full h = rw (no_cut_seen (codes "full") refl) refl
ending_back Ended h = rw (no_cut_seen (codes "ended") refl) refl
ending_back Closed h = rw (no_cut_seen (codes "closed") refl) refl
ending_back Cut h = rw (no_cut_seen (codes "cut") refl) refl
ending_back (Code code) h = rw (cut_of-joined 32 (codes "code") (signed_decimal code) refl, signed_back code h) refl
ending_back Empty h = rw (no_cut_seen (codes "empty") refl) refl

count_back : (count : ℕ) → is_below 64 count ≡ true → outcome_in (codes "items " ++ decimal count) ≡ Some (lines.Count count)
count_back count h = rw (cut_of-joined 32 (codes "items") (decimal count) refl, wide_back count h) refl

-- ---- lines

-- a line without its line feed
abbrev pub content : Line → List ℕ
content (lines.Head daemon moment word event) = codes "@" ++ decimal moment ++ codes " d" ++ decimal daemon ++ codes " w" ++ decimal word ++ space ++ event_text event
content (lines.Mark mark) = codes " ! " ++ mark_text mark
content (lines.Sent to response id truncated) = codes " > " ++ dest_text to ++ way_text response ++ decimal id ++ word_if truncated (codes " tc")
content (lines.Question q) = codes "  ? " ++ name_text q.name ++ space ++ kind_text q.kind ++ word_if q.unicast (codes " qu")
content (lines.Record section rr) = codes "  " ++ letter section ++ space ++ record_text rr
content (lines.Given g) = codes " < " ++ decimal g.session ++ space ++ item_text g.item
content (lines.Ending ending) = codes " = " ++ ending_text ending
content (lines.Count count) = codes " = " ++ (codes "items " ++ decimal count)
content (lines.Item item) = codes "  " ++ item_text item

pub shown : (l : Line) → line_text l ≡ line (content l)
shown (lines.Head daemon moment word event) = refl
shown (lines.Mark mark) = refl
shown (lines.Sent to response id truncated) = refl
shown (lines.Question q) = refl
shown (lines.Record section rr) = refl
shown (lines.Given g) = refl
shown (lines.Ending ending) = ending_shown ending
shown (lines.Count count) = refl
shown (lines.Item item) = refl

record_back : (section : Section) (rr : Rr) → is_spellable_record rr ≡ true → line_in (content (lines.Record section rr)) ≡ Some (lines.Record section rr)
record_back Answers rr h = rw (rr_back rr h) refl
record_back Authority rr h = rw (rr_back rr h) refl
record_back Additional rr h = rw (rr_back rr h) refl

-- an item is no question and no record
item_line : (i : Item) → item_in (item_text i) ≡ Some i → line_in (content (lines.Item i)) ≡ Some (lines.Item i)
item_line (Reply op verb code) h = rw h refl
item_line (Add op answer) h = rw h refl
item_line (Remove op answer) h = rw h refl

-- what is known of an entry's first line
pub record IsHead (daemon moment word : ℕ) (h : Bool) (k : Bool) : Type 0 where
  pub daemon_fits : is_daemon daemon ≡ true
  pub moment_fits : is_below 64 moment ≡ true
  pub word_fits : is_below 32 word ≡ true
  pub event_fits : h ≡ true
  pub text : k ≡ true

pub is_head : (daemon moment word : ℕ) (h k : Bool) → (is_daemon daemon && is_below 64 moment && is_below 32 word && h && k) ≡ true → IsHead daemon moment word h k
is_head daemon moment word h k e =
    let a = and_parts (is_daemon daemon && is_below 64 moment && is_below 32 word && h) k e in
    let b = and_parts (is_daemon daemon && is_below 64 moment && is_below 32 word) h a.0 in
    let c = three (is_daemon daemon) (is_below 64 moment) (is_below 32 word) b.0 in
    record { daemon_fits = c.0; moment_fits = c.1; word_fits = c.2; event_fits = b.1; text = a.1 }

pub content_back : (l : Line) → is_printable_line l ≡ true → line_in (content l) ≡ Some l
content_back (lines.Head daemon moment word event) h =
    let p = is_head daemon moment word (is_typed_event event) (event_has_text event) h in head_back daemon moment word event p.daemon_fits p.moment_fits p.word_fits p.event_fits p.text
content_back (lines.Mark mark) h = rw (mark_read mark h) refl
content_back (lines.Sent to response id truncated) h =
    let p = and_parts (is_typed_dest to) (is_below 16 id) h in sent_back to response id truncated p.0 p.1
content_back (lines.Question q) h = rw (question_back q h) refl
content_back (lines.Record section rr) h = record_back section rr h
content_back (lines.Given g) h = rw (given_read g h) refl
content_back (lines.Ending ending) h = ending_back ending h
content_back (lines.Count count) h = count_back count h
content_back (lines.Item item) h = item_line item (item_read item h)

-- a text is its line without the line feed
no_end : (t : List ℕ) → ◌≡◌ {A = List ℕ} [] (t ++ 10 ∷ []) → ◌≡◌ {A = List ℕ} [] (10 ∷ [])
no_end [] e = e
no_end (b ∷ t) e = absurd (cc)

pub same_content : (t u : List ℕ) → line t ≡ line u → t ≡ u
same_content [] [] e = refl
same_content [] (b ∷ u) e = let rest : ◌≡◌ {A = List ℕ} [] (u ++ 10 ∷ []) = cc in let no : ◌≡◌ {A = List ℕ} [] (10 ∷ []) = no_end u rest in absurd (cc)
same_content (a ∷ t) [] e = let rest : ◌≡◌ {A = List ℕ} [] (t ++ 10 ∷ []) = cc in let no : ◌≡◌ {A = List ℕ} [] (10 ∷ []) = no_end t rest in absurd (cc)
same_content (a ∷ t) (b ∷ u) e =
    let head : a ≡ b = cc in
    let rest : t ++ 10 ∷ [] ≡ u ++ 10 ∷ [] = cc in
    ap (λ (l : List ℕ). a ∷ l) (same_content t u rest) ∙ ap (λ (c : ℕ). c ∷ u) head

pub lines_back : AreReadBack
lines_back printed text h e =
    let same : content printed ≡ text = same_content (content printed) text (sym (shown printed) ∙ e) in
    let test : bytes_eq (line_text printed) (line (content printed)) ≡ true = (bytes_eq-Decides (line_text printed) (line (content printed))).1 (shown printed) in
    ap line_read (sym same) ∙ rw (content_back printed h, test) refl

-- ---- what is read is printed

some_same : {X : Type 0} (x y : X) → Some x ≡ Some y → x ≡ y
some_same x y h = cc

pub lines_printed : ArePrinted
lines_printed text read h = go (line_in text) h
  where
    go : (found : Option Line) → (found >>= λ l. when (bytes_eq (line_text l) (line text)) l) ≡ Some read → line_text read ≡ line text
    go None h = absurd (cc)
    go (Some l) h = of (bytes_eq (line_text l) (line text)) refl h
      where
        of : (b : Bool) → bytes_eq (line_text l) (line text) ≡ b → when b l ≡ Some read → line_text read ≡ line text
        of true e h = ap line_text (sym (some_same l read h)) ∙ (bytes_eq-Decides (line_text l) (line text)).0 e
        of false e h = absurd (cc)
