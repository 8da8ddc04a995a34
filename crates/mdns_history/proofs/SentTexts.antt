-- Sent messages as text tell what they are the text of, up to what stands behind their lines.
use Rattle.std.proofs.Common.{◌≡◌, ℕ, Bool, true, false, cond, not, ◌&&◌, eqb, List, [], ◌∷◌, ◌++◌, Some, None, refl, ap, sym, ◌∙◌, arith, codes, append_assoc, drop}
use Rattle.std.specs.Prelude.{decimal}
use Rattle.std.specs.List.{list_all, flat_map}
use Rattle.std.proofs.lemmas.Bool.{eqb-true, and_parts}
use Rattle.number_text.specs.Cut.{cut_of}
use Rattle.number_text.specs.Digits.{ipv4_text, ipv4_of, four_of}
use Rattle.number_text.proofs.Ipv4Text.{ipv4_written}
use Rattle.mdns_base.specs.declared.host.Host.{Host}
use Rattle.mdns_base.specs.declared.host.Dest.{Dest}
use Rattle.mdns_base.specs.declared.host.Dest.TheVariants.{All, One}
use Rattle.dns_name.specs.NameText.{name_text}
use Rattle.dns_record.specs.RecordText.{space, kind_text, record_text}
use Rattle.dns_record.specs.declared.record.Rr.{Rr}
use Rattle.dns_record.specs.declared.record.Question.{Question}
use Rattle.dns_message.specs.declared.message.Message.{Message}
use Rattle.dns_message.specs.Writing.{is_below, is_spellable_name, is_spellable_record, is_spellable_question, is_spellable}
use Rattle.mdns_history.specs.declared.entry.Sent.{Sent}
use Rattle.mdns_history.specs.EntryText.{line, from_text, dest_text, way_text, word_if, question_line, section_lines, message_lines, sent_lines}
use Rattle.mdns_history.specs.Typed.{is_typed_host, is_typed_dest, is_typed_sent, has_written_header}
use Rattle.mdns_history.proofs.Texts.{in_line, line_joined, seen_line, apart, EndsToken, line_apart, sign, third, runs_apart, run_skips}
use Rattle.mdns_history.proofs.TokenTexts.{below, ipv4_seen, name_seen, name_told}
use Rattle.mdns_history.proofs.RecordTexts.{kind_seen, kind_told, number_line, record_line, record_told, three}
use Rattle.mdns_history.proofs.CallTexts.{number_seen, number_told, words}
use Rattle.mdns_history.proofs.EventTexts.{from_apart, dest_line}

-- ---- the first line

no_address : ipv4_of (codes "all") ≡ None
unfolding ipv4_of four_of cut_of
no_address = refl

all_no_host : (host : Host) (x y : List ℕ) → is_typed_host host ≡ true → EndsToken x → codes "all" ++ x ≡ from_text host ++ y → true ≡ false
all_no_host host x y h f e =
    let p = and_parts (is_below 32 host.ip) (is_below 16 host.port) h in
    let small = below 32 host.ip p.0 in
    let w = apart (codes "all") (ipv4_text host.ip) x (32 ∷ (decimal host.port ++ y)) refl (ipv4_seen host.ip small) f refl (e ∙ split) in
    none (sym no_address ∙ ap ipv4_of w.0 ∙ ipv4_written host.ip small)
  where
    split : from_text host ++ y ≡ ipv4_text host.ip ++ 32 ∷ (decimal host.port ++ y)
    split = simp append_assoc

    none : None ≡ Some host.ip → true ≡ false
    none h = cc

dest_apart : (a b : Dest) (x y : List ℕ) → is_typed_dest a ≡ true → is_typed_dest b ≡ true → EndsToken x → EndsToken y → dest_text a ++ x ≡ dest_text b ++ y → (a ≡ b) × (x ≡ y)
dest_apart All All x y h k f g e = (refl, ap (drop 3) e)
dest_apart All (One b) x y h k f g e = let no : true ≡ false = all_no_host b x y k f e in cc
dest_apart (One a) All x y h k f g e = let no : true ≡ false = all_no_host a y x h g (sym e) in cc
dest_apart (One a) (One b) x y h k f g e = let w = from_apart a b x y h k f g e in (ap (λ (host : Host). One host) w.0, w.1)

way_ends : (r : Bool) (z : List ℕ) → EndsToken (way_text r ++ z)
way_ends true z = refl
way_ends false z = refl

way_apart : (a b : Bool) (x y : List ℕ) → way_text a ++ x ≡ way_text b ++ y → (a ≡ b) × (x ≡ y)
way_apart true true x y e = (refl, ap (drop 7) e)
way_apart false false x y e = (refl, ap (drop 7) e)
way_apart true false x y e = let no : true ≡ false = ap (λ (t : List ℕ). eqb (sign t) 114) e in cc
way_apart false true x y e = let no : false ≡ true = ap (λ (t : List ℕ). eqb (sign t) 114) e in cc

way_line : (r : Bool) → in_line (way_text r) ≡ true
way_line true = refl
way_line false = refl

-- a word behind a space, where there is one
abbrev IsWord : List ℕ → Type 0
IsWord word = (EndsToken word) × (in_line word ≡ true)

word_ends : (t : Bool) (word : List ℕ) → EndsToken word → EndsToken (word_if t word)
word_ends true word h = h
word_ends false word h = tt

word_line : (t : Bool) (word : List ℕ) → in_line word ≡ true → in_line (word_if t word) ≡ true
word_line true word h = h
word_line false word h = refl

word_told : (a b : Bool) (c : ℕ) (word : List ℕ) → word_if a (c ∷ word) ≡ word_if b (c ∷ word) → a ≡ b
word_told true true c word e = refl
word_told false false c word e = refl
word_told true false c word e = cc
word_told false true c word e = cc

abbrev head_content : Sent → List ℕ
head_content sent = codes " > " ++ dest_text sent.to ++ way_text sent.message.response ++ decimal sent.message.id ++ word_if sent.message.truncated (codes " tc")

head_line : (sent : Sent) → is_typed_dest sent.to ≡ true → is_below 16 sent.message.id ≡ true → in_line (head_content sent) ≡ true
head_line sent h k =
    line_joined (((codes " > " ++ dest_text sent.to) ++ way_text sent.message.response) ++ decimal sent.message.id) (word_if sent.message.truncated (codes " tc"))
    (line_joined ((codes " > " ++ dest_text sent.to) ++ way_text sent.message.response) (decimal sent.message.id)
    (line_joined (codes " > " ++ dest_text sent.to) (way_text sent.message.response) (line_joined (codes " > ") (dest_text sent.to) refl (dest_line sent.to h)) (way_line sent.message.response))
    (number_line 16 sent.message.id k (omega arith)))
    (word_line sent.message.truncated (codes " tc") refl)

pub record TellsHead (a b : Sent) : Type 0 where
  pub to : a.to ≡ b.to
  pub response : a.message.response ≡ b.message.response
  pub id : a.message.id ≡ b.message.id
  pub truncated : a.message.truncated ≡ b.message.truncated

head_tokens : (sent : Sent) → drop 3 (head_content sent) ≡ dest_text sent.to ++ (way_text sent.message.response ++ (decimal sent.message.id ++ word_if sent.message.truncated (codes " tc")))
head_tokens sent = simp append_assoc

head_told : (a b : Sent) → is_typed_dest a.to ≡ true → is_typed_dest b.to ≡ true → is_below 16 a.message.id ≡ true → is_below 16 b.message.id ≡ true → head_content a ≡ head_content b → TellsHead a b
head_told a b ha hb ia ib e =
    let f = sym (head_tokens a) ∙ ap (drop 3) e ∙ head_tokens b in
    let first = dest_apart a.to b.to _ _ ha hb (way_ends a.message.response _) (way_ends b.message.response _) f in
    let second = way_apart a.message.response b.message.response _ _ first.1 in
    let third = apart (decimal a.message.id) (decimal b.message.id) (word_if a.message.truncated (codes " tc")) (word_if b.message.truncated (codes " tc"))
    (number_seen 16 a.message.id ia (omega arith)) (number_seen 16 b.message.id ib (omega arith)) (word_ends a.message.truncated (codes " tc") refl) (word_ends b.message.truncated (codes " tc") refl) second.1 in
    record {
      to = first.0;
      response = second.0;
      id = number_told 16 a.message.id b.message.id ia ib (omega arith) third.0;
      truncated = word_told a.message.truncated b.message.truncated 32 (codes "tc") third.1;
    }

-- ---- questions

abbrev question_content : Question → List ℕ
question_content q = codes "  ? " ++ name_text q.name ++ space ++ kind_text q.kind ++ word_if q.unicast (codes " qu")

question_in_line : (q : Question) → is_spellable_question q ≡ true → in_line (question_content q) ≡ true
question_in_line q h =
    let p = and_parts (is_spellable_name q.name) (is_below 16 q.kind) h in
    line_joined (((codes "  ? " ++ name_text q.name) ++ space) ++ kind_text q.kind) (word_if q.unicast (codes " qu"))
    (line_joined ((codes "  ? " ++ name_text q.name) ++ space) (kind_text q.kind)
    (line_joined (codes "  ? " ++ name_text q.name) space (line_joined (codes "  ? ") (name_text q.name) refl (seen_line (name_text q.name) (name_seen q.name))) refl)
    (seen_line (kind_text q.kind) (kind_seen q.kind (below 16 q.kind p.1))))
    (word_line q.unicast (codes " qu") refl)

question_tokens : (q : Question) → drop 4 (question_content q) ≡ name_text q.name ++ (32 ∷ (kind_text q.kind ++ word_if q.unicast (codes " qu")))
question_tokens q = simp append_assoc

question_apart : (a b : Question) (x y : List ℕ) → is_spellable_question a ≡ true → is_spellable_question b ≡ true → false ≡ false → false ≡ false → question_line a ++ x ≡ question_line b ++ y → (a ≡ b) × (x ≡ y)
question_apart a b x y h k u v e =
    let p = and_parts (is_spellable_name a.name) (is_below 16 a.kind) h in
    let q = and_parts (is_spellable_name b.name) (is_below 16 b.kind) k in
    let l = line_apart (question_content a) (question_content b) x y (question_in_line a h) (question_in_line b k) e in
    let f = sym (question_tokens a) ∙ ap (drop 4) l.0 ∙ question_tokens b in
    let first = words (name_text a.name) (name_text b.name) _ _ (name_seen a.name) (name_seen b.name) f in
    let second = apart (kind_text a.kind) (kind_text b.kind) (word_if a.unicast (codes " qu")) (word_if b.unicast (codes " qu"))
    (kind_seen a.kind (below 16 a.kind p.1)) (kind_seen b.kind (below 16 b.kind q.1)) (word_ends a.unicast (codes " qu") refl) (word_ends b.unicast (codes " qu") refl) first.1 in
    let en : a.name ≡ b.name = name_told a.name b.name p.0 q.0 first.0 in
    let ek : a.kind ≡ b.kind = kind_told a.kind b.kind (below 16 a.kind p.1) (below 16 b.kind q.1) second.0 in
    let eu : a.unicast ≡ b.unicast = word_told a.unicast b.unicast 32 (codes "qu") second.1 in
    (λ i. record { name = en i; kind = ek i; unicast = eu i }, l.1)

-- ---- records of a section

abbrev record_content : ℕ → Rr → List ℕ
record_content letter rr = codes "  " ++ (letter ∷ []) ++ space ++ record_text rr

abbrev section_line : ℕ → Rr → List ℕ
section_line letter rr = line (record_content letter rr)

record_in_line : (letter : ℕ) (rr : Rr) → in_line (letter ∷ []) ≡ true → is_spellable_record rr ≡ true → in_line (record_content letter rr) ≡ true
record_in_line letter rr l h =
    line_joined ((codes "  " ++ (letter ∷ [])) ++ space) (record_text rr) (line_joined (codes "  " ++ (letter ∷ [])) space (line_joined (codes "  ") (letter ∷ []) refl l) refl) (record_line rr h)

record_apart : (letter : ℕ) → in_line (letter ∷ []) ≡ true → (a b : Rr) (x y : List ℕ) → is_spellable_record a ≡ true → is_spellable_record b ≡ true → false ≡ false → false ≡ false →
    section_line letter a ++ x ≡ section_line letter b ++ y → (a ≡ b) × (x ≡ y)
record_apart letter l a b x y h k u v e =
    let p = line_apart (record_content letter a) (record_content letter b) x y (record_in_line letter a l h) (record_in_line letter b l k) e in
    (record_told a b h k (ap (drop 4) p.0), p.1)

-- ---- the lines of a message

-- whether a line begins with two spaces and a sign
abbrev opens : ℕ → List ℕ → Bool
opens c x = eqb (sign x) 32 && eqb (third x) c

-- nothing goes on in no way
abbrev nothing : List ℕ → Bool
nothing x = false

-- whether a line begins with two spaces
abbrev pub is_indented : List ℕ → Bool
is_indented x = eqb (sign x) 32

no_opening : (c : ℕ) (x : List ℕ) → is_indented x ≡ false → opens c x ≡ false
no_opening c x h = rw h refl

-- a section's lines, before what doesn't open as they do
section_apart : (letter : ℕ) → in_line (letter ∷ []) ≡ true → eqb letter letter ≡ true → (us vs : List Rr) (x y : List ℕ) → list_all is_spellable_record us ≡ true → list_all is_spellable_record vs ≡ true →
    opens letter x ≡ false → opens letter y ≡ false → section_lines (letter ∷ []) us ++ x ≡ section_lines (letter ∷ []) vs ++ y → (us ≡ vs) × (x ≡ y)
section_apart letter l s us vs x y h k p q e =
    runs_apart (section_line letter) is_spellable_record (opens letter) nothing (λ rr z. s) (λ rr z. refl) (record_apart letter l) us vs x y h k (p, refl) (q, refl) e

section_skips : (c letter : ℕ) → eqb letter c ≡ false → (rrs : List Rr) (x : List ℕ) → opens c x ≡ false → opens c (section_lines (letter ∷ []) rrs ++ x) ≡ false
section_skips c letter n rrs x h = run_skips (section_line letter) (opens c) (λ rr z. n) rrs x h

abbrev sections : Message → List ℕ → List ℕ
sections m x =
    flat_map question_line m.questions ++ (section_lines (codes "a") m.answers ++ (section_lines (codes "n") m.authority ++ (section_lines (codes "x") m.additional ++ x)))

message_tokens : (m : Message) (x : List ℕ) → message_lines m ++ x ≡ sections m x
message_tokens m x = simp append_assoc

pub record TellsSections (a b : Message) (x y : List ℕ) : Type 0 where
  pub questions : a.questions ≡ b.questions
  pub answers : a.answers ≡ b.answers
  pub authority : a.authority ≡ b.authority
  pub additional : a.additional ≡ b.additional
  pub behind : x ≡ y

-- what a message's parts are
pub record AreSpellable (m : Message) : Type 0 where
  pub id : is_below 16 m.id ≡ true
  pub questions : list_all is_spellable_question m.questions ≡ true
  pub answers : list_all is_spellable_record m.answers ≡ true
  pub authority : list_all is_spellable_record m.authority ≡ true
  pub additional : list_all is_spellable_record m.additional ≡ true

spellable_parts : (m : Message) → is_spellable m ≡ true → AreSpellable m
unfolding is_spellable
spellable_parts m h =
    let a = and_parts _ (list_all is_spellable_record m.additional) h in
    let b = and_parts _ (list_all is_spellable_record m.authority) a.0 in
    let c = and_parts _ (list_all is_spellable_record m.answers) b.0 in
    let d = and_parts _ (list_all is_spellable_question m.questions) c.0 in
    let e = and_parts _ (is_below 4 m.rcode) d.0 in
    record { id = (and_parts (is_below 16 m.id) (is_below 4 m.opcode) e.0).0; questions = d.1; answers = c.1; authority = b.1; additional = a.1 }

message_apart : (a b : Message) (x y : List ℕ) → AreSpellable a → AreSpellable b → is_indented x ≡ false → is_indented y ≡ false → message_lines a ++ x ≡ message_lines b ++ y → TellsSections a b x y
message_apart a b x y h k f g e =
    let xa : opens 120 x ≡ false = no_opening 120 x f in
    let ya : opens 120 y ≡ false = no_opening 120 y g in
    let behind : (c : ℕ) → eqb 120 c ≡ false → eqb 110 c ≡ false → (m : Message) (z : List ℕ) → is_indented z ≡ false → opens c (section_lines (codes "n") m.authority ++ (section_lines (codes "x") m.additional ++ z)) ≡ false =
    λ c u v m z i. section_skips c 110 v m.authority _ (section_skips c 120 u m.additional z (no_opening c z i)) in
    let first = runs_apart question_line is_spellable_question (opens 63) nothing (λ q z. refl) (λ q z. refl) question_apart a.questions b.questions _ _ h.questions k.questions
    (section_skips 63 97 refl a.answers _ (behind 63 refl refl a x f), refl) (section_skips 63 97 refl b.answers _ (behind 63 refl refl b y g), refl)
    (sym (message_tokens a x) ∙ e ∙ message_tokens b y) in
    let second = section_apart 97 refl refl a.answers b.answers _ _ h.answers k.answers (behind 97 refl refl a x f) (behind 97 refl refl b y g) first.1 in
    let third = section_apart 110 refl refl a.authority b.authority _ _ h.authority k.authority (section_skips 110 120 refl a.additional x (no_opening 110 x f)) (section_skips 110 120 refl b.additional y (no_opening 110 y g)) second.1 in
    let fourth = section_apart 120 refl refl a.additional b.additional x y h.additional k.additional xa ya third.1 in
    record { questions = first.0; answers = second.0; authority = third.0; additional = fourth.0; behind = fourth.1 }

-- ---- a sent message

-- the authority bit is that of a response
authority_is : (response authoritative : Bool) → cond response authoritative (not authoritative) ≡ true → authoritative ≡ response
authority_is true true h = refl
authority_is false false h = refl
authority_is true false h = cc
authority_is false true h = cc

abbrev pub is_printed_sent : Sent → Bool
is_printed_sent sent = is_typed_sent sent && has_written_header sent.message

pub sent_apart : (a b : Sent) (x y : List ℕ) → is_printed_sent a ≡ true → is_printed_sent b ≡ true → is_indented x ≡ false → is_indented y ≡ false → sent_lines a ++ x ≡ sent_lines b ++ y → (a ≡ b) × (x ≡ y)
sent_apart a b x y h k f g e =
    let p = and_parts (is_typed_sent a) (has_written_header a.message) h in
    let q = and_parts (is_typed_sent b) (has_written_header b.message) k in
    let pt = and_parts (is_typed_dest a.to) (is_spellable a.message) p.0 in
    let qt = and_parts (is_typed_dest b.to) (is_spellable b.message) q.0 in
    let ph = three (eqb a.message.opcode 0) (eqb a.message.rcode 0) (cond a.message.response a.message.authoritative (not a.message.authoritative)) p.1 in
    let qh = three (eqb b.message.opcode 0) (eqb b.message.rcode 0) (cond b.message.response b.message.authoritative (not b.message.authoritative)) q.1 in
    let sa = spellable_parts a.message pt.1 in
    let sb = spellable_parts b.message qt.1 in
    let l = line_apart (head_content a) (head_content b) (message_lines a.message ++ x) (message_lines b.message ++ y) (head_line a pt.0 sa.id) (head_line b qt.0 sb.id)
    (sym (append_assoc (line (head_content a)) (message_lines a.message) x) ∙ e ∙ append_assoc (line (head_content b)) (message_lines b.message) y) in
    let t = head_told a b pt.0 qt.0 sa.id sb.id l.0 in
    let s = message_apart a.message b.message x y sa sb f g l.1 in
    let eo : a.message.opcode ≡ b.message.opcode = eqb-true a.message.opcode 0 ph.0 ∙ sym (eqb-true b.message.opcode 0 qh.0) in
    let er : a.message.rcode ≡ b.message.rcode = eqb-true a.message.rcode 0 ph.1 ∙ sym (eqb-true b.message.rcode 0 qh.1) in
    let ea : a.message.authoritative ≡ b.message.authoritative = authority_is a.message.response a.message.authoritative ph.2 ∙ t.response ∙ sym (authority_is b.message.response b.message.authoritative qh.2) in (
      λ i. record {
        to = t.to i;
        message = record {
          id = t.id i;
          response = t.response i;
          authoritative = ea i;
          truncated = t.truncated i;
          opcode = eo i;
          rcode = er i;
          questions = s.questions i;
          answers = s.answers i;
          authority = s.authority i;
          additional = s.additional i;
        };
      },
      s.behind,
    )
