-- What is printed of marks, items and outcomes is read as them.
use Rattle.std.proofs.Common.{◌≡◌, ℕ, ℤ, ◌^◌, ◌<◌, Bool, true, false, ◌&&◌, List, [], ◌∷◌, ◌++◌, Some, None, refl, ap, sym, ◌∙◌, arith, append_assoc, codes}
use Rattle.std.specs.Prelude.{decimal}
use Rattle.std.specs.Fmt.{signed_decimal, digits}
use Rattle.std.specs.Str.{bytes_eq}
use Rattle.std.proofs.lemmas.Bool.{and_parts}
use Rattle.std.proofs.lemmas.Slice.Eq.{bytes_eq-Decides}
use Rattle.number_text.specs.Cut.{cut_of}
use Rattle.number_text.specs.Digits.{hex_text}
use Rattle.number_text.proofs.HexText.{hex_written}
use Rattle.number_text.proofs.Joined.{lacks, cut_of-joined}
use Rattle.dns_name.specs.NameText.{name_text}
use Rattle.dns_record.specs.Records.{kind_of}
use Rattle.dns_record.specs.ReadRecord.{kind_read, numbered_kind}
use Rattle.dns_record.specs.RecordText.{space, kind_name, kind_text, data_text, record_text}
use Rattle.dns_record.specs.declared.record.Rdata.{Rdata}
use Rattle.dns_record.specs.declared.record.Key.{Key}
use Rattle.dns_record.specs.declared.record.Rr.{Rr}
use Rattle.dns_record.proofs.KindTexts.{kind_written}
use Rattle.dns_message.specs.Writing.{is_below, are_bytes, is_spellable_name, is_spellable_data}
use Rattle.sd_call.specs.declared.request.Verb.{Verb}
use Rattle.sd_call.specs.declared.request.Verb.TheVariants as verb
use Rattle.sd_call.specs.declared.answer.Answer.{Answer}
use Rattle.sd_call.specs.declared.answer.Answer.TheVariants.{Datum, Found, Resolved, Named, Conflict}
use Rattle.sd_call.specs.declared.item.Item.{Item}
use Rattle.sd_call.specs.declared.item.Item.TheVariants.{Reply, Add, Remove}
use Rattle.sd_call.specs.CallText.{answer_text, verb_text, item_text}
use Rattle.mdns_history.specs.declared.mark.Cause.{Cause}
use Rattle.mdns_history.specs.declared.mark.Cause.TheVariants as cause
use Rattle.mdns_history.specs.declared.mark.Mark.{Mark}
use Rattle.mdns_history.specs.declared.mark.Mark.TheVariants as mark
use Rattle.mdns_history.specs.declared.entry.Given.{Given}
use Rattle.mdns_history.specs.EntryText.{cause_text, mark_text}
use Rattle.mdns_history.specs.Typed.{is_signed, is_typed_answer, is_typed_item, is_typed_mark, is_typed_given}
use Rattle.mdns_history.proofs.Texts.{are_seen}
use Rattle.mdns_history.proofs.TokenTexts.{below, bytes_are, name_seen}
use Rattle.mdns_history.proofs.RecordTexts.{kind_seen, kind_small, four}
use Rattle.mdns_script.proofs.TokensBack.{seen_lacks, word_cut}
use Rattle.mdns_lines.specs.ReadItems.{cause_in, asked_in, renamed_in, mark_of_words, mark_in, rr_in, datum_in, resolved_words, resolved_in, answer_of_words, answer_in, verb_in, reply_in, change_in, item_of_words, item_in, given_in}
use Rattle.mdns_lines.proofs.WordsBack.{name_in_back, signed_back, rr_back}
use Rattle.mdns_lines.proofs.EventsBack.{no_cut_seen, number_cut, wide_back, below_back}

-- ---- marks

mark_back : (text word rest : List ℕ) (m : Mark) → text ≡ word ++ 32 ∷ rest → lacks 32 word ≡ false → mark_of_words word rest ≡ Some m → mark_in text ≡ Some m
mark_back text word rest m same h k =
    let cut : cut_of 32 text ≡ Some (word, rest) = ap (cut_of 32) same ∙ cut_of-joined 32 word rest h in rw cut k

cause_back : (why : Cause) → cause_in (cause_text why) ≡ Some why
cause_back cause.Series = refl
cause_back cause.Refresh = refl
cause_back cause.Heard = refl

asked_back : (question : Key) (why : Cause) → is_below 16 question.kind ≡ true → is_spellable_name question.name ≡ true →
    asked_in (name_text question.name ++ 32 ∷ (kind_text question.kind ++ 32 ∷ cause_text why)) ≡ Some (mark.Asked question why)
unfolding asked_in
asked_back question why h k =
    let small : question.kind < 2 ^ 16 = below 16 question.kind h in
    rw (
      word_cut (name_text question.name) (kind_text question.kind ++ 32 ∷ cause_text why) (name_seen question.name),
      word_cut (kind_text question.kind) (cause_text why) (kind_seen question.kind small),
      name_in_back question.name k,
      kind_written question.kind small,
      cause_back why,
    )
    refl

renamed_back : (group number : ℕ) → is_below 64 group ≡ true → is_below 32 number ≡ true → renamed_in (decimal group ++ 32 ∷ decimal number) ≡ Some (mark.Renamed group number)
unfolding renamed_in
renamed_back group number h k = rw (number_cut 64 group (decimal number) h (omega arith), wide_back group h, below_back 32 number (omega arith) k) refl

asked_text : (a b c : List ℕ) → codes "asked " ++ a ++ space ++ b ++ space ++ c ≡ codes "asked " ++ (a ++ 32 ∷ (b ++ 32 ∷ c))
asked_text a b c = simp append_assoc

pub mark_read : (m : Mark) → is_typed_mark m ≡ true → mark_in (mark_text m) ≡ Some m
mark_read (mark.Bad number) h = mark_back _ (codes "bad") (decimal number) (mark.Bad number) refl refl (rw (below_back 8 number (omega arith) h) refl)
mark_read mark.Full h = rw (no_cut_seen (codes "full") refl) refl
mark_read (mark.Renamed group number) h =
    let p = and_parts (is_below 64 group) (is_below 32 number) h in
    mark_back _ (codes "renamed") (decimal group ++ 32 ∷ decimal number) (mark.Renamed group number) (append_assoc (codes "renamed " ++ decimal group) space (decimal number)) refl
    (renamed_back group number p.0 p.1)
mark_read (mark.Contested group) h = mark_back _ (codes "contested") (decimal group) (mark.Contested group) refl refl (rw (wide_back group h) refl)
mark_read (mark.TieLost group) h = mark_back _ (codes "tielost") (decimal group) (mark.TieLost group) refl refl (rw (wide_back group h) refl)
mark_read (mark.Failed group) h = mark_back _ (codes "failed") (decimal group) (mark.Failed group) refl refl (rw (wide_back group h) refl)
mark_read (mark.Asked question why) h =
    let p = and_parts (is_below 16 question.kind) (is_spellable_name question.name) h in
    mark_back _ (codes "asked") (name_text question.name ++ 32 ∷ (kind_text question.kind ++ 32 ∷ cause_text why)) (mark.Asked question why)
    (asked_text (name_text question.name) (kind_text question.kind) (cause_text why)) refl (asked_back question why p.0 p.1)
mark_read (mark.Announced group) h = mark_back _ (codes "announced") (decimal group) (mark.Announced group) refl refl (rw (wide_back group h) refl)
mark_read (mark.Cut session) h = mark_back _ (codes "cut") (decimal session) (mark.Cut session) refl refl (rw (wide_back session h) refl)

-- ---- answers

answer_back : (text word rest : List ℕ) (a : Answer) → text ≡ word ++ 32 ∷ rest → lacks 32 word ≡ false → answer_of_words text word rest ≡ Some a → answer_in text ≡ Some a
answer_back text word rest a same h k =
    let cut : cut_of 32 text ≡ Some (word, rest) = ap (cut_of 32) same ∙ cut_of-joined 32 word rest h in rw cut k

-- a type's text is no word that names no type
no_kind : (k : ℕ) (word : List ℕ) → k < 2 ^ 16 → kind_read word ≡ None → bytes_eq (kind_text k) word ≡ false
no_kind k word small h = go (bytes_eq (kind_text k) word) refl
  where
    go : (b : Bool) → bytes_eq (kind_text k) word ≡ b → b ≡ false
    go true e = let no : Some k ≡ None = sym (kind_written k small) ∙ ap kind_read ((bytes_eq-Decides (kind_text k) word).0 e) ∙ h in absurd (cc)
    go false e = refl

no_found : kind_read (codes "found") ≡ None
unfolding kind_read numbered_kind kind_name
no_found = refl

no_resolved : kind_read (codes "resolved") ≡ None
unfolding kind_read numbered_kind kind_name
no_resolved = refl

no_named : kind_read (codes "named") ≡ None
unfolding kind_read numbered_kind kind_name
no_named = refl

zero_text : decimal 0 ≡ codes "0"
unfolding digits
zero_text = refl

-- the record of the root that has some data
root_record : Rdata → Rr
root_record rdata = record { owner = []; flush = false; ttl = 0; rdata = rdata }

root_text : (z k d : List ℕ) → z ≡ codes "0" → codes ". 0 - " ++ (k ++ space ++ d) ≡ codes "." ++ space ++ z ++ space ++ codes "-" ++ space ++ k ++ space ++ d
root_text z k d e = rw e refl

datum_back : (rdata : Rdata) → is_spellable_data rdata ≡ true → datum_in (kind_text (kind_of rdata) ++ space ++ data_text rdata) ≡ Some (Datum rdata)
unfolding root_record record_text
datum_back rdata h =
    let spelled : record_text (root_record rdata) ≡ codes "." ++ space ++ decimal 0 ++ space ++ codes "-" ++ space ++ kind_text (kind_of rdata) ++ space ++ data_text rdata = refl in
    let text : codes ". 0 - " ++ (kind_text (kind_of rdata) ++ space ++ data_text rdata) ≡ record_text (root_record rdata) = root_text (decimal 0) (kind_text (kind_of rdata)) (data_text rdata) zero_text ∙ sym spelled in
    rw (ap rr_in text ∙ rr_back (root_record rdata) h) refl

resolved_words_back : (priority weight port : ℕ) (target : List (List ℕ)) (rest : List ℕ) → is_below 16 priority ≡ true → is_below 16 weight ≡ true → is_below 16 port ≡ true → is_spellable_name target ≡ true →
    resolved_words (decimal priority ++ 32 ∷ (decimal weight ++ 32 ∷ (decimal port ++ 32 ∷ (name_text target ++ 32 ∷ rest)))) ≡ Some (priority, weight, port, target, rest)
unfolding resolved_words
resolved_words_back priority weight port target rest p w o n =
    rw (
      number_cut 16 priority (decimal weight ++ 32 ∷ (decimal port ++ 32 ∷ (name_text target ++ 32 ∷ rest))) p (omega arith),
      number_cut 16 weight (decimal port ++ 32 ∷ (name_text target ++ 32 ∷ rest)) w (omega arith),
      number_cut 16 port (name_text target ++ 32 ∷ rest) o (omega arith),
      word_cut (name_text target) rest (name_seen target),
      below_back 16 priority (omega arith) p,
      below_back 16 weight (omega arith) w,
      below_back 16 port (omega arith) o,
      name_in_back target n,
    )
    refl

resolved_text : (a b c d e : List ℕ) → codes "resolved " ++ (a ++ space ++ b ++ space ++ c ++ space ++ d) ++ space ++ e ≡ codes "resolved " ++ (a ++ 32 ∷ (b ++ 32 ∷ (c ++ 32 ∷ (d ++ 32 ∷ e))))
resolved_text a b c d e = simp append_assoc

resolved_back : (priority weight port : ℕ) (target : List (List ℕ)) (txt : List ℕ) → is_below 16 priority ≡ true → is_below 16 weight ≡ true → is_below 16 port ≡ true → is_spellable_name target ≡ true → are_bytes txt ≡ true →
    resolved_in (decimal priority ++ 32 ∷ (decimal weight ++ 32 ∷ (decimal port ++ 32 ∷ (name_text target ++ 32 ∷ hex_text txt)))) ≡ Some (Resolved priority weight port target txt)
unfolding resolved_in
resolved_back priority weight port target txt p w o n t = rw (resolved_words_back priority weight port target (hex_text txt) p w o n, hex_written txt (bytes_are txt t)) refl

-- what is known of a place at which an instance is reached
record IsPlace (priority weight port : ℕ) (target : List (List ℕ)) (txt : List ℕ) : Type 0 where
  priority_fits : is_below 16 priority ≡ true
  weight_fits : is_below 16 weight ≡ true
  port_fits : is_below 16 port ≡ true
  target_fits : is_spellable_name target ≡ true
  txt_fits : are_bytes txt ≡ true

place : (priority weight port : ℕ) (target : List (List ℕ)) (txt : List ℕ) → is_typed_answer (Resolved priority weight port target txt) ≡ true → IsPlace priority weight port target txt
place priority weight port target txt h =
    let a = and_parts (is_below 16 priority && is_below 16 weight && is_below 16 port && is_spellable_name target) (are_bytes txt) h in
    let b = four (is_below 16 priority) (is_below 16 weight) (is_below 16 port) (is_spellable_name target) a.0 in
    record { priority_fits = b.0; weight_fits = b.1; port_fits = b.2; target_fits = b.3; txt_fits = a.1 }

pub answer_read : (a : Answer) → is_typed_answer a ≡ true → answer_in (answer_text a) ≡ Some a
answer_read (Datum rdata) h =
    let small = kind_small rdata h in
    answer_back _ (kind_text (kind_of rdata)) (data_text rdata) (Datum rdata) (append_assoc (kind_text (kind_of rdata)) space (data_text rdata)) (seen_word small)
    (rw (no_kind (kind_of rdata) (codes "found") small no_found, no_kind (kind_of rdata) (codes "resolved") small no_resolved, no_kind (kind_of rdata) (codes "named") small no_named) (datum_back rdata h))
  where
    seen_word : kind_of rdata < 2 ^ 16 → lacks 32 (kind_text (kind_of rdata)) ≡ false
    seen_word small = seen_lacks (kind_text (kind_of rdata)) (kind_seen (kind_of rdata) small)
answer_read (Found instance) h = answer_back _ (codes "found") (name_text instance) (Found instance) refl refl (rw (name_in_back instance h) refl)
answer_read (Resolved priority weight port target txt) h =
    let p = place priority weight port target txt h in
    answer_back _ (codes "resolved") (decimal priority ++ 32 ∷ (decimal weight ++ 32 ∷ (decimal port ++ 32 ∷ (name_text target ++ 32 ∷ hex_text txt)))) (Resolved priority weight port target txt)
    (resolved_text (decimal priority) (decimal weight) (decimal port) (name_text target) (hex_text txt)) refl
    (resolved_back priority weight port target txt p.priority_fits p.weight_fits p.port_fits p.target_fits p.txt_fits)
answer_read (Named full) h = answer_back _ (codes "named") (name_text full) (Named full) refl refl (rw (name_in_back full h) refl)
answer_read Conflict h = rw (no_cut_seen (codes "conflict") refl) refl

-- ---- items

verb_back : (v : Verb) → verb_in (verb_text v) ≡ Some v
verb_back verb.Start = refl
verb_back verb.Update = refl
verb_back verb.Stop = refl

verb_seen : (v : Verb) → are_seen (verb_text v) ≡ true
verb_seen verb.Start = refl
verb_seen verb.Update = refl
verb_seen verb.Stop = refl

item_back : (text word rest : List ℕ) (i : Item) → text ≡ word ++ 32 ∷ rest → lacks 32 word ≡ false → item_of_words word rest ≡ Some i → item_in text ≡ Some i
item_back text word rest i same h k =
    let cut : cut_of 32 text ≡ Some (word, rest) = ap (cut_of 32) same ∙ cut_of-joined 32 word rest h in rw cut k

reply_text : (a b c : List ℕ) → codes "reply " ++ a ++ space ++ b ++ space ++ c ≡ codes "reply " ++ (a ++ 32 ∷ (b ++ 32 ∷ c))
reply_text a b c = simp append_assoc

change_back : (op : ℕ) (a : Answer) → is_below 32 op ≡ true → is_typed_answer a ≡ true → change_in (decimal op ++ 32 ∷ answer_text a) ≡ Some (op, a)
change_back op a h k = rw (number_cut 32 op (answer_text a) h (omega arith), below_back 32 op (omega arith) h, answer_read a k) refl

replied : (op : ℕ) (v : Verb) (code : ℤ) → is_below 32 op ≡ true → is_signed code ≡ true → reply_in (decimal op ++ 32 ∷ (verb_text v ++ 32 ∷ signed_decimal code)) ≡ Some (Reply op v code)
unfolding reply_in
replied op v code h k =
    rw (
      number_cut 32 op (verb_text v ++ 32 ∷ signed_decimal code) h (omega arith),
      word_cut (verb_text v) (signed_decimal code) (verb_seen v),
      below_back 32 op (omega arith) h,
      verb_back v,
      signed_back code k,
    )
    refl

pub item_read : (i : Item) → is_typed_item i ≡ true → item_in (item_text i) ≡ Some i
item_read (Reply op v code) h =
    let p = and_parts (is_below 32 op) (is_signed code) h in
    item_back _ (codes "reply") (decimal op ++ 32 ∷ (verb_text v ++ 32 ∷ signed_decimal code)) (Reply op v code) (reply_text (decimal op) (verb_text v) (signed_decimal code)) refl
    (replied op v code p.0 p.1)
item_read (Add op a) h =
    let p = and_parts (is_below 32 op) (is_typed_answer a) h in
    item_back _ (codes "add") (decimal op ++ 32 ∷ answer_text a) (Add op a) (append_assoc (codes "add " ++ decimal op) space (answer_text a)) refl (rw (change_back op a p.0 p.1) refl)
item_read (Remove op a) h =
    let p = and_parts (is_below 32 op) (is_typed_answer a) h in
    item_back _ (codes "rem") (decimal op ++ 32 ∷ answer_text a) (Remove op a) (append_assoc (codes "rem " ++ decimal op) space (answer_text a)) refl (rw (change_back op a p.0 p.1) refl)

pub given_read : (g : Given) → is_typed_given g ≡ true → given_in (decimal g.session ++ space ++ item_text g.item) ≡ Some g
given_read g h =
    let p = and_parts (is_below 64 g.session) (is_typed_item g.item) h in
    ap given_in (append_assoc (decimal g.session) space (item_text g.item))
    ∙ rw (number_cut 64 g.session (item_text g.item) p.0 (omega arith), wide_back g.session p.0, item_read g.item p.1) refl
