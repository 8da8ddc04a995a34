-- What is read of marks, items and outcomes can be printed.
use Rattle.std.proofs.Common.{◌≡◌, ℕ, ◌^◌, Bool, true, false, cond, ◌&&◌, List, ◌++◌, Option, Some, None, refl, ap, sym, ◌∙◌, codes, subst}
use Rattle.std.specs.Option.{option_map}
use Rattle.std.specs.Str.{bytes_eq}
use Rattle.std.proofs.lemmas.Bool.{and_from}
use Rattle.number_text.specs.Cut.{cut_of}
use Rattle.number_text.specs.Digits.{◌>>=◌, decimal_of, decimal_below, hex_of}
use Rattle.dns_record.specs.ReadRecord.{kind_read}
use Rattle.dns_message.specs.Writing.{is_below, is_spellable_name}
use Rattle.sd_call.specs.declared.answer.Answer.{Answer}
use Rattle.sd_call.specs.declared.answer.Answer.TheVariants.{Datum, Found, Resolved, Named, Conflict}
use Rattle.sd_call.specs.declared.item.Item.{Item}
use Rattle.sd_call.specs.declared.item.Item.TheVariants.{Reply, Add, Remove}
use Rattle.mdns_history.specs.declared.mark.Mark.{Mark}
use Rattle.mdns_history.specs.declared.mark.Mark.TheVariants as mark
use Rattle.mdns_history.specs.declared.entry.Given.{Given}
use Rattle.mdns_history.specs.Typed.{is_typed_answer, is_typed_item, is_typed_mark, is_typed_given, is_typed_outcome}
use Rattle.mdns_script.proofs.ReadTokens.{come_of, mapped_of, some_same, decimal_is, below_is, hex_is, kind_is}
use Rattle.mdns_print.specs.declared.line.Ending.{Ending}
use Rattle.mdns_print.specs.declared.line.Ending.TheVariants as ending
use Rattle.mdns_print.specs.declared.line.Line.{Line}
use Rattle.mdns_print.specs.declared.line.Line.TheVariants as lines
use Rattle.mdns_print.specs.LineText.{outcome_of}
use Rattle.mdns_lines.specs.Words.{if_word, name_in, signed_in}
use Rattle.mdns_lines.specs.ReadItems.{asked_in, cause_in, renamed_in, mark_of_group, mark_of_words, mark_in, rr_in, datum_in, resolved_words, resolved_in, answer_of_words, answer_in, verb_in, reply_in, change_in, item_of_words, item_in, given_in, plain_ending, outcome_of_words, outcome_in}
use Rattle.mdns_lines.proofs.OnlyWords.{name_in_is, signed_in_is, word_is}
use Rattle.mdns_lines.proofs.OnlyRecords.{record_data, rr_is}
use Rattle.mdns_lines.proofs.OnlyEvents.{IsLine}

-- ---- marks

abbrev IsMark : Mark → Type 0
IsMark m = is_typed_mark m ≡ true

asked_is : (text : List ℕ) (m : Mark) → asked_in text ≡ Some m → IsMark m
unfolding asked_in
asked_is text m h =
    let name = come_of (cut_of 32 text) _ m h in
    let kind = come_of (cut_of 32 name.from.1) _ m name.gives in
    let n = come_of (name_in name.from.0) _ m kind.gives in
    let k = come_of (kind_read kind.from.0) _ m n.gives in
    let cause = come_of (cause_in kind.from.1) _ m k.gives in
    subst IsMark (some_same (mark.Asked (record { name = n.from; kind = k.from }) cause.from) m cause.gives) (and_from _ _ (kind_is kind.from.0 k.from k.is) (name_in_is name.from.0 n.from n.is))

renamed_is : (text : List ℕ) (m : Mark) → renamed_in text ≡ Some m → IsMark m
unfolding renamed_in
renamed_is text m h =
    let group = come_of (cut_of 32 text) _ m h in
    let g = come_of (decimal_of group.from.0) _ m group.gives in
    let n = come_of (decimal_below (2 ^ 32) group.from.1) _ m g.gives in
    subst IsMark (some_same (mark.Renamed g.from n.from) m n.gives) (and_from _ _ (decimal_is group.from.0 g.from g.is) (below_is 32 group.from.1 n.from n.is))

bad_is : (text : List ℕ) (m : Mark) → option_map (λ n. mark.Bad n) (decimal_below (2 ^ 8) text) ≡ Some m → IsMark m
bad_is text m h = let f = mapped_of (decimal_below (2 ^ 8) text) (λ n. mark.Bad n) m h in subst IsMark f.gives (below_is 8 text f.from f.is)

group_mark_is : (word : List ℕ) (n : ℕ) (m : Mark) → is_below 64 n ≡ true → mark_of_group word n ≡ Some m → IsMark m
group_mark_is word n m b h = go (bytes_eq word (codes "announced")) (bytes_eq word (codes "contested")) (bytes_eq word (codes "tielost")) (bytes_eq word (codes "failed")) h
  where
    go : (u v w x : Bool) →
        cond u (Some (mark.Announced n)) (cond v (Some (mark.Contested n)) (cond w (Some (mark.TieLost n)) (cond x (Some (mark.Failed n)) (if_word (codes "cut") word (mark.Cut n))))) ≡ Some m → IsMark m
    go true v w x k = subst IsMark (some_same (mark.Announced n) m k) b
    go false true w x k = subst IsMark (some_same (mark.Contested n) m k) b
    go false false true x k = subst IsMark (some_same (mark.TieLost n) m k) b
    go false false false true k = subst IsMark (some_same (mark.Failed n) m k) b
    go false false false false k = subst IsMark (word_is (codes "cut") word (mark.Cut n) m k) b

mark_words_are : (word rest : List ℕ) (m : Mark) → mark_of_words word rest ≡ Some m → IsMark m
mark_words_are word rest m h = go (bytes_eq word (codes "asked")) (bytes_eq word (codes "renamed")) (bytes_eq word (codes "bad")) h
  where
    go : (a b c : Bool) →
        cond a (asked_in rest) (cond b (renamed_in rest) (cond c (option_map (λ n. mark.Bad n) (decimal_below (2 ^ 8) rest)) (decimal_of rest >>= mark_of_group word))) ≡ Some m → IsMark m
    go true b c k = asked_is rest m k
    go false true c k = renamed_is rest m k
    go false false true k = bad_is rest m k
    go false false false k = let n = come_of (decimal_of rest) (mark_of_group word) m k in group_mark_is word n.from m (decimal_is rest n.from n.is) n.gives

pub mark_is : (text : List ℕ) (m : Mark) → mark_in text ≡ Some m → IsMark m
mark_is text m h = go (cut_of 32 text) refl
  where
    go : (o : Option (List ℕ × List ℕ)) → cut_of 32 text ≡ o → IsMark m
    go None k = let found : if_word (codes "full") text mark.Full ≡ Some m = rw k at h in subst IsMark (word_is (codes "full") text mark.Full m found) refl
    go (Some words) k = let found : mark_of_words words.0 words.1 ≡ Some m = rw k at h in mark_words_are words.0 words.1 m found

-- ---- items

abbrev IsAnswer : Answer → Type 0
IsAnswer a = is_typed_answer a ≡ true

datum_is : (text : List ℕ) (a : Answer) → datum_in text ≡ Some a → IsAnswer a
datum_is text a h =
    let m = mapped_of (rr_in (codes ". 0 - " ++ text)) (λ rr. Datum rr.rdata) a h in subst IsAnswer m.gives (record_data m.from (rr_is (codes ". 0 - " ++ text) m.from m.is))

abbrev ResolvedWords : Type 0
ResolvedWords = ℕ × ℕ × ℕ × List (List ℕ) × List ℕ

record AreResolved (words : ResolvedWords) : Type 0 where
  priority : is_below 16 words.0 ≡ true
  weight : is_below 16 words.1 ≡ true
  port : is_below 16 words.2 ≡ true
  target : is_spellable_name words.3 ≡ true

resolved_words_are : (text : List ℕ) (words : ResolvedWords) → resolved_words text ≡ Some words → AreResolved words
unfolding resolved_words
resolved_words_are text words h =
    let priority = come_of (cut_of 32 text) _ words h in
    let weight = come_of (cut_of 32 priority.from.1) _ words priority.gives in
    let port = come_of (cut_of 32 weight.from.1) _ words weight.gives in
    let target = come_of (cut_of 32 port.from.1) _ words port.gives in
    let p = come_of (decimal_below (2 ^ 16) priority.from.0) _ words target.gives in
    let w = come_of (decimal_below (2 ^ 16) weight.from.0) _ words p.gives in
    let o = come_of (decimal_below (2 ^ 16) port.from.0) _ words w.gives in
    let name = come_of (name_in target.from.0) _ words o.gives in
    subst AreResolved (some_same (p.from, w.from, o.from, name.from, target.from.1) words name.gives)
    (record {
      priority = below_is 16 priority.from.0 p.from p.is;
      weight = below_is 16 weight.from.0 w.from w.is;
      port = below_is 16 port.from.0 o.from o.is;
      target = name_in_is target.from.0 name.from name.is;
    })

resolved_is : (text : List ℕ) (a : Answer) → resolved_in text ≡ Some a → IsAnswer a
unfolding resolved_in
resolved_is text a h =
    let words = come_of (resolved_words text) _ a h in
    let txt = come_of (hex_of words.from.4) _ a words.gives in
    let are = resolved_words_are text words.from words.is in
    subst IsAnswer (some_same (Resolved words.from.0 words.from.1 words.from.2 words.from.3 txt.from) a txt.gives)
    (and_from _ _ (and_from _ _ (and_from _ _ (and_from _ _ are.priority are.weight) are.port) are.target) (hex_is words.from.4 txt.from txt.is))

found_is : (text : List ℕ) (a : Answer) → option_map (λ name. Found name) (name_in text) ≡ Some a → IsAnswer a
found_is text a h = let m = mapped_of (name_in text) (λ name. Found name) a h in subst IsAnswer m.gives (name_in_is text m.from m.is)

named_is : (text : List ℕ) (a : Answer) → option_map (λ name. Named name) (name_in text) ≡ Some a → IsAnswer a
named_is text a h = let m = mapped_of (name_in text) (λ name. Named name) a h in subst IsAnswer m.gives (name_in_is text m.from m.is)

answer_words_are : (text word rest : List ℕ) (a : Answer) → answer_of_words text word rest ≡ Some a → IsAnswer a
answer_words_are text word rest a h = go (bytes_eq word (codes "found")) (bytes_eq word (codes "resolved")) (bytes_eq word (codes "named")) h
  where
    go : (u v w : Bool) → cond u (option_map (λ name. Found name) (name_in rest)) (cond v (resolved_in rest) (cond w (option_map (λ name. Named name) (name_in rest)) (datum_in text))) ≡ Some a → IsAnswer a
    go true v w k = found_is rest a k
    go false true w k = resolved_is rest a k
    go false false true k = named_is rest a k
    go false false false k = datum_is text a k

answer_is : (text : List ℕ) (a : Answer) → answer_in text ≡ Some a → IsAnswer a
answer_is text a h = go (cut_of 32 text) refl
  where
    go : (o : Option (List ℕ × List ℕ)) → cut_of 32 text ≡ o → IsAnswer a
    go None k = let found : if_word (codes "conflict") text Conflict ≡ Some a = rw k at h in subst IsAnswer (word_is (codes "conflict") text Conflict a found) refl
    go (Some words) k = let found : answer_of_words text words.0 words.1 ≡ Some a = rw k at h in answer_words_are text words.0 words.1 a found

abbrev IsItem : Item → Type 0
IsItem i = is_typed_item i ≡ true

reply_is : (text : List ℕ) (i : Item) → reply_in text ≡ Some i → IsItem i
unfolding reply_in
reply_is text i h =
    let op = come_of (cut_of 32 text) _ i h in
    let verb = come_of (cut_of 32 op.from.1) _ i op.gives in
    let o = come_of (decimal_below (2 ^ 32) op.from.0) _ i verb.gives in
    let v = come_of (verb_in verb.from.0) _ i o.gives in
    let code = come_of (signed_in verb.from.1) _ i v.gives in
    subst IsItem (some_same (Reply o.from v.from code.from) i code.gives) (and_from _ _ (below_is 32 op.from.0 o.from o.is) (signed_in_is verb.from.1 code.from code.is))

-- the number of an operation and an answer
abbrev IsChange : ℕ × Answer → Type 0
IsChange change = (is_below 32 change.0 && is_typed_answer change.1) ≡ true

change_is : (text : List ℕ) (change : ℕ × Answer) → change_in text ≡ Some change → IsChange change
change_is text change h =
    let op = come_of (cut_of 32 text) _ change h in
    let o = come_of (decimal_below (2 ^ 32) op.from.0) _ change op.gives in
    let answer = come_of (answer_in op.from.1) _ change o.gives in
    subst IsChange (some_same (o.from, answer.from) change answer.gives) (and_from _ _ (below_is 32 op.from.0 o.from o.is) (answer_is op.from.1 answer.from answer.is))

add_is : (text : List ℕ) (i : Item) → option_map (λ change. Add change.0 change.1) (change_in text) ≡ Some i → IsItem i
add_is text i h = let m = mapped_of (change_in text) (λ change. Add change.0 change.1) i h in subst IsItem m.gives (change_is text m.from m.is)

rem_is : (text : List ℕ) (i : Item) → option_map (λ change. Remove change.0 change.1) (change_in text) ≡ Some i → IsItem i
rem_is text i h = let m = mapped_of (change_in text) (λ change. Remove change.0 change.1) i h in subst IsItem m.gives (change_is text m.from m.is)

item_words_are : (word rest : List ℕ) (i : Item) → item_of_words word rest ≡ Some i → IsItem i
item_words_are word rest i h = go (bytes_eq word (codes "reply")) (bytes_eq word (codes "add")) (bytes_eq word (codes "rem")) h
  where
    go : (u v w : Bool) →
        cond u (reply_in rest) (cond v (option_map (λ change. Add change.0 change.1) (change_in rest)) (cond w (option_map (λ change. Remove change.0 change.1) (change_in rest)) None)) ≡ Some i → IsItem i
    go true v w k = reply_is rest i k
    go false true w k = add_is rest i k
    go false false true k = rem_is rest i k
    go false false false k = absurd (cc)

pub item_is : (text : List ℕ) (i : Item) → item_in text ≡ Some i → IsItem i
item_is text i h = let words = come_of (cut_of 32 text) (λ words. item_of_words words.0 words.1) i h in item_words_are words.from.0 words.from.1 i words.gives

pub given_is : (text : List ℕ) (g : Given) → given_in text ≡ Some g → is_typed_given g ≡ true
given_is text g h =
    let words = come_of (cut_of 32 text) _ g h in
    let session = come_of (decimal_of words.from.0) _ g words.gives in
    let item = come_of (item_in words.from.1) _ g session.gives in
    sym (ap is_typed_given (some_same (record { session = session.from; item = item.from }) g item.gives)) ∙ and_from _ _ (decimal_is words.from.0 session.from session.is) (item_is words.from.1 item.from item.is)

-- ---- outcomes

plain_ending_is : (text : List ℕ) (e : Ending) → plain_ending text ≡ Some e → is_typed_outcome (outcome_of e) ≡ true
plain_ending_is text e h = go (bytes_eq text (codes "full")) (bytes_eq text (codes "ended")) (bytes_eq text (codes "closed")) (bytes_eq text (codes "cut")) h
  where
    fits : Ending → Type 0
    fits found = is_typed_outcome (outcome_of found) ≡ true

    go : (u v w x : Bool) →
        cond u (Some ending.Full) (cond v (Some ending.Ended) (cond w (Some ending.Closed) (cond x (Some ending.Cut) (if_word (codes "empty") text ending.Empty)))) ≡ Some e → fits e
    go true v w x k = subst fits (some_same ending.Full e k) refl
    go false true w x k = subst fits (some_same ending.Ended e k) refl
    go false false true x k = subst fits (some_same ending.Closed e k) refl
    go false false false true k = subst fits (some_same ending.Cut e k) refl
    go false false false false k = subst fits (word_is (codes "empty") text ending.Empty e k) refl

-- a line that is made of one value
pub line_of_one : {A : Type 0} (o : Option A) (make : A → Line) (l : Line) → ((x : A) → o ≡ Some x → IsLine (make x)) → option_map make o ≡ Some l → IsLine l
line_of_one o make l fit h = let m = mapped_of o make l h in subst IsLine m.gives (fit m.from m.is)

outcome_words_are : (word rest : List ℕ) (l : Line) → outcome_of_words word rest ≡ Some l → IsLine l
outcome_words_are word rest l h = go (bytes_eq word (codes "opened")) (bytes_eq word (codes "code")) (bytes_eq word (codes "items")) h
  where
    go : (u v w : Bool) →
        cond u (option_map (λ session. lines.Ending (ending.Opened session)) (decimal_of rest)) (cond v (option_map (λ code. lines.Ending (ending.Code code)) (signed_in rest))
        (cond w (option_map (λ count. lines.Count count) (decimal_of rest)) None)) ≡ Some l → IsLine l
    go true v w k = line_of_one (decimal_of rest) (λ session. lines.Ending (ending.Opened session)) l (decimal_is rest) k
    go false true w k = line_of_one (signed_in rest) (λ code. lines.Ending (ending.Code code)) l (signed_in_is rest) k
    go false false true k = line_of_one (decimal_of rest) (λ count. lines.Count count) l (decimal_is rest) k
    go false false false k = absurd (cc)

pub outcome_is : (text : List ℕ) (l : Line) → outcome_in text ≡ Some l → IsLine l
outcome_is text l h = go (cut_of 32 text) refl
  where
    go : (o : Option (List ℕ × List ℕ)) → cut_of 32 text ≡ o → IsLine l
    go None k =
        let found : option_map (λ ending. lines.Ending ending) (plain_ending text) ≡ Some l = rw k at h in line_of_one (plain_ending text) (λ ending. lines.Ending ending) l (plain_ending_is text) found
    go (Some words) k = let found : outcome_of_words words.0 words.1 ≡ Some l = rw k at h in outcome_words_are words.0 words.1 l found
