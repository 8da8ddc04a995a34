-- What is read of a line can be printed.
use Rattle.std.proofs.Common.{◌≡◌, ℕ, ◌^◌, Bool, true, false, List, Option, Some, None, refl, ap, sym, ◌∙◌, inl, inr, codes, subst}
use Rattle.std.specs.Option.{option_map}
use Rattle.std.specs.Str.{bytes_eq}
use Rattle.std.proofs.lemmas.Bool.{and_from}
use Rattle.number_text.specs.Cut.{cut_of}
use Rattle.number_text.specs.Digits.{◌>>=◌, decimal_below}
use Rattle.mdns_base.specs.declared.host.Dest.{Dest}
use Rattle.mdns_base.specs.declared.host.Dest.TheVariants.{All, One}
use Rattle.dns_record.specs.ReadRecord.{kind_read}
use Rattle.dns_record.specs.declared.record.Question.{Question}
use Rattle.dns_message.specs.Writing.{is_below, are_bytes, is_spellable_question}
use Rattle.mdns_history.specs.EntryText.{line}
use Rattle.mdns_history.specs.Typed.{is_typed_dest}
use Rattle.mdns_script.specs.Tokens.{when}
use Rattle.mdns_script.proofs.ReadTokens.{come_of, mapped_of, some_same, passed, either_of, below_is, kind_is}
use Rattle.mdns_print.specs.declared.line.Section.{Section}
use Rattle.mdns_print.specs.declared.line.Line.{Line}
use Rattle.mdns_print.specs.declared.line.Line.TheVariants as lines
use Rattle.mdns_print.specs.LineText.{line_text}
use Rattle.mdns_lines.specs.Words.{after, if_word, name_in, host_in}
use Rattle.mdns_lines.specs.ReadItems.{mark_in, rr_in, item_in, given_in}
use Rattle.mdns_lines.specs.ReadLines.{id_in, way_in, way_words, to_host, sent_in, kind_in, question_in, record_in, inner_line, line_in}
use Rattle.mdns_lines.specs.Printable.{is_printable_line, ArePrintable}
use Rattle.mdns_lines.proofs.OnlyWords.{after_bytes, either_is, host_in_is, name_in_is, word_is}
use Rattle.mdns_lines.proofs.OnlyRecords.{rr_is}
use Rattle.mdns_lines.proofs.OnlyEvents.{IsLine, head_is}
use Rattle.mdns_lines.proofs.OnlyItems.{given_is, item_is, line_of_one, mark_is, outcome_is}

-- ---- sent messages

abbrev IdWords : Type 0
IdWords = ℕ × Bool

id_is : (text : List ℕ) (id : IdWords) → id_in text ≡ Some id → is_below 16 id.0 ≡ true
id_is text id h = go (cut_of 32 text) refl
  where
    fits : IdWords → Type 0
    fits found = is_below 16 found.0 ≡ true

    go : (o : Option (List ℕ × List ℕ)) → cut_of 32 text ≡ o → fits id
    go None k =
        let found : option_map {T = ℕ} {U = IdWords} (λ id. (id, false)) (decimal_below (2 ^ 16) text) ≡ Some id = rw k at h in
        let m = mapped_of (decimal_below (2 ^ 16) text) (λ id. (id, false)) id found in
        subst fits m.gives (below_is 16 text m.from m.is)
    go (Some words) k =
        let found : (decimal_below (2 ^ 16) words.0 >>= λ id. if_word {A = IdWords} (codes "tc") words.1 (id, true)) ≡ Some id = rw k at h in
        let c = come_of (decimal_below (2 ^ 16) words.0) (λ id. if_word {A = IdWords} (codes "tc") words.1 (id, true)) id found in
        subst fits (word_is (codes "tc") words.1 (c.from, true) id c.gives) (below_is 16 words.0 c.from c.is)

way_is : (to : Dest) (text : List ℕ) (l : Line) → is_typed_dest to ≡ true → way_words to text ≡ Some l → IsLine l
unfolding way_words
way_is to text l t h =
    let way = come_of (cut_of 32 text) _ l h in
    let response = come_of (way_in way.from.0) _ l way.gives in
    let id = come_of (id_in way.from.1) _ l response.gives in
    subst IsLine (some_same (lines.Sent to response.from id.from.0 id.from.1) l id.gives) (and_from _ _ t (id_is way.from.1 id.from id.is))

to_host_is : (ip rest : List ℕ) (l : Line) → to_host ip rest ≡ Some l → IsLine l
unfolding to_host
to_host_is ip rest l h =
    let port = come_of (cut_of 32 rest) _ l h in
    let host = come_of (host_in ip port.from.0) _ l port.gives in
    way_is (One host.from) port.from.1 l (host_in_is ip port.from.0 host.from host.is) host.gives

sent_is : (text : List ℕ) (l : Line) → sent_in text ≡ Some l → IsLine l
sent_is text l h =
    let to = come_of (cut_of 32 text) _ l h in
    elim (either_of (bytes_eq to.from.0 (codes "all")) (way_words All to.from.1) (to_host to.from.0 to.from.1) l to.gives) [
      | inl k ↦ way_is All to.from.1 l refl k
      | inr k ↦ to_host_is to.from.0 to.from.1 l k
    ]

kind_in_is : (text : List ℕ) (kind : IdWords) → kind_in text ≡ Some kind → is_below 16 kind.0 ≡ true
kind_in_is text kind h = go (cut_of 32 text) refl
  where
    fits : IdWords → Type 0
    fits found = is_below 16 found.0 ≡ true

    go : (o : Option (List ℕ × List ℕ)) → cut_of 32 text ≡ o → fits kind
    go None k =
        let found : option_map {T = ℕ} {U = IdWords} (λ kind. (kind, false)) (kind_read text) ≡ Some kind = rw k at h in
        let m = mapped_of (kind_read text) (λ kind. (kind, false)) kind found in
        subst fits m.gives (kind_is text m.from m.is)
    go (Some words) k =
        let found : (kind_read words.0 >>= λ kind. if_word {A = IdWords} (codes "qu") words.1 (kind, true)) ≡ Some kind = rw k at h in
        let c = come_of (kind_read words.0) (λ kind. if_word {A = IdWords} (codes "qu") words.1 (kind, true)) kind found in
        subst fits (word_is (codes "qu") words.1 (c.from, true) kind c.gives) (kind_is words.0 c.from c.is)

question_is : (text : List ℕ) (q : Question) → question_in text ≡ Some q → is_spellable_question q ≡ true
unfolding question_in
question_is text q h =
    let name = come_of (cut_of 32 text) _ q h in
    let n = come_of (name_in name.from.0) _ q name.gives in
    let kind = come_of (kind_in name.from.1) _ q n.gives in
    sym (ap is_spellable_question (some_same (record { name = n.from; kind = kind.from.0; unicast = kind.from.1 }) q kind.gives)) ∙ and_from _ _ (name_in_is name.from.0 n.from n.is) (kind_in_is name.from.1 kind.from kind.is)

-- ---- lines

record_line_is : (section : Section) (text : List ℕ) (l : Line) → record_in section text ≡ Some l → IsLine l
record_line_is section text l h = line_of_one (rr_in text) (λ rr. lines.Record section rr) l (rr_is text) h

inner_is : (text : List ℕ) (l : Line) → inner_line text ≡ Some l → IsLine l
inner_is text l h =
    elim (either_is (after (codes "? ") text) _ _ l h) [
      | inl q ↦ line_of_one (question_in q.rest) (λ question. lines.Question question) l (question_is q.rest) q.gives
      | inr h1 ↦
          elim (either_is (after (codes "a ") text) _ _ l h1) [
            | inl a ↦ record_line_is _ a.rest l a.gives
            | inr h2 ↦
                elim (either_is (after (codes "n ") text) _ _ l h2) [
                  | inl n ↦ record_line_is _ n.rest l n.gives
                  | inr h3 ↦
                      elim (either_is (after (codes "x ") text) _ _ l h3) [
                        | inl x ↦ record_line_is _ x.rest l x.gives
                        | inr h4 ↦ line_of_one (item_in text) (λ item. lines.Item item) l (item_is text) h4
                      ]
                ]
          ]
    ]

line_is : (text : List ℕ) (l : Line) → are_bytes text ≡ true → line_in text ≡ Some l → IsLine l
line_is text l b h =
    elim (either_is (after (codes "@") text) _ _ l h) [
      | inl a ↦ head_is a.rest l (after_bytes (codes "@") text a.rest b a.is) a.gives
      | inr h1 ↦
          elim (either_is (after (codes " ! ") text) _ _ l h1) [
            | inl m ↦ line_of_one (mark_in m.rest) (λ mark. lines.Mark mark) l (mark_is m.rest) m.gives
            | inr h2 ↦
                elim (either_is (after (codes " > ") text) _ _ l h2) [
                  | inl s ↦ sent_is s.rest l s.gives
                  | inr h3 ↦
                      elim (either_is (after (codes " < ") text) _ _ l h3) [
                        | inl g ↦ line_of_one (given_in g.rest) (λ given. lines.Given given) l (given_is g.rest) g.gives
                        | inr h4 ↦
                            elim (either_is (after (codes " = ") text) _ _ l h4) [
                              | inl o ↦ outcome_is o.rest l o.gives
                              | inr h5 ↦
                                  elim (either_is (after (codes "  ") text) _ _ l h5) [
                                    | inl i ↦ inner_is i.rest l i.gives
                                    | inr none ↦ absurd (cc)
                                  ]
                            ]
                      ]
                ]
          ]
    ]

pub only_printable : ArePrintable
only_printable text read b h =
    let l = come_of (line_in text) (λ l. when (bytes_eq (line_text l) (line text)) l) read h in
    sym (ap is_printable_line (passed (bytes_eq (line_text l.from) (line text)) l.from read l.gives).1) ∙ line_is text l.from b l.is
