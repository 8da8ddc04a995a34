-- Questions that are asked again are owed what they were owed before.
use Rattle.std.proofs.Common.{◌≡◌, ℕ, ◌<◌, length, get_or, take, ◌+◌, ◌*◌, ◌==◌, Bool, true, false, not, ◌&&◌, ◌||◌, cond, List, [], ◌∷◌, ◌++◌, map, filter, Option, refl, ap, sym, ◌∙◌, eqb-true, arith, true≢false}
use Rattle.std.specs.List.{list_any, flat_map}
use Rattle.std.proofs.lemmas.Bool.{and_parts, not-false}
use Rattle.std.proofs.lemmas.List.{take_more, flat_map_more}
use Rattle.std.proofs.lemmas.List.Folds.{list_any-append}
use Rattle.dns_name.specs.Names.{folded_eq}
use Rattle.dns_name.proofs.Folding.{folded_eq-equivalence}
use Rattle.dns_record.specs.declared.record.Rr.{Rr}
use Rattle.dns_record.specs.declared.record.Question.{Question}
use Rattle.dns_record.specs.Records.{matches, any_kind, kind_of}
use Rattle.by_name.specs.At.{At, at_eq}
use Rattle.indexmap.specs.IndexSet.{insert_key, insert_all}
use Rattle.mdns_base.specs.declared.host.Dest.TheVariants.{All, One}
use Rattle.mdns_base.specs.Hosts.{mdns_port}
use Rattle.mdns_history.specs.Hearings.{Heard}
use Rattle.mdns_history.specs.Debts.{Owed, owed_eq, own_or_nsec, is_struck, is_recent}
use Rattle.mdns_debts.specs.Following.{Ours, owed_to, way_for}
use Rattle.mdns_owing.specs.Asked.{asked_as}
use Rattle.mdns_owing.specs.Keys.{owed_is_equivalence}
use Rattle.mdns_owing.specs.Owing.{owed_for}
use Rattle.mdns_owing.proofs.Once.{all_more, are_in, all_in, still_in, put_again}

-- what an answered question of these is owed is among what is owed
abbrev pub AreAnswered : (Question → List Owed) → List At → List Owed → Type 0
AreAnswered of asked owed = (question : Question) → list_any (at_eq (asked_as question)) asked ≡ true → are_in owed_eq owed (of question) ≡ true

-- Two questions differ in nothing that decides what they are owed.
record Alike (one other : Question) : Type 0 where
  name : (rr : Rr) → folded_eq one.name rr.owner ≡ folded_eq other.name rr.owner
  turned : (rr : Rr) → folded_eq rr.owner one.name ≡ folded_eq rr.owner other.name
  kind : one.kind ≡ other.kind
  unicast : one.unicast ≡ other.unicast

split_kind : (k n : ℕ) (b c : Bool) → 2 * k + cond b 1 0 ≡ 2 * n + cond c 1 0 → (k ≡ n) × (b ≡ c)
split_kind k n true true e = (omega arith, refl)
split_kind k n true false e = absurd (omega arith)
split_kind k n false true e = absurd (omega arith)
split_kind k n false false e = (omega arith, refl)

alike : (one other : Question) → at_eq (asked_as one) (asked_as other) ≡ true → Alike one other
unfolding folded_eq
alike one other h =
    let parts = and_parts (folded_eq one.name other.name) ((asked_as one).number == (asked_as other).number) h in
    let rest = split_kind one.kind other.kind one.unicast other.unicast (eqb-true (asked_as one).number (asked_as other).number parts.1) in
    record {
      name = λ rr. folded_eq-equivalence.congr one.name other.name rr.owner parts.0;
      turned = λ rr. folded_eq-equivalence.symm rr.owner one.name ∙ folded_eq-equivalence.congr one.name other.name rr.owner parts.0 ∙ folded_eq-equivalence.symm other.name rr.owner;
      kind = rest.0;
      unicast = rest.1;
    }

or_nsec_alike : (rrs nsecs : List Rr) (one other : Question) → one.kind ≡ other.kind → own_or_nsec rrs nsecs one ≡ own_or_nsec rrs nsecs other
or_nsec_alike [] nsecs one other e = (λ i. cond (e i == any_kind) [] nsecs)
or_nsec_alike (rr ∷ rrs) nsecs one other e = refl

owed_alike : (own : Ours) (one other : Question) → Alike one other → owed_to own one ≡ owed_to own other
unfolding matches
owed_alike own one other like =
    (λ i. own_or_nsec (filter (λ rr. like.name rr i && ((like.kind i == any_kind) || (like.kind i == kind_of rr.rdata))) own.records) (filter (λ rr. like.turned rr i) own.names) one)
    ∙ or_nsec_alike (filter (matches (record { name = other.name; kind = other.kind })) own.records) (filter (λ rr. folded_eq rr.owner other.name) own.names) one other like.kind

-- what is owed once one more question was answered
pub one_more : (of : Question → List Owed) (start : List Owed) (questions : List Question) (i : ℕ) (question : Question) (owed : List Owed) → i < length questions → question ≡ get_or questions i question
    → owed ≡ insert_all owed_eq start (flat_map of (take i questions)) → insert_all owed_eq owed (of question) ≡ insert_all owed_eq start (flat_map of (take (i + 1) questions))
one_more of start questions i question owed within is before =
    ap (λ (keys : List Owed). insert_all owed_eq keys (of question)) before
    ∙ sym (all_more owed_eq start (flat_map of (take i questions)) (of question))
    ∙ ap (insert_all owed_eq start) (flat_map_more of [] (take i questions) question)
    ∙ ap (λ (qs : List Question). insert_all owed_eq start (flat_map of qs)) (ap (λ (q : Question). take i questions ++ q ∷ []) is ∙ sym (take_more questions i question within))

module _ (own : Ours) (lasts : Rr → Option ℕ) (heard : Heard) (moment : ℕ) where
  -- questions with one key are owed the same
  same_owed : (one other : Question) → at_eq (asked_as one) (asked_as other) ≡ true → owed_for own lasts heard moment one ≡ owed_for own lasts heard moment other
  same_owed one other h =
      let like = alike one other h in
      ap (λ (rrs : List Rr). map (λ rr. (rr, way_for lasts heard moment one rr)) (filter (λ rr. not (is_struck heard.message.answers rr)) rrs)) (owed_alike own one other like)
      ∙ (λ i. map (λ rr. (rr, cond (not (heard.from.port == mdns_port) || (like.unicast i && is_recent rr moment (lasts rr))) (One heard.from) All)) (filter (λ rr. not (is_struck heard.message.answers rr)) (owed_to own other)))

  abbrev of : Question → List Owed
  of = owed_for own lasts heard moment

  answered_more : (asked : List At) (owed : List Owed) (question : Question) → AreAnswered of asked owed → AreAnswered of (insert_key at_eq asked (asked_as question)) (insert_all owed_eq owed (of question))
  answered_more asked owed question before other h = by (list_any (at_eq (asked_as other)) asked) refl
    where
      key : At
      key = asked_as question

      -- it isn't among those before, so it is the one that is put
      last : (b : Bool) → list_any (at_eq (asked_as other)) asked ≡ false → list_any (at_eq (asked_as other)) (cond b asked (asked ++ key ∷ [])) ≡ true → at_eq (asked_as other) key ≡ true
      last true none e = absurd (true≢false (sym e ∙ none))
      last false none e = one (at_eq (asked_as other) key) (sym (list_any-append (at_eq (asked_as other)) asked (key ∷ []) ∙ ap (λ b. b || (at_eq (asked_as other) key || false)) none) ∙ e)
        where
          one : (b : Bool) → (b || false) ≡ true → b ≡ true
          one true k = refl
          one false k = k

      by : (b : Bool) → list_any (at_eq (asked_as other)) asked ≡ b → are_in owed_eq (insert_all owed_eq owed (of question)) (of other) ≡ true
      by true e = still_in owed_eq owed (of question) (of other) (before other e)
      by false e =
          ap (are_in owed_eq (insert_all owed_eq owed (of question))) (same_owed other question (last (list_any (at_eq key) asked) e h))
          ∙ all_in owed_eq owed_is_equivalence owed (of question)

  module _ (asked : List At) (owed : List Owed) (question : Question) (key : At) (before : AreAnswered of asked owed) (is : key ≡ asked_as question) where
    -- a question that is asked again changes nothing
    pub again : (r : Bool) → r ≡ not (list_any (at_eq key) asked) → r ≡ false → owed ≡ insert_all owed_eq owed (of question)
    again r told held =
        sym (put_again owed_eq owed (of question) (before question (ap (λ (k : At). list_any (at_eq k) asked) (sym is) ∙ not-false (list_any (at_eq key) asked) (sym told ∙ held))))

    -- once what a question is owed was put, it is answered
    pub answered : (asks : List At) (owes : List Owed) → asks ≡ insert_key at_eq asked key → owes ≡ insert_all owed_eq owed (of question) → AreAnswered of asks owes
    answered asks owes e f other h =
        ap (λ (o : List Owed). are_in owed_eq o (of other)) f
        ∙ answered_more asked owed question before other (ap (list_any (at_eq (asked_as other))) (sym (e ∙ ap (insert_key at_eq asked) is)) ∙ h)
