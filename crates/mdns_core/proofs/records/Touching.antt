-- What an event looks at is touched by the entry that fits.
use Rattle.std.proofs.Common.{◌≡◌, ℕ, ◌<◌, ◌≤◌, Bool, true, false, true≢false, cond, not, ◌||◌, ◌&&◌, ◌⊎◌, eqb, List, [], ◌∷◌, ◌++◌, map, refl, ap, sym, ◌∙◌, Option, Some, None, inl, inr, arith}
use Rattle.std.specs.Prelude.{filter, nat_lt, nat_le}
use Rattle.std.specs.List.{list_any, list_all}
use Rattle.std.proofs.lemmas.Bool.{cases_lt, and_parts, and_from, or_left, or_right}
use Rattle.std.proofs.lemmas.List.Folds.{list_any-append}
use Rattle.dns_name.specs.Names.{folded_eq}
use Rattle.dns_name.proofs.Folding.{folded_eq-equivalence}
use Rattle.dns_record.specs.declared.record.Key.{Key}
use Rattle.dns_record.specs.declared.record.Question.{Question}
use Rattle.dns_record.specs.declared.record.Rr.{Rr}
use Rattle.dns_record.specs.Records.{same, key_eq, data_eq}
use Rattle.mdns_history.specs.declared.held.Held.{Held}
use Rattle.mdns_history.specs.Announcing.{same_records}
use Rattle.mdns_history.specs.Asking.{asks_openly}
use Rattle.mdns_history.specs.Hearings.{Heard, counted_records}
use Rattle.mdns_history.specs.Lifetimes.{is_live_at}
use Rattle.mdns_cache.specs.Ended.{is_among, is_of_ended}
use Rattle.mdns_records.specs.After.{is_named}
use Rattle.mdns_claims.specs.Moved.{is_moved}
use Rattle.mdns_claims.specs.Owned.{of_name}
use Rattle.mdns_core.specs.Touched.{message_records, message_names}

abbrev Name : Type 0
Name = List (List ℕ)

-- ---- parts of a list of names

pub among-left : (one other : List Name) (name : Name) → is_among one name ≡ true → is_among (one ++ other) name ≡ true
among-left one other name e = list_any-append (folded_eq name) one other ∙ or_left (is_among one name) (is_among other name) e

pub among-right : (one other : List Name) (name : Name) → is_among other name ≡ true → is_among (one ++ other) name ≡ true
among-right one other name e = list_any-append (folded_eq name) one other ∙ or_right (is_among one name) (is_among other name) e

pub either : {A : Type 0} (a b : Bool) → (a || b) ≡ true → (a ≡ true → A) → (b ≡ true → A) → A
either true b e first second = first refl
either false b e first second = second e

-- ---- records that ended

pub ended_is : (moment end : ℕ) → nat_le end moment ≡ not (nat_lt moment end)
ended_is moment end = of (cases_lt moment end)
  where
    of : (moment < end) ⊎ (end ≤ moment) → nat_le end moment ≡ not (nat_lt moment end)
    of (inl h) = let a : nat_lt moment end ≡ true = grind arith in let b : nat_le end moment ≡ false = grind arith in b ∙ sym (ap not a)
    of (inr h) = let a : nat_lt moment end ≡ false = grind arith in let b : nat_le end moment ≡ true = grind arith in b ∙ sym (ap not a)

pub ended-owners : (moment : ℕ) (name : Name) (held : List Held) → is_of_ended held moment name ≡ is_among (map (λ (one : Held). one.rr.owner) (filter (λ one. not (is_live_at moment one)) held)) name
ended-owners moment name [] = refl
ended-owners moment name (one ∷ held) =
    (λ i. (ended_is moment one.end i && folded_eq name one.rr.owner) || ended-owners moment name held i) ∙ of (not (nat_lt moment one.end))
  where
    of : (b : Bool) → ((b && folded_eq name one.rr.owner) || is_among (map (λ (one : Held). one.rr.owner) (filter (λ one. not (is_live_at moment one)) held)) name)
        ≡ is_among (map (λ (one : Held). one.rr.owner) (cond b (one ∷ filter (λ one. not (is_live_at moment one)) held) (filter (λ one. not (is_live_at moment one)) held))) name
    of true = refl
    of false = refl

-- ---- records and questions that were heard

owners-named : (name : Name) (rrs : List Rr) → list_any (is_named name) rrs ≡ is_among (map (λ (rr : Rr). rr.owner) rrs) name
owners-named name [] = refl
owners-named name (rr ∷ rrs) = λ i. folded_eq-equivalence.symm rr.owner name i || owners-named name rrs i

any-middle : (t : Rr → Bool) (a b c : List Rr) → list_any t (a ++ c) ≡ true → list_any t ((a ++ b) ++ c) ≡ true
any-middle t a b c e =
    either (list_any t a) (list_any t c) (sym (list_any-append t a c) ∙ e)
    (λ h. list_any-append t (a ++ b) c ∙ or_left (list_any t (a ++ b)) (list_any t c) (list_any-append t a b ∙ or_left (list_any t a) (list_any t b) h))
    (λ h. list_any-append t (a ++ b) c ∙ or_right (list_any t (a ++ b)) (list_any t c) h)

pub heard-named : (name : Name) (heard : Option Heard) → list_any (is_named name) (counted_records heard) ≡ true → is_among (message_names heard) name ≡ true
heard-named name None e = absurd (cc)
heard-named name (Some heard) e =
    of heard.message.response e
  where
    of : (b : Bool) → list_any (is_named name) (cond b (heard.message.answers ++ heard.message.additional) []) ≡ true → is_among (message_names (Some heard)) name ≡ true
    of true h =
        among-right (map (λ question. question.name) heard.message.questions) (map (λ rr. rr.owner) (message_records heard.message)) name
        (sym (owners-named name (message_records heard.message)) ∙ any-middle (is_named name) heard.message.answers heard.message.authority heard.message.additional h)
    of false h = absurd (cc)

asks-named : (key : Key) (question : Question) → asks_openly key question ≡ true → folded_eq key.name question.name ≡ true
unfolding key_eq
asks-named key question e = of (folded_eq key.name question.name) e
  where
    of : (b : Bool) → ((b && (eqb key.kind question.kind)) && not question.unicast) ≡ true → b ≡ true
    of true h = refl
    of false h = h

pub asked-named : (name : Name) (key : Key) → folded_eq name key.name ≡ true → (questions : List Question) → list_any (asks_openly key) questions ≡ true →
    is_among (map (λ (question : Question). question.name) questions) name ≡ true
asked-named name key alike [] e = absurd (cc)
asked-named name key alike (question ∷ questions) e =
    either (asks_openly key question) (list_any (asks_openly key) questions) e
    (λ h. or_left (folded_eq name question.name) (is_among (map (λ (question : Question). question.name) questions) name)
    (folded_eq-equivalence.congr name key.name question.name alike ∙ asks-named key question h))
    (λ h. or_right (folded_eq name question.name) (is_among (map (λ (question : Question). question.name) questions) name) (asked-named name key alike questions h))

-- ---- records that come to be own or cease to be

same-owner : (left right : Rr) → same left right ≡ true → folded_eq left.owner right.owner ≡ true
unfolding same
same-owner left right e = (and_parts (folded_eq left.owner right.owner) (data_eq left.rdata right.rdata) e).0

of-its-name : (name : Name) (rr : Rr) → folded_eq rr.owner name ≡ true → (own : List Rr) → list_any (same rr) own ≡ true → list_any (same rr) (of_name name own) ≡ true
of-its-name name rr named [] e = e
of-its-name name rr named (other ∷ own) e = of (same rr other) refl e (of-its-name name rr named own)
  where
    first : same rr other ≡ true → folded_eq other.owner name ≡ true
    first h = sym (folded_eq-equivalence.congr rr.owner other.owner name (same-owner rr other h)) ∙ named

    skip : (b : Bool) → list_any (same rr) (of_name name own) ≡ true → list_any (same rr) (cond b (other ∷ of_name name own) (of_name name own)) ≡ true
    skip true h = or_right (same rr other) (list_any (same rr) (of_name name own)) h
    skip false h = h

    of : (b : Bool) → same rr other ≡ b → (b || list_any (same rr) own) ≡ true → (list_any (same rr) own ≡ true → list_any (same rr) (of_name name own) ≡ true) →
        list_any (same rr) (of_name name (other ∷ own)) ≡ true
    of true is h rest =
        ap (λ (b : Bool). list_any (same rr) (cond b (other ∷ of_name name own) (of_name name own))) (first is) ∙ or_left (same rr other) (list_any (same rr) (of_name name own)) is
    of false is h rest = skip (folded_eq other.owner name) (rest h)

abbrev pub owners-but : List Rr → List Rr → List Name
owners-but own others = map (λ (rr : Rr). rr.owner) (filter (λ rr. not (list_any (same rr) others)) own)

none-behind : (a b : Bool) → (a || b) ≡ false → b ≡ false
none-behind true b e = absurd (cc)
none-behind false b e = e

all-stay : (name : Name) (own others : List Rr) → is_among (owners-but own others) name ≡ false → list_all (λ rr. list_any (same rr) (of_name name others)) (of_name name own) ≡ true
all-stay name [] others none = refl
all-stay name (rr ∷ own) others none =
    of (list_any (same rr) others) (folded_eq rr.owner name) refl refl none (all-stay name own others)
  where
    of : (there named : Bool) → list_any (same rr) others ≡ there → folded_eq rr.owner name ≡ named →
        is_among (map (λ (rr : Rr). rr.owner) (cond (not there) (rr ∷ filter (λ rr. not (list_any (same rr) others)) own) (filter (λ rr. not (list_any (same rr) others)) own))) name ≡ false →
        (is_among (owners-but own others) name ≡ false → list_all (λ rr. list_any (same rr) (of_name name others)) (of_name name own) ≡ true) →
        list_all (λ rr. list_any (same rr) (of_name name others)) (cond named (rr ∷ of_name name own) (of_name name own)) ≡ true
    of true true t n h rest = and_from (list_any (same rr) (of_name name others)) (list_all (λ rr. list_any (same rr) (of_name name others)) (of_name name own)) (of-its-name name rr n others t) (rest h)
    of true false t n h rest = rest h
    of false true t n h rest = absurd (true≢false (sym (or_left (folded_eq name rr.owner) (is_among (owners-but own others) name) (folded_eq-equivalence.symm name rr.owner ∙ n)) ∙ h))
    of false false t n h rest = rest (none-behind (folded_eq name rr.owner) (is_among (owners-but own others) name) h)

-- The owner of what comes or goes is that of a record of one list that the other hasn't.
pub moved-owners : (name : Name) (own then : List Rr) → is_moved name own then ≡ true → is_among (owners-but then own ++ owners-but own then) name ≡ true
moved-owners name own then moved = of (is_among (owners-but then own) name) (is_among (owners-but own then) name) refl refl
  where
    of : (a b : Bool) → is_among (owners-but then own) name ≡ a → is_among (owners-but own then) name ≡ b → is_among (owners-but then own ++ owners-but own then) name ≡ true
    of true b e f = among-left (owners-but then own) (owners-but own then) name e
    of false true e f = among-right (owners-but then own) (owners-but own then) name f
    of false false e f =
        let stays : same_records (of_name name own) (of_name name then) ≡ true = λ i. all-stay name own then f i && all-stay name then own e i in
        absurd (true≢false (sym moved ∙ ap not stays))
