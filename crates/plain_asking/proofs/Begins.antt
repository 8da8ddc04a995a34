-- The place at which a question began, looked for from the last entry on.
use Rattle.std.proofs.Common.{◌≡◌, ℕ, zero, suc, ◌+◌, ◌<◌, ◌≤◌, Bool, true, false, not, ◌&&◌, List, [], ◌∷◌, ◌++◌, length, get_or, take, drop, refl, ap, sym, ◌∙◌, append-nil, append_assoc, Option, Some, None, arith}
use Rattle.std.specs.Prelude.{if◌then◌else◌}
use Rattle.std.specs.List.{filter_map, cons_option, find}
use Rattle.std.specs.Option.{option_or, option_map, option_and_then}
use Rattle.std.proofs.lemmas.List.{drop_all}
use Rattle.dns_record.specs.declared.record.Key.{Key}
use Rattle.dns_record.specs.Records.{key_eq}
use Rattle.mdns_history.specs.declared.entry.Entry.{Entry}
use Rattle.mdns_history.specs.History.{since, last_at, moment_if}
use Rattle.mdns_history.specs.Sessions.{accepted_in}
use Rattle.mdns_history.specs.Questions.{Active, active_from, begun_with, begins_asking, is_active, keys_of}
use Rattle.plain_history.specs.Kept.{kept_if}
use Rattle.plain_history.proofs.Onces.{drop_front}
use Rattle.plain_asking.specs.Begun.{begins_last, begun_last, entries_since}

-- the moments of the entries that pass a test
abbrev pub moments_in : (Entry → Bool) → List Entry → List ℕ
moments_in test entries = filter_map (λ (entry : Entry). moment_if (test entry) entry.moment) entries

-- what is said of the entries since a place is said of those that came since
pub said_since : {X : Type 0} (test : Entry → List Entry → Bool) (f : Entry → Option X) (history : List Entry) → filter_map f (entries_since test history) ≡ since test f history
said_since test f [] = refl
said_since {X = X} test f (entry ∷ past) = one (test entry past) (said_since test f past)
  where
    one : (b : Bool) → filter_map f (entries_since test past) ≡ since test f past
        → filter_map f (if b then [] else entry ∷ entries_since test past) ≡ (if b then [] else cons_option (f entry) (since test f past))
    one true ih = refl
    one false ih = ap (cons_option (f entry)) ih

-- one more entry
pub moments_more : (test : Entry → Bool) (entries : List Entry) (i : ℕ) (entry : Entry) (before : List ℕ) → i < length entries → entry ≡ get_or entries i entry →
    (before ++ kept_if (test entry) entry.moment) ++ moments_in test (drop (i + 1) entries) ≡ before ++ moments_in test (drop i entries)
moments_more test entries i entry before within is =
    one (test entry) ∙ sym (ap (λ (l : List Entry). before ++ moments_in test l) (drop_front entries i entry within is))
  where
    rest : List ℕ
    rest = moments_in test (drop (i + 1) entries)

    one : (b : Bool) → (before ++ kept_if b entry.moment) ++ rest ≡ before ++ cons_option (moment_if b entry.moment) rest
    one true = append_assoc before (entry.moment ∷ []) rest
    one false = append_assoc before [] rest

-- no question begins without an entry
pub begins_none : (question : Key) (history : List Entry) → length history ≡ 0 → begins_last question history ≡ false
begins_none question [] h = refl
begins_none question (entry ∷ past) h = absurd (omega arith)

-- a question begins where it is active and wasn't before
pub begins_both : (question : Key) (history : List Entry) (entry : Entry) (past : List Entry) → history ≡ entry ∷ past → begins_last question history ≡ (is_active question history && not (is_active question past))
begins_both question history entry past e = ap (begins_last question) e ∙ ap (λ (h : List Entry). is_active question h && not (is_active question past)) (sym e)

-- how the call of an entry spells a question
abbrev pub spelling : Key → Entry → Option Key
spelling question entry = option_and_then (λ call. find (key_eq question) (keys_of call.request)) (accepted_in entry)

pub begun_none : (question : Key) (history : List Entry) → length history ≡ 0 → begun_last question history ≡ None
begun_none question [] h = refl
begun_none question (entry ∷ past) h = absurd (omega arith)

-- no question is begun by an entry whose call doesn't spell it
pub unspelled : (question : Key) (history : List Entry) (entry : Entry) (past : List Entry) → history ≡ entry ∷ past → spelling question entry ≡ None → begun_last question history ≡ None
unspelled question history entry past e h =
    ap (begun_last question) e ∙ ap (λ (o : Option Key). if begins_asking question entry past then option_map (active_from entry) o else None) h ∙ one (begins_asking question entry past)
  where
    one : (b : Bool) → (if b then option_map (active_from entry) None else None) ≡ None
    one true = refl
    one false = refl

-- none is begun that doesn't begin
pub unbegun : (question : Key) (history : List Entry) (entry : Entry) (past : List Entry) → history ≡ entry ∷ past → begins_last question history ≡ false → begun_last question history ≡ None
unbegun question history entry past e h =
    let here : begins_asking question entry past ≡ false = ap (begins_last question) (sym e) ∙ h in
    ap (begun_last question) e ∙ ap (λ b. if b then option_map (active_from entry) (spelling question entry) else None) here

-- one that begins is begun as the call spells it
pub spelled : (question : Key) (history : List Entry) (entry : Entry) (past : List Entry) (key : Key) → history ≡ entry ∷ past → spelling question entry ≡ Some key → begins_last question history ≡ true →
    begun_last question history ≡ Some (active_from entry key)
spelled question history entry past key e f h =
    let here : begins_asking question entry past ≡ true = ap (begins_last question) (sym e) ∙ h in
    ap (begun_last question) e ∙ ap (λ b. if b then option_map (active_from entry) (spelling question entry) else None) here ∙ ap (option_map (active_from entry)) f

-- a question begins with an entry
pub begun_here : (question : Key) (history : List Entry) (begun : Active) → begun_last question history ≡ Some begun → last_at (begun_with question) history ≡ Some begun
begun_here question [] begun h = h
begun_here question (entry ∷ past) begun h = ap (λ (o : Option Active). option_or o (last_at (begun_with question) past)) h

-- a question doesn't begin with an entry
pub begun_before : (question : Key) (history : List Entry) (entry : Entry) (past : List Entry) → history ≡ entry ∷ past → begun_last question history ≡ None →
    last_at (begun_with question) past ≡ last_at (begun_with question) history
begun_before question history entry past e h =
    let here : begun_with question entry past ≡ None = ap (begun_last question) (sym e) ∙ h in
    ap (λ (o : Option Active). option_or o (last_at (begun_with question) past)) (sym here) ∙ ap (last_at (begun_with question)) (sym e)

-- none began where there is no entry
pub begun_never : (question : Key) (history : List Entry) → length history ≡ 0 → last_at (begun_with question) history ≡ None
begun_never question [] h = refl
begun_never question (entry ∷ past) h = absurd (omega arith)

-- a question begins with the entry at a place
pub since_ends : (question : Key) (history : List Entry) → begins_last question history ≡ true → entries_since (begins_asking question) history ≡ []
since_ends question [] h = refl
since_ends question (entry ∷ past) h = ap (λ b. if b then [] else entry ∷ entries_since (begins_asking question) past) h

-- a question doesn't begin with the first of some entries
pub since_next : (question : Key) (entry : Entry) (past : List Entry) → begins_last question (entry ∷ past) ≡ false →
    entries_since (begins_asking question) (entry ∷ past) ≡ entry ∷ entries_since (begins_asking question) past
since_next question entry past h = ap (λ b. if b then [] else entry ∷ entries_since (begins_asking question) past) h

-- one more entry came since
pub since_more : (question : Key) (history : List Entry) (place : ℕ) → place < length history → begins_last question (drop place history) ≡ false →
    take (place + 1) history ++ entries_since (begins_asking question) (drop (place + 1) history) ≡ take place history ++ entries_since (begins_asking question) (drop place history)
since_more question [] place within h = absurd (omega arith)
since_more question (entry ∷ past) zero within h = sym (since_next question entry past h)
since_more question (entry ∷ past) (suc place) within h =
    let next : suc place + 1 ≡ suc (place + 1) = omega arith in
    ap (λ n. take n (entry ∷ past) ++ entries_since (begins_asking question) (drop n (entry ∷ past))) next
    ∙ ap (λ (l : List Entry). entry ∷ l) (since_more question past place (omega arith) h)

-- all came since
pub since_all : (question : Key) (history : List Entry) (place : ℕ) → length history ≤ place → take place history ++ entries_since (begins_asking question) (drop place history) ≡ history
since_all question [] zero h = refl
since_all question [] (suc place) h = refl
since_all question (entry ∷ past) zero h = absurd (omega arith)
since_all question (entry ∷ past) (suc place) h = ap (λ (l : List Entry). entry ∷ l) (since_all question past place (omega arith))

-- all moments are told
pub moments_end : (test : Entry → Bool) (entries : List Entry) (i : ℕ) (moments : List ℕ) → length entries ≤ i → moments ++ moments_in test (drop i entries) ≡ moments_in test entries →
    moments ≡ moments_in test entries
moments_end test entries i moments h e = sym (append-nil moments) ∙ ap (λ (l : List Entry). moments ++ moments_in test l) (sym (drop_all i entries h)) ∙ e
