-- What the last entry of a history brings to sessions.
use Rattle.std.proofs.Common.{◌≡◌, ℕ, ◌+◌, ◌-◌, ◌≤◌, ◌<◌, nat_lt, false, not, List, [], ◌∷◌, ◌++◌, length, get_or, drop, take, map, refl, ap, sym, ◌∙◌, append_assoc, arith}
use Rattle.std.specs.Prelude.{filter}
use Rattle.std.specs.List.{flat_map}
use Rattle.std.specs.Option.{option_to_list}
use Rattle.std.proofs.lemmas.List.{drop_all, take_rest}
use Rattle.plain_history.proofs.Onces.{drop_front}
use Rattle.sd_call.specs.declared.item.Item.{Item}
use Rattle.sd_call.specs.Answers.{frames_len, queue_limit}
use Rattle.mdns_history.specs.declared.mark.Mark.TheVariants as mark
use Rattle.mdns_history.specs.declared.entry.Entry.{Entry}
use Rattle.mdns_history.specs.Sessions.{attached_sessions, is_cut, operations_of}
use Rattle.mdns_history.specs.Items.{change_items, cut_marks, given_items, given_to, queue, reply_of, served_sessions, would_pass}
use Rattle.plain_items.specs.LastEntry.{of_last}
use Rattle.plain_items.specs.Changes.{adds_between, removes_between}

-- nothing is said where there is no entry
pub last_of_none : {X : Type 0} (none : X) (f : Entry → List Entry → X) (history : List Entry) → length history ≡ 0 → of_last none f history ≡ none
last_of_none none f [] h = refl
last_of_none none f (entry ∷ past) h = absurd (omega arith)

-- one more piece stands behind others
pub appended_next : {X Y : Type 0} (f : X → List Y) (xs : List X) (i : ℕ) (x : X) (before more : List Y) → i < length xs → x ≡ get_or xs i x → more ≡ f x →
    (before ++ more) ++ flat_map f (drop (i + 1) xs) ≡ before ++ flat_map f (drop i xs)
appended_next {X = X} {Y = Y} f xs i x before more within is e =
    append_assoc before more (flat_map f (drop (i + 1) xs))
    ∙ ap (λ (l : List Y). before ++ (l ++ flat_map f (drop (i + 1) xs))) e
    ∙ ap (λ (l : List X). before ++ flat_map f l) (sym (drop_front xs i x within is))

-- the reply, the removes and the adds of the last entry
pub changes_last : (session : ℕ) (history : List Entry) (entry : Entry) (past : List Entry) → history ≡ entry ∷ past →
    of_last [] (change_items session) history
    ≡ (option_to_list (reply_of session entry.event entry.outcome) ++ flat_map (removes_between session past history) (operations_of session history))
    ++ flat_map (adds_between session past history) (operations_of session history)
unfolding change_items
changes_last session history entry past e =
    let reply = option_to_list (reply_of session entry.event entry.outcome) in
    ap (of_last [] (change_items session)) e
    ∙ ap (λ (h : List Entry). (reply ++ flat_map (removes_between session past h) (operations_of session h)) ++ flat_map (adds_between session past h) (operations_of session h)) (sym e)

-- the sessions that are attached and not cut
pub served_last : (history : List Entry) → filter (λ session. not (is_cut session history)) (attached_sessions history) ≡ of_last [] served_sessions history
unfolding served_sessions attached_sessions
served_last [] = refl
served_last (entry ∷ past) = refl

-- what each of them is brought
pub given_last : (history : List Entry) → flat_map (λ session. map (given_to session) (of_last [] (change_items session) history)) (of_last [] served_sessions history) ≡ of_last [] given_items history
unfolding given_items
given_last [] = refl
given_last (entry ∷ past) = refl

-- what is queued with what the last entry brings
pub passes_last : (session : ℕ) (history : List Entry) (entry : Entry) (past : List Entry) → history ≡ entry ∷ past →
    of_last false (λ one before. would_pass one before session) history ≡ nat_lt queue_limit (frames_len (queue session past ++ of_last [] (change_items session) history))
passes_last session history entry past e =
    ap (of_last false (λ one before. would_pass one before session)) e
    ∙ ap (λ (h : List Entry). nat_lt queue_limit (frames_len (queue session past ++ of_last [] (change_items session) h))) (sym e)

-- the sessions whose queues it would pass
pub cuts_last : (history : List Entry) → map (λ session. mark.Cut session) (filter (λ session. of_last false (λ entry past. would_pass entry past session) history) (of_last [] served_sessions history))
    ≡ of_last [] cut_marks history
unfolding cut_marks
cuts_last [] = refl
cuts_last (entry ∷ past) = refl

-- no item is behind all
pub none_behind : (count : ℕ) (items : List Item) → length items ≤ count → [] ≡ drop count items
none_behind count items h = sym (drop_all count items h)

-- the items behind the first ones, as a slice has them
pub rest_behind : (items : List Item) (count : ℕ) → take (length items - count) (drop count items) ≡ drop count items
rest_behind items count = take_rest items count
