-- What an entry gives to a session replays from the answers before it to those after it.
use Rattle.std.proofs.Common.{◌≡◌, ℕ, ℤ, Bool, true, false, cond, List, [], ◌∷◌, ◌++◌, Option, Some, None, refl, ap, ◌∙◌, sym}
use Rattle.std.specs.List.{flat_map, find}
use Rattle.std.specs.Option.{option_map_or, option_to_list}
use Rattle.std.specs.Ordering.{int_eq}
use Rattle.sd_call.specs.declared.answer.Answer.{Answer}
use Rattle.sd_call.specs.declared.answer.Answer.TheVariants.{Conflict}
use Rattle.sd_call.specs.declared.item.Item.{Item}
use Rattle.sd_call.specs.declared.request.Request.{Request}
use Rattle.sd_call.specs.Requests.{no_error, is_start, is_register}
use Rattle.sd_call.specs.Replay.{replay_from}
use Rattle.sd_call.proofs.AnswerLists.{AreDifferent, AreDifferent-ordered}
use Rattle.sd_call.proofs.ReplayRuns.{AreApart, Each, replay_from-append, replayed_changes}
use Rattle.mdns_history.specs.declared.event.Event.TheVariants as event
use Rattle.mdns_history.specs.declared.entry.Outcome.TheVariants as outcome
use Rattle.mdns_history.specs.declared.entry.Entry.{Entry}
use Rattle.mdns_history.specs.Sessions.{Operation, has_op, is_number, detached, accepted_call, after_call, operations_of}
use Rattle.mdns_history.specs.Groups.{Group, group_name}
use Rattle.mdns_history.specs.Sureness.{is_sure}
use Rattle.mdns_history.specs.Answers.{answers, answers_over, known_records, registration_answers, operation_group, named_if}
use Rattle.mdns_history.specs.Items.{reply_of, earlier_answers, removes, adds, change_items}
use Rattle.mdns_history.specs.Replays.{answer_sets}
use Rattle.mdns_history.proofs.ReplySteps.{number, answers_at, had, kept_for, replied}

pub answers_over-different : (request : Request) (history : List Entry) → AreDifferent (answers_over request (known_records history))
unfolding answers_over
answers_over-different request history = AreDifferent-ordered _

registration-different : (operation : Operation) (history : List Entry) → AreDifferent (registration_answers operation history)
registration-different operation history = of_group (operation_group operation history)
  where
    of_group : (o : Option Group) → AreDifferent (option_map_or (λ group. named_if (is_sure group history) (group_name group history)) o (Conflict ∷ []))
    of_group None = (refl, tt)
    of_group (Some group) = named (is_sure group history)
      where
        named : (b : Bool) → AreDifferent (named_if b (group_name group history))
        named true = (refl, tt)
        named false = tt

-- the answers of an operation are different
pub answers_different : (operation : Operation) (history : List Entry) → AreDifferent (answers operation history)
unfolding answers
answers_different operation history = either (is_register operation.request)
  where
    either : (b : Bool) → AreDifferent (cond b (registration_answers operation history) (answers_over operation.request (known_records history)))
    either true = registration-different operation history
    either false = answers_over-different operation.request history

earlier_different : (session : ℕ) (past : List Entry) (operation : Operation) → AreDifferent (earlier_answers session past operation)
earlier_different session past operation = of_found (find (has_op operation.op) (operations_of session past))
  where
    of_found : (o : Option Operation) → AreDifferent (option_map_or (λ before. answers before past) o [])
    of_found None = tt
    of_found (Some before) = answers_different before past

each_of : (P : Operation → Type 0) → ((o : Operation) → P o) → (os : List Operation) → Each number P os
each_of P all [] = tt
each_of P all (o ∷ os) = (all o, each_of P all os)

-- the operations after an entry that doesn't detach the session
pub operations_of-kept : (session : ℕ) (entry : Entry) (past : List Entry) → is_number session (detached entry.event entry.outcome) ≡ false →
    operations_of session (entry ∷ past) ≡ after_call session (accepted_call entry.event entry.outcome) (operations_of session past)
unfolding operations_of
operations_of-kept session entry past kept = rw kept refl

pub entry_replayed : (session : ℕ) (entry : Entry) (past : List Entry) → is_number session (detached entry.event entry.outcome) ≡ false →
    AreApart number (operations_of session (entry ∷ past)) →
    ((op : ℕ) (r : Request) (code : ℤ) → entry.event ≡ event.Call session op r → entry.outcome ≡ outcome.Code code → int_eq code no_error ≡ true → is_start r ≡ true →
    find (has_op op) (operations_of session past) ≡ None) →
    replay_from (Some (answer_sets session past)) (change_items session entry past) ≡ Some (answer_sets session (entry ∷ past))
unfolding change_items answer_sets
entry_replayed session entry past kept apart new =
    let before : List Operation = operations_of session past in
    let live : List Operation = operations_of session (entry ∷ past) in
    let f : Operation → List Answer = λ o. answers o past in
    let reply : List Item = option_to_list (reply_of session entry.event entry.outcome) in
    let gone : List Item = flat_map (removes session entry past) live in
    let come : List Item = flat_map (adds session entry past) live in
    let old : Operation → List Answer = λ o. answers_at f o.op before in
    let new_answers : Operation → List Answer = λ o. answers o (entry ∷ past) in
    replay_from-append (Some (had f before)) (reply ++ gone) come
    ∙ ap (λ h. replay_from h come) (replay_from-append (Some (had f before)) reply gone)
    ∙ ap (λ h. replay_from (replay_from h gone) come) (replied f before session entry.event entry.outcome new)
    ∙ ap (λ after. replay_from (replay_from (Some (kept_for f before after)) gone) come) (sym (operations_of-kept session entry past kept))
    ∙ sym (replay_from-append (Some (kept_for f before live)) gone come)
    ∙ replayed_changes number old new_answers live apart
    (each_of (λ o. AreDifferent (earlier_answers session past o)) (earlier_different session past) live)
    (each_of (λ o. AreDifferent (answers o (entry ∷ past))) (λ o. answers_different o (entry ∷ past)) live)
