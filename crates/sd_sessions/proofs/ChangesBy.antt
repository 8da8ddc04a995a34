-- The changes of sessions by answers before and after: the answers of the sessions' operations alone count.
use Rattle.std.proofs.Common.{◌≡◌, ℕ, Bool, true, false, cond, ◌&&◌, ◌||◌, List, [], ◌∷◌, ◌++◌, map, Option, Some, refl, ap, ◌∙◌}
use Rattle.std.specs.List.{list_all, flat_map, find}
use Rattle.std.specs.Option.{option_map_or, option_to_list}
use Rattle.lists.specs.Lists.{without}
use Rattle.sd_call.specs.declared.answer.Answer.{Answer}
use Rattle.sd_call.specs.declared.item.Item.{Item}
use Rattle.sd_call.specs.declared.item.Item.TheVariants.{Add, Remove}
use Rattle.sd_call.specs.Answers.{answer_eq}
use Rattle.mdns_history.specs.declared.operation.Operation.{Operation}
use Rattle.mdns_history.specs.declared.event.Event.{Event}
use Rattle.mdns_history.specs.declared.entry.Outcome.{Outcome}
use Rattle.mdns_history.specs.Sessions.{has_op, accepted_call, detached, is_number}
use Rattle.mdns_history.specs.Items.{reply_of}
use Rattle.sd_sessions.specs.declared.change.SessionChange.{SessionChange}
use Rattle.sd_sessions.specs.Sessions.{Session}
use Rattle.sd_sessions.specs.Answered.{Answering}
use Rattle.sd_sessions.specs.Changes.{had, items_between, passes}
use Rattle.sd_sessions.specs.Settling.{own_call, operations_then, change_for}

-- Answers count on the operations of a session alone, before the event and after it.
module _ (test : Operation → Bool) (f g : Answering) (same : (o : Operation) → test o ≡ true → f o ≡ g o) where
  had-same : (op : ℕ) (os : List Operation) → list_all test os ≡ true → had f os op ≡ had g os op
  had-same op [] all = refl
  had-same op (o ∷ os) all = of (test o) refl all (has_op op o) (had-same op os)
    where
      of : (b : Bool) → test o ≡ b → (b && list_all test os) ≡ true → (c : Bool) → (list_all test os ≡ true → had f os op ≡ had g os op) →
          option_map_or f (cond c (Some o) (find (has_op op) os)) [] ≡ option_map_or g (cond c (Some o) (find (has_op op) os)) []
      of true e h true rest = same o e
      of true e h false rest = rest h
      of false e h c rest = cc

  flat_map-with : (make : Operation → List Answer → List Item) (os : List Operation) → list_all test os ≡ true → flat_map (λ o. make o (f o)) os ≡ flat_map (λ o. make o (g o)) os
  flat_map-with make [] all = refl
  flat_map-with make (o ∷ os) all = of (test o) refl all (flat_map-with make os)
    where
      of : (b : Bool) → test o ≡ b → (b && list_all test os) ≡ true → (list_all test os ≡ true → flat_map (λ p. make p (f p)) os ≡ flat_map (λ p. make p (g p)) os) →
          make o (f o) ++ flat_map (λ p. make p (f p)) os ≡ make o (g o) ++ flat_map (λ p. make p (g p)) os
      of true e h rest = λ i. make o (same o e i) ++ rest h i
      of false e h rest = cc

  -- other answers before that are the same on the operations before
  pub items-before : (later : Answering) (reply : Option Item) (before after : List Operation) → list_all test before ≡ true → items_between f later reply before after ≡ items_between g later reply before after
  unfolding items_between
  items-before later reply before after all =
      let same_had : ◌≡◌ {A = ℕ → List Answer} (λ op. had f before op) (λ op. had g before op) = λ i op. had-same op before all i in
      ap (λ (h : ℕ → List Answer). option_to_list reply
      ++ flat_map (λ o. map (λ answer. Remove o.op answer) (without answer_eq (h o.op) (later o))) after
      ++ flat_map (λ o. map (λ answer. Add o.op answer) (without answer_eq (later o) (h o.op))) after) same_had

  -- other answers after that are the same on the operations after
  pub items-after : (earlier : Answering) (reply : Option Item) (before after : List Operation) → list_all test after ≡ true → items_between earlier f reply before after ≡ items_between earlier g reply before after
  unfolding items_between
  items-after earlier reply before after all =
      let lost : Operation → List Answer → List Item = λ o has. map (λ answer. Remove o.op answer) (without answer_eq (had earlier before o.op) has) in
      let gained : Operation → List Answer → List Item = λ o has. map (λ answer. Add o.op answer) (without answer_eq has (had earlier before o.op)) in
      λ i. option_to_list reply ++ flat_map-with lost after all i ++ flat_map-with gained after all i

-- Changes are the same by answers that are the same on the operations of the sessions, before and after.
abbrev pub AllThen : (Operation → Bool) → Event → Outcome → List Session → Type 0
AllThen test ev outcome [] = Unit {0}
AllThen test ev outcome (session ∷ sessions) = (list_all test session.operations ≡ true) × (list_all test (operations_then ev outcome session) ≡ true) × AllThen test ev outcome sessions

module _ (test : Operation → Bool) (earlier later other_earlier other_later : Answering)
    (same_earlier : (o : Operation) → test o ≡ true → earlier o ≡ other_earlier o) (same_later : (o : Operation) → test o ≡ true → later o ≡ other_later o) (ev : Event) (outcome : Outcome) where
  change-same : (session : Session) → list_all test session.operations ≡ true → list_all test (operations_then ev outcome session) ≡ true →
      change_for ev outcome earlier later session ≡ change_for ev outcome other_earlier other_later session
  change-same session before after =
      let make : List Item → SessionChange = λ items. record {
        session = session.number;
        call = own_call (accepted_call ev outcome) session.number;
        brought = cond (session.cut || is_number session.number (detached ev outcome)) [] items;
        cuts = passes session.queue (cond (session.cut || is_number session.number (detached ev outcome)) [] items);
      } in
      ap make (
      items-before test earlier other_earlier same_earlier later (reply_of session.number ev outcome) session.operations (operations_then ev outcome session) before
      ∙ items-after test later other_later same_later other_earlier (reply_of session.number ev outcome) session.operations (operations_then ev outcome session) after)

  pub changes-same : (sessions : List Session) → AllThen test ev outcome sessions → map (change_for ev outcome earlier later) sessions ≡ map (change_for ev outcome other_earlier other_later) sessions
  changes-same [] all = refl
  changes-same (session ∷ sessions) all = λ i. change-same session all.0 all.1 i ∷ changes-same sessions all.2 i
