-- Which records and questions the messages have that are put together.
use Rattle.std.proofs.Common.{◌≡◌, ℕ, ◌⊎◌, inl, inr, Bool, true, false, cond, List, [], ◌∷◌, ◌++◌, map, zip, refl, ap, subst, sym, append_assoc, append-nil}
use Rattle.std.specs.Prelude.{filter}
use Rattle.std.specs.List.{list_any, flat_map}
use Rattle.lists.specs.Lists.{without}
use Rattle.dns_record.specs.declared.record.Rr.{Rr}
use Rattle.dns_record.specs.declared.record.Question.{Question}
use Rattle.dns_record.specs.declared.record.Key.{Key}
use Rattle.dns_record.specs.Records.{same, matches, record_cmp}
use Rattle.dns_message.specs.declared.message.Message.{Message}
use Rattle.dns_message.specs.Packing.{fits, parts_from, parts_of, question_for, bare_query, query_chain, batch_messages, pack_query, bare_reply, reply_with, pack_plain, fitting_additional, Wanting, answers_in, wanted_in, replies_of, pack_reply, plain_record, legacy_reply, first_part, repeated_questions, pack_legacy}
use Rattle.mdns_history.specs.Debts.{sections}
use Rattle.mdns_asserts.proofs.Elements.{In, in_left, in_right, of_append, of_map, of_flat_map, of_without, of_ordered}

module _ {X : Type 0} where
  -- the elements of parts are those that were parted
  pub of_parts_from : (first later : List X → Bool) (part xs : List X) (p : List X) (x : X) → In p (parts_from first later part xs) → In x p → In x (part ++ xs)
  of_parts_from first later part [] p x (inl e) m = subst (λ zs. In x zs) (sym (append-nil part)) (subst (λ zs. In x zs) e m)
  of_parts_from first later part [] p x (inr n) m = absurd n
  of_parts_from first later part (y ∷ ys) p x n m =
      of (first (part ++ y ∷ [])) n
      (λ k. subst (λ zs. In x zs) (append_assoc part (y ∷ []) ys) (of_parts_from first later (part ++ y ∷ []) ys p x k m))
      (λ k. in_right x part (y ∷ ys) (of_parts_from later later (y ∷ []) ys p x k m))
    where
      of : (b : Bool) → In p (cond b (parts_from first later (part ++ y ∷ []) ys) (part ∷ parts_from later later (y ∷ []) ys)) →
          (In p (parts_from first later (part ++ y ∷ []) ys) → In x (part ++ y ∷ ys)) → (In p (parts_from later later (y ∷ []) ys) → In x (part ++ y ∷ ys)) → In x (part ++ y ∷ ys)
      of true k grown cut = grown k
      of false (inl e) grown cut = in_left x part (y ∷ ys) (subst (λ zs. In x zs) e m)
      of false (inr k) grown cut = cut k

  pub of_parts : (fitting : List X → Bool) (xs : List X) (p : List X) (x : X) → In p (parts_of fitting xs) → In x p → In x xs
  of_parts fitting [] p x n m = absurd n
  of_parts fitting (y ∷ ys) p x n m = of_parts_from fitting fitting (y ∷ []) ys p x n m

  pub of_first_part : (parts : List (List X)) (x : X) → In x (first_part parts) → (p : List X) × In p parts × In x p
  of_first_part [] x m = absurd m
  of_first_part (part ∷ parts) x m = (part, inl refl, m)

-- a message without authority records has the others
others_alone : (answers additional : List Rr) (rr : Rr) → In rr ((answers ++ []) ++ additional) → In rr (answers ++ additional)
others_alone answers additional rr m = subst (λ zs. In rr (zs ++ additional)) (append-nil answers) m

-- replies without additional records
pub of_plain : (answers : List Rr) (message : Message) (rr : Rr) → In message (pack_plain answers) → In rr (sections message) → In rr answers
unfolding pack_plain
of_plain answers message rr n m =
    let parts : List (List Rr) = parts_of (λ rrs. fits (bare_reply rrs)) answers in
    let found : (part : List Rr) × In part parts × (message ≡ bare_reply part) = of_map bare_reply message parts n in
    of_parts (λ rrs. fits (bare_reply rrs)) answers found.0 rr found.1 (subst (λ zs. In rr zs) (append-nil found.0) (others_alone found.0 [] rr (subst (λ k. In rr (sections k)) found.2 m)))

-- the additional records that fit are among those that are wanted
of_fitting : (answers added rrs : List Rr) (rr : Rr) → In rr (fitting_additional answers added rrs) → In rr added ⊎ In rr rrs
of_fitting answers added [] rr m = inl m
of_fitting answers added (r ∷ rs) rr m =
    of (fits (reply_with answers (added ++ r ∷ []))) (of_fitting answers (cond (fits (reply_with answers (added ++ r ∷ []))) (added ++ r ∷ []) added) rs rr m)
  where
    last : In rr added ⊎ In rr (r ∷ []) → In rr added ⊎ In rr (r ∷ rs)
    last (inl k) = inl k
    last (inr (inl e)) = inr (inl e)
    last (inr (inr k)) = absurd k

    of : (b : Bool) → In rr (cond b (added ++ r ∷ []) added) ⊎ In rr rs → In rr added ⊎ In rr (r ∷ rs)
    of true (inl k) = last (of_append rr added (r ∷ []) k)
    of false (inl k) = inl k
    of b (inr k) = inr (inr k)

-- where a record of replies with additional ones comes from
abbrev pub IsFrom : Rr → List Wanting → Type 0
IsFrom rr wanting = (one : Wanting) × In one wanting × ((rr ≡ one.0) ⊎ In rr one.1)

of_answers_in : (part : List Wanting) (rr : Rr) → In rr (answers_in part) → IsFrom rr part
of_answers_in part rr m = let found : (one : Wanting) × In one part × (rr ≡ one.0) = of_map (λ wanting. wanting.0) rr part m in (found.0, found.1, inl found.2)

of_wanted_in : (part : List Wanting) (rr : Rr) → In rr (wanted_in part) → IsFrom rr part
of_wanted_in part rr m =
    let found : (one : Wanting) × In one part × In rr one.1 = of_flat_map (λ wanting. wanting.1) rr part (of_ordered record_cmp rr (flat_map (λ wanting. wanting.1) part) m) in
    (found.0, found.1, inr found.2)

of_replies : (all before : List Rr) (parts : List (List Wanting)) (message : Message) (rr : Rr) → In message (replies_of all before parts) → In rr (sections message) →
    (part : List Wanting) × In part parts × IsFrom rr part
of_replies all before [] message rr n m = absurd n
of_replies all before (part ∷ parts) message rr (inl e) m = (part, inl refl, of (of_append rr (answers_in part) added (others_alone (answers_in part) added rr (subst (λ k. In rr (sections k)) e m))))
  where
    added : List Rr
    added = fitting_additional (answers_in part) [] (without same (wanted_in part) (all ++ before))

    more : In rr [] ⊎ In rr (without same (wanted_in part) (all ++ before)) → IsFrom rr part
    more (inl k) = absurd k
    more (inr k) = of_wanted_in part rr (of_without same rr (wanted_in part) (all ++ before) k)

    of : In rr (answers_in part) ⊎ In rr added → IsFrom rr part
    of (inl k) = of_answers_in part rr k
    of (inr k) = more (of_fitting (answers_in part) [] (without same (wanted_in part) (all ++ before)) rr k)
of_replies all before (part ∷ parts) message rr (inr n) m =
    let added : List Rr = fitting_additional (answers_in part) [] (without same (wanted_in part) (all ++ before)) in
    let found : (p : List Wanting) × In p parts × IsFrom rr p = of_replies all (before ++ added) parts message rr n m in
    (found.0, inr found.1, found.2)

pub of_reply : (answers : List Rr) (wanted : List (List Rr)) (message : Message) (rr : Rr) → In message (pack_reply answers wanted) → In rr (sections message) → IsFrom rr (zip answers wanted)
unfolding pack_reply
of_reply answers wanted message rr n m =
    let fitting : List Wanting → Bool = λ part. fits (bare_reply (answers_in part)) in
    let found : (part : List Wanting) × In part (parts_of fitting (zip answers wanted)) × IsFrom rr part = of_replies answers [] (parts_of fitting (zip answers wanted)) message rr n m in
    let one : IsFrom rr found.0 = found.2 in
    (one.0, of_parts fitting (zip answers wanted) found.0 one.0 found.1 one.1, one.2)

-- the reply to another port
pub of_legacy : (id : ℕ) (questions : List Question) (answers : List Rr) (rr : Rr) → In rr (sections (pack_legacy id questions answers)) → (r : Rr) × In r answers × (rr ≡ plain_record r)
unfolding pack_legacy
of_legacy id questions answers rr m =
    let asked : List Question = repeated_questions id questions in
    let fitting : List Rr → Bool = λ rrs. fits (legacy_reply id asked rrs false) in
    let parts : List (List Rr) = parts_of fitting (map plain_record answers) in
    let part : (p : List Rr) × In p parts × In rr p = of_first_part parts rr (subst (λ zs. In rr zs) (append-nil (first_part parts)) (others_alone (first_part parts) [] rr m)) in
    of_map plain_record rr answers (of_parts fitting (map plain_record answers) part.0 rr part.1 part.2)

-- all these are responses
pub plain_responds : (answers : List Rr) (message : Message) → In message (pack_plain answers) → message.response ≡ true
unfolding pack_plain
plain_responds answers message n =
    let parts : List (List Rr) = parts_of (λ rrs. fits (bare_reply rrs)) answers in
    let found : (part : List Rr) × In part parts × (message ≡ bare_reply part) = of_map bare_reply message parts n in
    ap (λ k. k.response) found.2

replies_respond : (all before : List Rr) (parts : List (List Wanting)) (message : Message) → In message (replies_of all before parts) → message.response ≡ true
replies_respond all before [] message n = absurd n
replies_respond all before (part ∷ parts) message (inl e) = ap (λ k. k.response) e
replies_respond all before (part ∷ parts) message (inr n) =
    let added : List Rr = fitting_additional (answers_in part) [] (without same (wanted_in part) (all ++ before)) in replies_respond all (before ++ added) parts message n

pub reply_responds : (answers : List Rr) (wanted : List (List Rr)) (message : Message) → In message (pack_reply answers wanted) → message.response ≡ true
unfolding pack_reply
reply_responds answers wanted message n = replies_respond answers [] (parts_of (λ part. fits (bare_reply (answers_in part))) (zip answers wanted)) message n

pub legacy_responds : (id : ℕ) (questions : List Question) (answers : List Rr) → (pack_legacy id questions answers).response ≡ true
unfolding pack_legacy
legacy_responds id questions answers = refl

-- a query whose questions don't ask for a unicast reply
pub record IsOpenQuery (message : Message) : Type 0 where
  pub query : message.response ≡ false
  pub asked : (question : Question) → In question message.questions → question.unicast ≡ false

open_chain : (questions : List Question) (parts : List (List Rr)) (message : Message) → ((question : Question) → In question questions → question.unicast ≡ false) →
    In message (query_chain questions parts) → IsOpenQuery message
open_chain questions [] message asked n = absurd n
open_chain questions (part ∷ []) message asked (inl e) = subst IsOpenQuery (sym e) (record { query = refl; asked = asked })
open_chain questions (part ∷ []) message asked (inr n) = absurd n
open_chain questions (part ∷ next ∷ more) message asked (inl e) = subst IsOpenQuery (sym e) (record { query = refl; asked = asked })
open_chain questions (part ∷ next ∷ more) message asked (inr n) = open_chain [] (next ∷ more) message (λ question m. absurd m) n

-- the queries of the daemon's questions are such
pub query_opens : (keys : List Key) (known : List Rr) (message : Message) → In message (pack_query keys known) → IsOpenQuery message
unfolding pack_query
query_opens keys known message n =
    let batches : List (List Key) = parts_of (λ batch. fits (bare_query (map question_for batch) [])) keys in
    let found : (batch : List Key) × In batch batches × In message (batch_messages known batch) = of_flat_map (batch_messages known) message batches n in
    let questions : List Question = map question_for found.0 in
    let listed : List Rr = filter (λ rr. list_any (λ key. matches key rr) found.0) known in
    open_chain questions (parts_from (λ rrs. fits (bare_query questions rrs)) (λ rrs. fits (bare_query [] rrs)) [] listed) message
    (λ question m. let from : (key : Key) × In key found.0 × (question ≡ question_for key) = of_map question_for question found.0 m in ap (λ q. q.unicast) from.2)
    found.2
