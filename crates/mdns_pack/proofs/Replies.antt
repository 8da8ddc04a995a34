-- Replies, one answer and one record after another.
use Rattle.std.proofs.Common.{◌≡◌, ℕ, ◌+◌, ◌<◌, Bool, true, false, cond, List, [], ◌∷◌, ◌++◌, length, map, take, drop, get_or, zip, refl, ap, ◌∙◌, sym, ap₂, append_assoc, append-nil, not, ◌&&◌, ◌||◌}
use Rattle.std.specs.Prelude.{nat_le, filter}
use Rattle.std.specs.List.{list_any, flat_map}
use Rattle.std.proofs.lemmas.List.{take_more, drop_more}
use Rattle.std.proofs.lemmas.Grind.{flat_map-append}
use Rattle.std.proofs.lemmas.List.Folds.{list_any-append}
use Rattle.lists.specs.Lists.{ordered, without}
use Rattle.lists.proofs.InOrder.{any-ordered}
use Rattle.dns_record.proofs.Same.{record_cmp_total}
use Rattle.mdns_pack.proofs.Found.{same-tied}
use Rattle.dns_record.specs.declared.record.Rr.{Rr}
use Rattle.dns_record.specs.Records.{same, record_cmp}
use Rattle.dns_message.specs.declared.message.Message.{Message}
use Rattle.dns_pointers.specs.Writing.{Piece}
use Rattle.dns_message.specs.Writing.{written_record, written_all, written}
use Rattle.dns_message.specs.Packing.{packet_length, fits, parts_from, parts_of, bare_reply, reply_with, fitting_additional, Wanting, answers_in, wanted_in, replies_of, pack_reply}
use Rattle.dns_message.specs.Drafting.{with_answer, records_of}
use Rattle.dns_message.proofs.Drafts.{size_is}
use Rattle.dns_message.proofs.Whole.{questions_of}

-- the test of `pack_plain`
abbrev pub plain_fits : List Rr → Bool
plain_fits rrs = fits (bare_reply rrs)

-- the replies that this part of the answers, and those that are left, make
abbrev pub plain_rest : List Rr → List Rr → List Message
plain_rest part rrs = map bare_reply (parts_from plain_fits plain_fits part rrs)

-- the replies so far and one that may grow, to which these answers are still to come
pub record IsPlain (all messages : List Message) (message : Message) (rrs : List Rr) : Type 0 where
  pub left : all ≡ messages ++ plain_rest message.answers rrs
  pub bare : message ≡ bare_reply message.answers

-- one more answer is put into the reply, or begins the next
pub plain_put : (all messages messages' : List Message) (message message' : Message) (more : List Rr) (i : ℕ) (rr : Rr) →
    i < length more → rr ≡ get_or more i rr →
    messages' ≡ cond (fits (with_answer message rr)) messages (messages ++ message ∷ []) →
    message' ≡ cond (fits (with_answer message rr)) (with_answer message rr) (bare_reply (rr ∷ [])) →
    IsPlain all messages message (drop i more) → IsPlain all messages' message' (drop (i + 1) more)
plain_put all messages messages' message message' more i rr within is q p h = at (fits (with_answer message rr)) refl q p
  where
    rrs : List Rr
    rrs = drop (i + 1) more

    next : drop i more ≡ rr ∷ rrs
    next = drop_more more i rr within ∙ ap (λ (x : Rr). x ∷ rrs) (sym is)

    same_test : fits (with_answer message rr) ≡ plain_fits (message.answers ++ rr ∷ [])
    same_test = ap (λ (m : Message). fits (with_answer m rr)) h.bare

    before : all ≡ messages ++ plain_rest message.answers (rr ∷ rrs)
    before = h.left ∙ ap (λ (xs : List Rr). messages ++ plain_rest message.answers xs) next

    grown : (b : Bool) → b ≡ true →
        map bare_reply (cond b (parts_from plain_fits plain_fits (message.answers ++ rr ∷ []) rrs) (message.answers ∷ parts_from plain_fits plain_fits (rr ∷ []) rrs))
        ≡ plain_rest (message.answers ++ rr ∷ []) rrs
    grown true k = refl
    grown false k = absurd (cc)

    cut : (b : Bool) → b ≡ false →
        map bare_reply (cond b (parts_from plain_fits plain_fits (message.answers ++ rr ∷ []) rrs) (message.answers ∷ parts_from plain_fits plain_fits (rr ∷ []) rrs))
        ≡ bare_reply message.answers ∷ plain_rest (rr ∷ []) rrs
    cut true k = absurd (cc)
    cut false k = refl

    moved : (ms : List Message) (m : Message) → all ≡ ms ++ plain_rest m.answers rrs → m ≡ bare_reply m.answers → messages' ≡ ms → message' ≡ m → IsPlain all messages' message' rrs
    moved ms m l b e f = record {
      left = l ∙ sym (ap (λ (x : List Message). x ++ plain_rest m.answers rrs) e) ∙ sym (ap (λ (x : Message). messages' ++ plain_rest x.answers rrs) f);
      bare = f ∙ b ∙ sym (ap (λ (x : Message). bare_reply x.answers) f);
    }

    at : (b : Bool) → fits (with_answer message rr) ≡ b → messages' ≡ cond b messages (messages ++ message ∷ []) →
        message' ≡ cond b (with_answer message rr) (bare_reply (rr ∷ [])) → IsPlain all messages' message' rrs
    at true k e f =
        moved messages (with_answer message rr)
        (before ∙ ap (λ (x : List Message). messages ++ x) (grown (plain_fits (message.answers ++ rr ∷ [])) (sym same_test ∙ k)))
        (ap (λ (m : Message). with_answer m rr) h.bare) e f
    at false k e f =
        moved (messages ++ message ∷ []) (bare_reply (rr ∷ []))
        (before ∙ ap (λ (x : List Message). messages ++ x) (cut (plain_fits (message.answers ++ rr ∷ [])) (sym same_test ∙ k))
        ∙ ap (λ (m : Message). messages ++ m ∷ plain_rest (rr ∷ []) rrs) (sym h.bare) ∙ sym (append_assoc messages (message ∷ []) (plain_rest (rr ∷ []) rrs)))
        refl e f

-- A message is as long whichever section its records stand in.
same_records : (answers added : List Rr) → records_of (reply_with answers added) ≡ records_of (bare_reply (answers ++ added))
same_records answers added =
    ap (λ (l : List Rr). l ++ added) (append-nil answers) ∙ sym (append-nil (answers ++ added)) ∙ sym (append-nil ((answers ++ added) ++ []))

pub same_fit : (answers added : List Rr) → fits (reply_with answers added) ≡ fits (bare_reply (answers ++ added))
same_fit answers added = ap (λ (n : ℕ). nat_le n packet_length) same_length
  where
    asked : Piece
    asked = questions_of (bare_reply [])

    same_length : length (written (reply_with answers added)) ≡ length (written (bare_reply (answers ++ added)))
    same_length =
        size_is (reply_with answers added)
        ∙ ap (λ (rrs : List Rr). 12 + length asked.bytes + length (written_all written_record asked.names (12 + length asked.bytes) rrs).bytes) (same_records answers added)
        ∙ sym (size_is (bare_reply (answers ++ added)))

-- one more of the wanted records, after those before it
additional_last : (answers added rrs : List Rr) (rr : Rr) →
    let old = fitting_additional answers added rrs in
    fitting_additional answers added (rrs ++ rr ∷ []) ≡ cond (fits (reply_with answers (old ++ rr ∷ []))) (old ++ rr ∷ []) old
additional_last answers added [] rr = refl
additional_last answers added (x ∷ rrs) rr = additional_last answers (cond (fits (reply_with answers (added ++ x ∷ []))) (added ++ x ∷ []) added) rrs rr

-- a reply under way, whose additional records are drafted as answers
abbrev pub drafted : List Rr → List Rr → ℕ → Message
drafted answers wanted i = bare_reply (answers ++ fitting_additional answers [] (take i wanted))

pub additional_more : (answers wanted : List Rr) (i : ℕ) (rr : Rr) (message message' : Message) → i < length wanted → rr ≡ get_or wanted i rr →
    message ≡ drafted answers wanted i → message' ≡ cond (fits (with_answer message rr)) (with_answer message rr) message → message' ≡ drafted answers wanted (i + 1)
additional_more answers wanted i rr message message' within is h e =
    e ∙ ap (λ (m : Message). cond (fits (with_answer m rr)) (with_answer m rr) m) h ∙ at (fits (with_answer (drafted answers wanted i) rr)) same_test
    ∙ ap (λ (l : List Rr). bare_reply (answers ++ l)) (sym last)
  where
    old : List Rr
    old = fitting_additional answers [] (take i wanted)

    last : fitting_additional answers [] (take (i + 1) wanted) ≡ cond (fits (reply_with answers (old ++ rr ∷ []))) (old ++ rr ∷ []) old
    last =
        ap (fitting_additional answers []) (take_more wanted i rr within ∙ ap (λ (x : Rr). take i wanted ++ x ∷ []) (sym is))
        ∙ additional_last answers [] (take i wanted) rr

    same_test : fits (with_answer (drafted answers wanted i) rr) ≡ fits (reply_with answers (old ++ rr ∷ []))
    same_test = ap (λ (l : List Rr). fits (bare_reply l)) (append_assoc answers old (rr ∷ [])) ∙ sym (same_fit answers (old ++ rr ∷ []))

    at : (b : Bool) → b ≡ fits (reply_with answers (old ++ rr ∷ [])) →
        cond b (with_answer (drafted answers wanted i) rr) (drafted answers wanted i)
        ≡ bare_reply (answers ++ cond (fits (reply_with answers (old ++ rr ∷ []))) (old ++ rr ∷ []) old)
    at true k = ap bare_reply (append_assoc answers old (rr ∷ [])) ∙ ap (λ (c : Bool). bare_reply (answers ++ cond c (old ++ rr ∷ []) old)) k
    at false k = ap (λ (c : Bool). bare_reply (answers ++ cond c (old ++ rr ∷ []) old)) k

-- the additional records of messages
abbrev pub all_added : List Message → List Rr
all_added messages = flat_map (λ (message : Message). message.additional) messages

-- what is no answer and was not added before is in neither list
any_added : (t : Rr → Bool) (messages : List Message) → list_any t (all_added messages) ≡ list_any (λ (message : Message). list_any t message.additional) messages
any_added t [] = refl
any_added t (message ∷ messages) =
    list_any-append t message.additional (all_added messages) ∙ ap (λ (b : Bool). list_any t message.additional || b) (any_added t messages)

pub kept_anew : (t : Rr → Bool) (answers : List Rr) (messages : List Message) →
    (not (list_any t answers) && not (list_any (λ (message : Message). list_any t message.additional) messages)) ≡ not (list_any t (answers ++ all_added messages))
kept_anew t answers messages =
    at (list_any t answers) (list_any (λ (message : Message). list_any t message.additional) messages)
    ∙ ap not (ap (λ (b : Bool). list_any t answers || b) (sym (any_added t messages)) ∙ sym (list_any-append t answers (all_added messages)))
  where
    at : (a b : Bool) → (not a && not b) ≡ not (a || b)
    at true b = refl
    at false b = refl

-- whether something is among records doesn't depend on their order
any_ordered : (rr : Rr) (rrs : List Rr) → list_any (same rr) (ordered record_cmp rrs) ≡ list_any (same rr) rrs
any_ordered rr rrs =
    (λ i. list_any (λ x. same-tied rr x i) (ordered record_cmp rrs)) ∙ any-ordered record_cmp record_cmp_total rr rrs ∙ (λ i. list_any (λ x. sym (same-tied rr x) i) rrs)

without_ordered : (wanted answers added : List Rr) → without same wanted (ordered record_cmp answers ++ added) ≡ without same wanted (answers ++ added)
without_ordered wanted answers added = λ i. filter (λ rr. not (any rr i)) wanted
  where
    any : (rr : Rr) → list_any (same rr) (ordered record_cmp answers ++ added) ≡ list_any (same rr) (answers ++ added)
    any rr =
        list_any-append (same rr) (ordered record_cmp answers) added ∙ ap (λ (b : Bool). b || list_any (same rr) added) (any_ordered rr answers)
        ∙ sym (list_any-append (same rr) answers added)

-- the two lists of the definition are those of one list of pairs
pub zipped : (wantings : List Wanting) → zip (map (λ (wanting : Wanting). wanting.0) wantings) (map (λ (wanting : Wanting). wanting.1) wantings) ≡ wantings
zipped [] = refl
zipped (wanting ∷ wantings) = ap (λ (l : List Wanting). wanting ∷ l) (zipped wantings)

-- the test of `pack_reply`
abbrev pub part_fits : List Wanting → Bool
part_fits part = fits (bare_reply (answers_in part))

-- the replies that are still to come behind these messages
abbrev pub replies_behind : List Rr → List Message → List Wanting → List Message
replies_behind all messages rest = replies_of all (all_added messages) (parts_of part_fits rest)

-- one more reply
pub reply_put : (whole : List Message) (all answers : List Rr) (messages messages' : List Message) (part rest later : List Wanting) →
    answers ≡ ordered record_cmp all → parts_of part_fits rest ≡ part ∷ parts_of part_fits later →
    messages' ≡ messages ++ reply_with (answers_in part) (fitting_additional (answers_in part) [] (without same (wanted_in part) (answers ++ all_added messages))) ∷ [] →
    whole ≡ messages ++ replies_behind all messages rest → whole ≡ messages' ++ replies_behind all messages' later
reply_put whole all answers messages messages' part rest later found cut e h =
    h ∙ ap (λ (parts : List (List Wanting)). messages ++ replies_of all (all_added messages) parts) cut
    ∙ sym (append_assoc messages (message ∷ []) (replies_of all (all_added messages ++ added) (parts_of part_fits later)))
    ∙ ap (λ (l : List Rr). (messages ++ message ∷ []) ++ replies_of all l (parts_of part_fits later)) (sym more)
    ∙ ap (λ (ms : List Message). ms ++ replies_behind all ms later) (sym put)
  where
    added : List Rr
    added = fitting_additional (answers_in part) [] (without same (wanted_in part) (all ++ all_added messages))

    message : Message
    message = reply_with (answers_in part) added

    more : all_added (messages ++ message ∷ []) ≡ all_added messages ++ added
    more = flat_map-append (λ (m : Message). m.additional) messages (message ∷ []) ∙ ap (λ (l : List Rr). all_added messages ++ l) (append-nil added)

    put : messages' ≡ messages ++ message ∷ []
    put =
        e ∙ ap (λ (rrs : List Rr). messages ++ reply_with (answers_in part) (fitting_additional (answers_in part) [] rrs) ∷ [])
        (ap (λ (l : List Rr). without same (wanted_in part) (l ++ all_added messages)) found ∙ without_ordered (wanted_in part) all (all_added messages))

-- the replies before the first
pub replies_begun : (wantings : List Wanting) →
    pack_reply (map (λ (wanting : Wanting). wanting.0) wantings) (map (λ (wanting : Wanting). wanting.1) wantings) ≡ replies_behind (answers_in wantings) [] wantings
unfolding pack_reply
replies_begun wantings = ap (λ (pairs : List Wanting). replies_of (answers_in wantings) [] (parts_of part_fits pairs)) (zipped wantings)

-- answers that each want what is told
abbrev pub paired : (Rr → List Rr) → List Rr → List Wanting
paired wanted answers = map {B = Wanting} (λ (rr : Rr). (rr, wanted rr)) answers

pub replies_for : (wanted : Rr → List Rr) (answers : List Rr) →
    pack_reply (map (λ (wanting : Wanting). wanting.0) (paired wanted answers)) (map (λ (wanting : Wanting). wanting.1) (paired wanted answers))
    ≡ pack_reply answers (map wanted answers)
replies_for wanted answers = ap₂ pack_reply (firsts answers) (seconds answers)
  where
    firsts : (rrs : List Rr) → map (λ (wanting : Wanting). wanting.0) (paired wanted rrs) ≡ rrs
    firsts [] = refl
    firsts (rr ∷ rrs) = ap (λ (l : List Rr). rr ∷ l) (firsts rrs)

    seconds : (rrs : List Rr) → map (λ (wanting : Wanting). wanting.1) (paired wanted rrs) ≡ map wanted rrs
    seconds [] = refl
    seconds (rr ∷ rrs) = ap (λ (l : List (List Rr)). wanted rr ∷ l) (seconds rrs)
