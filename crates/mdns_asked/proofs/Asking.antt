-- Which questions are asked.
use Rattle.std.proofs.Common.{◌≡◌, ℕ, ◌<◌, ◌+◌, Bool, true, false, ◌&&◌, ◌||◌, cond, List, [], ◌∷◌, ◌++◌, length, take, get_or, filter, Option, Some, None, IfSome, refl, ap, sym, subst, ◌∙◌, true≢false}
use Rattle.std.specs.List.{list_any}
use Rattle.std.proofs.lemmas.List.{take_more}
use Rattle.std.proofs.lemmas.List.Folds.{list_any-append}
use Rattle.std.proofs.lemmas.List.Elements.{filter-append}
use Rattle.dns_name.specs.Names.{folded_eq}
use Rattle.dns_name.proofs.Folding.{folded_eq-equivalence}
use Rattle.dns_record.specs.declared.record.Question.{Question}
use Rattle.dns_record.specs.declared.record.Rr.{Rr}
use Rattle.dns_record.specs.Records.{key_eq, matches}
use Rattle.by_name.specs.At.{At, at_eq}
use Rattle.by_name.proofs.Finding.{at_eq-laws}
use Rattle.mdns_asked.specs.Asked.{key_of, place_of, Contents, records_of, is_asked, any_for, AreOf, AreRight, IsPut}
use Rattle.mdns_asked.proofs.Putting.{behind, nothing_behind, then_more}

-- questions ask for the same where their keys are one
same_asked : (one question : Question) → at_eq (place_of one) (place_of question) ≡ key_eq (key_of question) (key_of one)
unfolding key_eq folded_eq
same_asked one question = at_eq-laws.symm (place_of one) (place_of question)

-- no records of a question, where it is asked
abbrev pub none_of : Bool → Option (List Rr)
none_of asked = cond asked (Some []) None

-- One question more is asked, which may be asked already.
pub one_more : (questions items : List Question) (i : ℕ) (one question : Question) (place : At) (before after : Option (List Rr)) → i < length items → one ≡ get_or items i one → items ≡ questions
    → place ≡ place_of one → before ≡ none_of (is_asked (take i questions) question) → after ≡ cond (at_eq place (place_of question)) (Some []) before
    → after ≡ none_of (is_asked (take (i + 1) questions) question)
one_more questions items i one question place before after within is same stands had put =
    put
    ∙ (λ j. cond (at_eq (stands j) (place_of question)) (Some []) (had j))
    ∙ ap (λ b. cond b (Some []) (none_of (is_asked (take i questions) question))) (same_asked one question)
    ∙ either (is_asked (take i questions) question) (key_eq (key_of question) (key_of one))
    ∙ ap none_of (sym (list_any-append test (take i questions) (one ∷ [])))
    ∙ ap (λ (qs : List Question). none_of (list_any test qs))
    (ap (λ (qs : List Question). take i qs ++ one ∷ []) (sym same) ∙ ap (λ (q : Question). take i items ++ q ∷ []) is ∙ sym (take_more items i one within) ∙ ap (λ (qs : List Question). take (i + 1) qs) same)
  where
    test : Question → Bool
    test other = key_eq (key_of question) (key_of other)

    either : (a b : Bool) → cond b (Some []) (none_of a) ≡ none_of (a || (b || false))
    either true true = refl
    either true false = refl
    either false true = refl
    either false false = refl

-- What each question has of all records, once more were put.
pub all_more : (questions : List Question) (some more : List Rr) (before after : Contents) → IsPut more before after → AreOf questions some before → AreOf questions (some ++ more) after
all_more questions some more before after put had question =
    put question
    ∙ ap (behind (filter (matches (key_of question)) more)) (had question)
    ∙ of (is_asked questions question)
  where
    test : Rr → Bool
    test = matches (key_of question)

    of : (b : Bool) → behind (filter test more) (cond b (Some (filter test some)) None) ≡ cond b (Some (filter test (some ++ more))) None
    of true = ap Some (sym (filter-append test some more))
    of false = refl

-- No records were put: nothing changes.
pub none_put : (before : Contents) → IsPut [] before before
none_put before question = nothing_behind (records_of question before)

-- Some were put, and then more.
pub then_put : (some more : List Rr) (start before after : Contents) → IsPut some start before → IsPut more before after → IsPut (some ++ more) start after
then_put some more start before after had put question =
    then_more (matches (key_of question)) some more (records_of question start) (records_of question before) (records_of question after) (had question) (put question)

-- One more of several was put.
pub put_more : (rrs : List Rr) (i : ℕ) (rr : Rr) (start before after : Contents) → i < length rrs → rr ≡ get_or rrs i rr
    → IsPut (take i rrs) start before → IsPut (rr ∷ []) before after → IsPut (take (i + 1) rrs) start after
put_more rrs i rr start before after within is had put =
    subst (λ (some : List Rr). IsPut some start after) (ap (λ (one : Rr). take i rrs ++ one ∷ []) is ∙ sym (take_more rrs i rr within)) (then_put (take i rrs) (rr ∷ []) start before after had put)

-- The records of questions are right once all records were put.
pub are_right : (questions : List Question) (rrs : List Rr) (start after : Contents) → AreOf questions [] start → IsPut rrs start after → AreRight rrs after
are_right questions rrs start after none put question = of (is_asked questions question) (records_of question after) (all_more questions [] rrs start after put none question)
  where
    of : (b : Bool) (o : Option (List Rr)) → o ≡ cond b (Some (filter (matches (key_of question)) rrs)) None → IfSome o (λ found. found ≡ filter (matches (key_of question)) rrs)
    of true None e = tt
    of true (Some found) e = cc
    of false None e = tt
    of false (Some found) e = cc

-- What matches the question for all records of a name are those of the name.
pub all_of_name : (name : List (List ℕ)) (rrs : List Rr) → filter (matches (key_of (any_for name))) rrs ≡ filter (λ rr. folded_eq rr.owner name) rrs
unfolding matches
all_of_name name [] = refl
all_of_name name (rr ∷ rrs) = of (folded_eq name rr.owner) (folded_eq rr.owner name) (folded_eq-equivalence.symm name rr.owner) (all_of_name name rrs)
  where
    here : List Rr
    here = filter (matches (key_of (any_for name))) rrs

    there : List Rr
    there = filter (λ r. folded_eq r.owner name) rrs

    of : (b c : Bool) → b ≡ c → here ≡ there → cond (b && true) (rr ∷ here) here ≡ cond c (rr ∷ there) there
    of true true e rest = ap (λ l. rr ∷ l) rest
    of true false e rest = absurd (true≢false e)
    of false true e rest = absurd (true≢false (sym e))
    of false false e rest = rest
