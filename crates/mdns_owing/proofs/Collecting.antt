-- What questions have once what they ask for was collected.
use Rattle.std.proofs.Common.{◌≡◌, ℕ, ◌<◌, Bool, true, ◌||◌, cond, List, [], ◌∷◌, length, get_or, map, filter, Option, Some, None, refl, ap, sym, ◌∙◌}
use Rattle.std.specs.List.{list_any}
use Rattle.std.specs.Option.{unwrap_or}
use Rattle.std.proofs.lemmas.List.Folds.{list_any_at}
use Rattle.dns_name.specs.Names.{folded_eq}
use Rattle.dns_record.specs.declared.record.Question.{Question}
use Rattle.dns_record.specs.declared.record.Rr.{Rr}
use Rattle.dns_record.specs.Records.{key_eq, matches}
use Rattle.by_name.proofs.Finding.{at_eq-laws}
use Rattle.mdns_asked.specs.Asked.{Contents, key_of, place_of, is_asked, any_for, AreOf}
use Rattle.mdns_asked.proofs.Asking.{all_of_name}
use Rattle.mdns_owing.specs.Asked.{own_found}

-- the question for all records of a question's name
abbrev pub any_of : Question → Question
any_of question = any_for question.name

is_asked_itself : (question : Question) → key_eq (key_of question) (key_of question) ≡ true
unfolding key_eq folded_eq
is_asked_itself question = at_eq-laws.refl (place_of question)

is_asked_at : (questions : List Question) (i : ℕ) (question : Question) → i < length questions → question ≡ get_or questions i question → is_asked questions question ≡ true
is_asked_at questions i question within is =
    list_any_at (λ one. key_eq (key_of question) (key_of one)) questions i question within
    (ap (λ (one : Question). key_eq (key_of question) (key_of one)) (sym is) ∙ is_asked_itself question)

-- a test of some in place of these, passed by one of them
any_mapped : {X Y : Type 0} (test : Y → Bool) (f : X → Y) (xs : List X) → list_any test (map f xs) ≡ list_any (λ x. test (f x)) xs
any_mapped test f [] = refl
any_mapped test f (x ∷ xs) = ap (λ b. test (f x) || b) (any_mapped test f xs)

is_named_at : (questions : List Question) (i : ℕ) (question : Question) → i < length questions → question ≡ get_or questions i question → is_asked (map any_of questions) (any_of question) ≡ true
is_named_at questions i question within is =
    any_mapped (λ one. key_eq (key_of (any_of question)) (key_of one)) any_of questions
    ∙ list_any_at (λ one. key_eq (key_of (any_of question)) (key_of (any_of one))) questions i question within
    (ap (λ (one : Question). key_eq (key_of (any_of question)) (key_of (any_of one))) (sym is) ∙ is_asked_itself (any_of question))

found_for : (questions : List Question) (rrs : List Rr) (asked : Contents) (question : Question) → AreOf questions rrs asked → is_asked questions question ≡ true
    → own_found question asked ≡ filter (matches (key_of question)) rrs
found_for questions rrs asked question are is =
    ap (λ (o : Option (List Rr)). unwrap_or o []) (are question ∙ ap (λ b. cond b (Some (filter (matches (key_of question)) rrs)) None) is)

-- What one of the questions has is found.
pub found_at : (questions : List Question) (rrs : List Rr) (asked : Contents) (i : ℕ) (question : Question) → AreOf questions rrs asked → i < length questions → question ≡ get_or questions i question
    → own_found question asked ≡ filter (matches (key_of question)) rrs
found_at questions rrs asked i question are within is = found_for questions rrs asked question are (is_asked_at questions i question within is)

-- What the name of one of them has is found.
pub named_at : (questions : List Question) (rrs : List Rr) (asked : Contents) (i : ℕ) (question : Question) → AreOf (map any_of questions) rrs asked → i < length questions → question ≡ get_or questions i question
    → own_found (any_for question.name) asked ≡ filter (λ rr. folded_eq rr.owner question.name) rrs
named_at questions rrs asked i question are within is =
    found_for (map any_of questions) rrs asked (any_of question) are (is_named_at questions i question within is) ∙ all_of_name question.name rrs
