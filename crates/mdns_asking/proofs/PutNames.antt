-- The names that are put, one by one, are those that are to be walked.
use Rattle.std.proofs.Common.{◌≡◌, ℕ, ◌+◌, ◌<◌, ◌≤◌, Bool, true, false, ◌||◌, ◌&&◌, List, [], ◌∷◌, ◌++◌, length, get_or, take, refl, sym, ap, subst, ◌∙◌, ⊎_elim}
use Rattle.std.specs.List.{list_any, AllByRecursion, Contains}
use Rattle.std.proofs.lemmas.Bool.{and_from}
use Rattle.std.proofs.lemmas.List.{take_more, take_all, get_or_default}
use Rattle.std.proofs.lemmas.List.Elements.{Contains-push_cases, Contains-get_or, recursion_from_All}
use Rattle.std.proofs.lemmas.List.Folds.{list_any_at}
use Rattle.dns_name.specs.Names.{folded_eq}
use Rattle.dns_name.proofs.Folding.{folded_eq-equivalence}
use Rattle.dns_record.specs.declared.record.Key.{Key}
use Rattle.mdns_cache.specs.Ended.{is_among}
use Rattle.mdns_cache.proofs.ListLemmas.{each-append, each-weaker}
use Rattle.mdns_happened.specs.Told.{Told}
use Rattle.mdns_question.specs.declared.tracked.Tracked.{Tracked}
use Rattle.sd_sessions.specs.Put.{ArePutOnly}
use Rattle.mdns_asking.specs.Asked.{begun_keys}
use Rattle.mdns_asking.specs.Walked.{is_maybe_asked, may_be_asked, AreNamed}
use Rattle.mdns_asking.specs.Places.{IsPlaceOf, ArePut}
use Rattle.mdns_asking.proofs.PutPlaces.{place_at, is_put}

pub or_true : (b : Bool) → (b || true) ≡ true
or_true true = refl
or_true false = refl

-- What is put for the questions and for what begins is what is to be walked.
pub named_both : (told : Told) (moment : ℕ) (questions : List Tracked) (touched middle names : List (List (List ℕ))) →
    AllByRecursion (λ (one : Tracked). (is_among touched one.key.name || may_be_asked told moment one) ≡ true → is_among middle one.key.name ≡ true) questions →
    ((name : List (List ℕ)) → is_among middle name ≡ true → is_among names name ≡ true) → AllByRecursion (λ (key : Key). is_among names key.name ≡ true) (begun_keys told.call) →
    AreNamed told moment questions touched names
named_both told moment questions touched middle names put stays new = record {
  touched = each-weaker (λ (one : Tracked). is_among touched one.key.name ≡ true → is_among names one.key.name ≡ true) _
      (λ one h e. stays one.key.name (h (ap (λ (b : Bool). b || may_be_asked told moment one) e))) questions put;
  asked = each-weaker (λ (one : Tracked). may_be_asked told moment one ≡ true → is_among names one.key.name ≡ true) _
      (λ one h e. stays one.key.name (h (ap (λ (b : Bool). is_among touched one.key.name || b) e ∙ or_true (is_among touched one.key.name)))) questions put;
  begun = new;
}

-- one question more whose name is put
pub put-next : {X : Type 0} (P Q : X → Type 0) (xs : List X) (i : ℕ) (x : X) → i < length xs → x ≡ get_or xs i x → ((y : X) → P y → Q y) → Q x → AllByRecursion P (take i xs) →
    AllByRecursion Q (take (i + 1) xs)
put-next P Q xs i x within is weaker here before =
    subst (AllByRecursion Q) (sym (take_more xs i x within ∙ ap (λ y. take i xs ++ y ∷ []) (sym is))) (each-append Q (take i xs) (x ∷ []) (each-weaker Q P weaker (take i xs) before) (here, tt))

-- names that are one, case aside, are both among others or neither is
same_among : (name other : List (List ℕ)) → folded_eq name other ≡ true → (names : List (List (List ℕ))) → is_among names name ≡ is_among names other
same_among name other same [] = refl
same_among name other same (one ∷ names) = λ i. folded_eq-equivalence.congr name other one same i || same_among name other same names i

-- ---- names that are put at places

-- the question at one place more has its name there
pub named_next : (questions : List Tracked) (places : List ℕ) (i place : ℕ) (one : Tracked) (before after : List (List (List ℕ))) → i < length places → place ≡ get_or places i place → place < length questions →
    one ≡ get_or questions place one → ((name : List (List ℕ)) → is_among before name ≡ true → is_among after name ≡ true) → is_among after one.key.name ≡ true →
    ((k : ℕ) (d : Tracked) → Contains (take i places) k → is_among before (get_or questions k d).key.name ≡ true) →
    (k : ℕ) (d : Tracked) → Contains (take (i + 1) places) k → is_among after (get_or questions k d).key.name ≡ true
named_next questions places i place one before after inside at within is stays put had k d h =
    ⊎_elim (λ old. stays (get_or questions k d).key.name (had k d old)) (λ same. subst (λ (j : ℕ). is_among after (get_or questions j d).key.name ≡ true) same here)
    (Contains-push_cases (take i places) place k (subst (λ (l : List ℕ). Contains l k) (take_more places i place inside ∙ ap (λ (p : ℕ). take i places ++ p ∷ []) (sym at)) h))
  where
    here : is_among after (get_or questions place d).key.name ≡ true
    here = subst (λ (x : Tracked). is_among after x.key.name ≡ true) (is ∙ get_or_default questions place one d within) put

-- Each question that passes a test has its name there, where its place was gone over.
pub named_all : (test : Tracked → Bool) (questions : List Tracked) (places : List ℕ) (i : ℕ) (names : List (List (List ℕ))) → ArePut test questions [] places → length places ≤ i →
    ((k : ℕ) (d : Tracked) → Contains (take i places) k → is_among names (get_or questions k d).key.name ≡ true) →
    AllByRecursion (λ (one : Tracked). test one ≡ true → is_among names one.key.name ≡ true) questions
named_all test questions places i names put done named =
    recursion_from_All (λ (one : Tracked). test one ≡ true → is_among names one.key.name ≡ true) questions
    (λ k d within passes. named k d (subst (λ (l : List ℕ). Contains l k) (sym (take_all i places done)) (put.put k (place_at test questions k d within passes))))

-- the name of one question more that passes
pub only_again : (test : Tracked → Bool) (questions : List Tracked) (places : List ℕ) (i place : ℕ) (one : Tracked) (names between more : List (List (List ℕ))) → i < length places → place ≡ get_or places i place →
    ArePut test questions [] places → one ≡ get_or questions place one → ArePutOnly (λ name. list_any (λ x. test x && folded_eq name x.key.name) questions) names between →
    ArePutOnly (λ name. folded_eq name one.key.name) between more → ArePutOnly (λ name. list_any (λ x. test x && folded_eq name x.key.name) questions) names more
only_again test questions places i place one names between more inside at put is first second name there =
    of (is_among between name) (folded_eq name one.key.name) refl refl (second name there)
  where
    here : IsPlaceOf test questions place
    here = is_put test questions places place put (subst (Contains places) (sym at) (Contains-get_or places i place inside))

    of : (a b : Bool) → is_among between name ≡ a → folded_eq name one.key.name ≡ b → (a || b) ≡ true → (is_among names name || list_any (λ x. test x && folded_eq name x.key.name) questions) ≡ true
    of true b e f h = first name e
    of false true e f h =
        ap (λ b. is_among names name || b)
        (list_any_at (λ x. test x && folded_eq name x.key.name) questions place one here.within
        (and_from (test (get_or questions place one)) (folded_eq name (get_or questions place one).key.name) (here.passes one) (ap (λ (x : Tracked). folded_eq name x.key.name) (sym is) ∙ f)))
        ∙ or_true (is_among names name)
    of false false e f h = absurd (cc)

-- the names of questions that are touched, or may be asked
pub only_near : (told : Told) (moment : ℕ) (touched : List (List (List ℕ))) (questions : List Tracked) (names more : List (List (List ℕ))) →
    ArePutOnly (λ name. list_any (λ one. (is_among touched one.key.name || may_be_asked told moment one) && folded_eq name one.key.name) questions) names more →
    ArePutOnly (λ name. is_among touched name || is_maybe_asked told moment questions name) names more
only_near told moment touched questions names more put name there =
    of (is_among names name) (list_any (λ one. (is_among touched one.key.name || may_be_asked told moment one) && folded_eq name one.key.name) questions) refl (put name there)
  where
    either : (questions : List Tracked) → list_any (λ one. (is_among touched one.key.name || may_be_asked told moment one) && folded_eq name one.key.name) questions ≡ true →
        (is_among touched name || is_maybe_asked told moment questions name) ≡ true
    either [] h = absurd (cc)
    either (one ∷ questions) h = by (folded_eq name one.key.name) refl (is_among touched one.key.name) refl (may_be_asked told moment one) h (either questions)
      where
        rest : Bool
        rest = list_any (λ x. (is_among touched x.key.name || may_be_asked told moment x) && folded_eq name x.key.name) questions

        later : (t m r : Bool) → (t || r) ≡ true → (t || (m || r)) ≡ true
        later true m r e = refl
        later false true r e = refl
        later false false r e = e

        by : (b : Bool) → folded_eq name one.key.name ≡ b → (t : Bool) → is_among touched one.key.name ≡ t → (m : Bool) → (((t || m) && b) || rest) ≡ true →
            (rest ≡ true → (is_among touched name || is_maybe_asked told moment questions name) ≡ true) → (is_among touched name || ((m && b) || is_maybe_asked told moment questions name)) ≡ true
        by true e true f m h ih = ap (λ t. t || ((m && true) || is_maybe_asked told moment questions name)) (same_among name one.key.name e touched ∙ f)
        by true e false f true h ih = or_true (is_among touched name)
        by true e false f false h ih = ih h
        by false e t f m h ih = later (is_among touched name) (m && false) (is_maybe_asked told moment questions name) (ih (none (t || m) rest h))
          where
            none : (a r : Bool) → ((a && false) || r) ≡ true → r ≡ true
            none true r e = e
            none false r e = e

    of : (a b : Bool) → list_any (λ one. (is_among touched one.key.name || may_be_asked told moment one) && folded_eq name one.key.name) questions ≡ b → (a || b) ≡ true →
        (a || (is_among touched name || is_maybe_asked told moment questions name)) ≡ true
    of true b e h = refl
    of false true e h = either questions e
    of false false e h = absurd (cc)
