-- Names that are put behind others: such as pass a test, and none twice.
use Rattle.std.proofs.Common.{◌≡◌, ℕ, ◌+◌, ◌<◌, Bool, true, false, ◌||◌, List, [], ◌∷◌, ◌++◌, take, length, get_or, refl, ap, subst, ◌∙◌, sym}
use Rattle.std.specs.List.{list_any, IsDistinct}
use Rattle.std.proofs.lemmas.List.{take_more}
use Rattle.std.proofs.lemmas.List.Folds.{list_any-append}
use Rattle.std.proofs.lemmas.Map.Keys.{IsDistinct-push}
use Rattle.dns_name.specs.Names.{folded_eq}
use Rattle.dns_name.proofs.Folding.{folded_eq-equivalence}
use Rattle.mdns_cache.specs.Ended.{is_among}
use Rattle.sd_sessions.specs.Put.{ArePutOnce, ArePutOnly}

either : (a b c : Bool) → (a || b) ≡ true → (a ≡ true → c ≡ true) → (b ≡ true → c ≡ true) → c ≡ true
either true b c e first second = first refl
either false b c e first second = second e

left_of : (a b c : Bool) → (a || b) ≡ true → (a || (b || c)) ≡ true
left_of true b c e = refl
left_of false true c e = refl
left_of false false c e = absurd (cc)

last_of : (a b c : Bool) → c ≡ true → (a || (b || c)) ≡ true
last_of true b c e = refl
last_of false true c e = refl
last_of false false c e = e

-- what is put once more
pub only-also : (test other : List (List ℕ) → Bool) (names between more : List (List (List ℕ))) → ArePutOnly test names between → ArePutOnly other between more →
    ArePutOnly (λ name. test name || other name) names more
only-also test other names between more first second name there =
    either (is_among between name) (other name) (is_among names name || (test name || other name)) (second name there)
    (λ e. left_of (is_among names name) (test name) (other name) (first name e))
    (λ e. last_of (is_among names name) (test name) (other name) e)

-- nothing is put
pub only-none : (test : List (List ℕ) → Bool) (names : List (List (List ℕ))) → ArePutOnly test names names
only-none test names name there = ap (λ b. b || test name) there

or_none : (b : Bool) → (b || false) ≡ b
or_none true = refl
or_none false = refl

-- a name is put
pub only-pushed : (names more : List (List (List ℕ))) (one : List (List ℕ)) → more ≡ names ++ one ∷ [] → ArePutOnly (λ name. folded_eq name one) names more
only-pushed names more one is name there =
    ap (λ b. is_among names name || b) (sym (or_none (folded_eq name one))) ∙ sym (list_any-append (folded_eq name) names (one ∷ []))
    ∙ ap (λ (l : List (List (List ℕ))). is_among l name) (sym is) ∙ there

-- and where it wasn't there none is there twice
pub once-pushed : (names more : List (List (List ℕ))) (one : List (List ℕ)) → more ≡ names ++ one ∷ [] → is_among names one ≡ false → ArePutOnce names more
once-pushed names more one is new once = subst (IsDistinct folded_eq) (sym is) (IsDistinct-push folded_eq-equivalence names one once new)

-- one more of those whose names are put
pub only-next : {X : Type 0} (f : X → List (List ℕ)) (all : List X) (i : ℕ) (one : X) → i < length all → one ≡ get_or all i one → (names between more : List (List (List ℕ))) →
    ArePutOnly (λ name. list_any (λ x. folded_eq name (f x)) (take i all)) names between → ArePutOnly (λ name. folded_eq name (f one)) between more →
    ArePutOnly (λ name. list_any (λ x. folded_eq name (f x)) (take (i + 1) all)) names more
only-next {X} f all i one within is names between more first second name there =
    let test : X → Bool = λ x. folded_eq name (f x) in
    let front : take (i + 1) all ≡ take i all ++ one ∷ [] = take_more all i one within ∙ ap (λ (x : X). take i all ++ x ∷ []) (sym is) in
    let both : list_any test (take (i + 1) all) ≡ (list_any test (take i all) || test one) =
    ap (list_any test) front ∙ list_any-append test (take i all) (one ∷ []) ∙ ap (λ b. list_any test (take i all) || b) (or_none (test one)) in
    ap (λ b. is_among names name || b) both
    ∙ only-also (λ n. list_any (λ x. folded_eq n (f x)) (take i all)) (λ n. folded_eq n (f one)) names between more first second name there
