-- Answers depend on which records there are.
use Rattle.std.proofs.Common.{◌≡◌, ℕ, Bool, true, false, cond, not, eqb, subst, ◌&&◌, ◌||◌, List, [], ◌∷◌, ◌++◌, refl, ap, ◌∙◌, sym, Option, Some, None, true≢false}
use Rattle.std.specs.Prelude.{filter}
use Rattle.std.specs.List.{list_any, list_all, flat_map, filter_map, cons_option, AllByRecursion, Any, Contains}
use Rattle.std.specs.Ordering.{is_eq}
use Rattle.std.specs.Cmp.{both_ways}
use Rattle.std.proofs.lemmas.List.Folds.{Any-from_list_any, list_any-from_Any, list_any-append}
use Rattle.std.proofs.lemmas.List.Sorted.{list_any-IsPermutation}
use Rattle.std.proofs.lemmas.Bool.{and_from, and_parts}
use Rattle.std.proofs.lemmas.Map.Text.{is_eq-slice_cmp}
use Rattle.std.proofs.lemmas.Slice.Eq.{bytes_eq-Decides}
use Rattle.dns_name.specs.Names.{folded_eq}
use Rattle.lists.specs.Lists.{ordered}
use Rattle.dns_record.specs.declared.record.Rdata.{Rdata}
use Rattle.dns_record.specs.declared.record.Rdata.TheVariants.{Ptr, Srv, Txt}
use Rattle.dns_record.specs.declared.record.Rr.{Rr}
use Rattle.dns_record.specs.declared.record.Key.{Key}
use Rattle.dns_record.specs.Records.{matches, any_kind, kind_of}
use Rattle.dns_message.specs.Writing.{is_below, are_bytes, is_spellable_name, is_spellable_data}
use Rattle.sd_name.specs.ServiceTypes.{ServiceType, service_type, instance_name}
use Rattle.sd_call.specs.declared.request.Request.{Request}
use Rattle.sd_call.specs.declared.request.Request.TheVariants as request
use Rattle.sd_call.specs.declared.answer.Answer.{Answer}
use Rattle.sd_call.specs.Answers.{answer_bytes, answer_cmp}
use Rattle.mdns_history.specs.Typed.{is_typed_answer}
use Rattle.mdns_history.specs.Questions.{keys_of, key_of, address_keys, browse_keys, resolve_keys}
use Rattle.mdns_history.specs.Answers.{matching, datum_of, found_in, resolved_with, answers_from, answers_over}
use Rattle.sd_answer.specs.Laws.{have_data, IsOrderFree, IsCountFree, HaveOneName, IsOfItsName, IsOfOneName, IsNothingUnasked}
use Rattle.dns_name.proofs.Folding.{folded_eq-equivalence}
use Rattle.lists.proofs.InOrder.{all-filter, any-filter, same-ordered}
use Rattle.sd_answer.proofs.Puts.{answer_cmp-total}
use Rattle.sd_answer.proofs.Known.{answer_told}

-- no test tells two lists apart
abbrev AreAlike : {X : Type 0} → List X → List X → Type 0
AreAlike {X} xs ys = (t : X → Bool) → list_any t xs ≡ list_any t ys

list_any-ext : {X : Type 0} (p q : X → Bool) → ((x : X) → p x ≡ q x) → (xs : List X) → list_any p xs ≡ list_any q xs
list_any-ext p q same [] = refl
list_any-ext p q same (x ∷ xs) = λ i. same x i || list_any-ext p q same xs i

abbrev passes : {Y : Type 0} → (Y → Bool) → Option Y → Bool
passes t None = false
passes t (Some y) = t y

any-filter_map : {X Y : Type 0} (t : Y → Bool) (f : X → Option Y) (xs : List X) → list_any t (filter_map f xs) ≡ list_any (λ x. passes t (f x)) xs
any-filter_map t f [] = refl
any-filter_map {Y = Y} t f (x ∷ xs) = given (f x) (any-filter_map t f xs)
  where
    given : (o : Option Y) → list_any t (filter_map f xs) ≡ list_any (λ x. passes t (f x)) xs → list_any t (cons_option o (filter_map f xs)) ≡ (passes t o || list_any (λ x. passes t (f x)) xs)
    given None ih = ih
    given (Some y) ih = ap (λ (b : Bool). t y || b) ih

any-flat_map : {X Y : Type 0} (t : Y → Bool) (f : X → List Y) (xs : List X) → list_any t (flat_map f xs) ≡ list_any (λ x. list_any t (f x)) xs
any-flat_map t f [] = refl
any-flat_map t f (x ∷ xs) = list_any-append t (f x) (flat_map f xs) ∙ ap (λ (b : Bool). list_any t (f x) || b) (any-flat_map t f xs)

alike-filter : {X : Type 0} (p : X → Bool) (xs ys : List X) → AreAlike xs ys → AreAlike (filter p xs) (filter p ys)
alike-filter p xs ys h t = any-filter t p xs ∙ h (λ x. p x && t x) ∙ sym (any-filter t p ys)

alike-filter_map : {X Y : Type 0} (f : X → Option Y) (xs ys : List X) → AreAlike xs ys → AreAlike (filter_map f xs) (filter_map f ys)
alike-filter_map f xs ys h t = any-filter_map t f xs ∙ h (λ x. passes t (f x)) ∙ sym (any-filter_map t f ys)

alike-flat_map : {X Y : Type 0} (f g : X → List Y) (xs ys : List X) → AreAlike xs ys → ((x : X) → AreAlike (f x) (g x)) → AreAlike (flat_map f xs) (flat_map g ys)
alike-flat_map f g xs ys h same t =
    any-flat_map t f xs ∙ h (λ x. list_any t (f x)) ∙ list_any-ext (λ x. list_any t (f x)) (λ x. list_any t (g x)) (λ x. same x t) ys ∙ sym (any-flat_map t g ys)

alike-given : (request : Request) (xs ys : List Rr) → AreAlike xs ys → AreAlike (answers_from request xs) (answers_from request ys)
alike-given (request.Query kind name) xs ys h = alike-filter_map datum_of xs ys h
alike-given (request.Address families name) xs ys h = alike-filter_map datum_of xs ys h
alike-given (request.Browse regtype) xs ys h = alike-filter_map (λ rr. found_in rr.rdata) xs ys h
alike-given (request.Resolve label regtype) xs ys h =
    alike-flat_map (λ srv. filter_map (λ txt. resolved_with srv.rdata txt.rdata) xs) (λ srv. filter_map (λ txt. resolved_with srv.rdata txt.rdata) ys) xs ys h
    (λ srv. alike-filter_map (λ txt. resolved_with srv.rdata txt.rdata) xs ys h)
alike-given (request.Register label regtype port norename txt) xs ys h = λ t. refl
alike-given (request.Update txt) xs ys h = λ t. refl
alike-given request.Stop xs ys h = λ t. refl

-- ---- answers are of their types where the data are

all-is : {X : Type 0} (p : X → Bool) (xs : List X) → list_all p xs ≡ not (list_any (λ x. not (p x)) xs)
all-is p [] = refl
all-is p (x ∷ xs) = at (p x) (all-is p xs)
  where
    at : (b : Bool) → list_all p xs ≡ not (list_any (λ x. not (p x)) xs) → (b && list_all p xs) ≡ not (not b || list_any (λ x. not (p x)) xs)
    at true ih = ih
    at false ih = refl

alike-all : {X : Type 0} (p : X → Bool) (xs ys : List X) → AreAlike xs ys → list_all p xs ≡ list_all p ys
alike-all p xs ys h = all-is p xs ∙ ap not (h (λ x. not (p x))) ∙ sym (all-is p ys)

abbrev holds : {Y : Type 0} → (Y → Bool) → Option Y → Bool
holds t None = true
holds t (Some y) = t y

all-filter_map : {X Y : Type 0} (p : X → Bool) (t : Y → Bool) (f : X → Option Y) → ((x : X) → p x ≡ true → holds t (f x) ≡ true) → (xs : List X) → list_all p xs ≡ true → list_all t (filter_map f xs) ≡ true
all-filter_map p t f good [] h = refl
all-filter_map {Y = Y} p t f good (x ∷ xs) h =
    given (f x) (good x (and_parts (p x) (list_all p xs) h).0) (all-filter_map p t f good xs (and_parts (p x) (list_all p xs) h).1)
  where
    given : (o : Option Y) → holds t o ≡ true → list_all t (filter_map f xs) ≡ true → list_all t (cons_option o (filter_map f xs)) ≡ true
    given None e ih = ih
    given (Some y) e ih = and_from (t y) (list_all t (filter_map f xs)) e ih

all-append : {X : Type 0} (t : X → Bool) (xs ys : List X) → list_all t xs ≡ true → list_all t ys ≡ true → list_all t (xs ++ ys) ≡ true
all-append t [] ys h k = k
all-append t (x ∷ xs) ys h k =
    let p = and_parts (t x) (list_all t xs) h in and_from (t x) (list_all t (xs ++ ys)) p.0 (all-append t xs ys p.1 k)

all-flat_map : {X Y : Type 0} (p : X → Bool) (t : Y → Bool) (f : X → List Y) → ((x : X) → p x ≡ true → list_all t (f x) ≡ true) → (xs : List X) → list_all p xs ≡ true → list_all t (flat_map f xs) ≡ true
all-flat_map p t f good [] h = refl
all-flat_map p t f good (x ∷ xs) h =
    let q = and_parts (p x) (list_all p xs) h in all-append t (f x) (flat_map f xs) (good x q.0) (all-flat_map p t f good xs q.1)

found_typed : (rdata : Rdata) → is_spellable_data rdata ≡ true → holds is_typed_answer (found_in rdata) ≡ true
found_typed (Ptr name) h = h
found_typed _ h = refl

pair_typed : (srv txt : Rdata) → is_spellable_data srv ≡ true → is_spellable_data txt ≡ true → holds is_typed_answer (resolved_with srv txt) ≡ true
pair_typed (Srv priority weight port target) (Txt bytes) h k =
    and_from (is_below 16 priority && is_below 16 weight && is_below 16 port && is_spellable_name target) (are_bytes bytes) h k
pair_typed _ _ h k = refl

typed-given : (request : Request) (xs : List Rr) → have_data xs ≡ true → list_all is_typed_answer (answers_from request xs) ≡ true
typed-given (request.Query kind name) xs h = all-filter_map (λ rr. is_spellable_data rr.rdata) is_typed_answer datum_of (λ rr e. e) xs h
typed-given (request.Address families name) xs h = all-filter_map (λ rr. is_spellable_data rr.rdata) is_typed_answer datum_of (λ rr e. e) xs h
typed-given (request.Browse regtype) xs h = all-filter_map (λ rr. is_spellable_data rr.rdata) is_typed_answer (λ rr. found_in rr.rdata) (λ rr e. found_typed rr.rdata e) xs h
typed-given (request.Resolve label regtype) xs h =
    all-flat_map (λ rr. is_spellable_data rr.rdata) is_typed_answer (λ srv. filter_map (λ txt. resolved_with srv.rdata txt.rdata) xs)
    (λ srv e. all-filter_map (λ rr. is_spellable_data rr.rdata) is_typed_answer (λ txt. resolved_with srv.rdata txt.rdata) (λ txt k. pair_typed srv.rdata txt.rdata e k) xs h) xs h
typed-given (request.Register label regtype port norename txt) xs h = refl
typed-given (request.Update txt) xs h = refl
typed-given request.Stop xs h = refl

-- ---- the laws

told : (left right : Answer) → is_typed_answer left ≡ true → is_typed_answer right ≡ true → is_eq (answer_cmp left right) ≡ true → left ≡ right
unfolding answer_cmp
told left right h k e = answer_told left right h k ((bytes_eq-Decides (answer_bytes left) (answer_bytes right)).0 (sym (is_eq-slice_cmp (answer_bytes left) (answer_bytes right)) ∙ e))

-- records that no test tells apart give the same answers
alike_over : (request : Request) (one other : List Rr) → have_data one ≡ true → AreAlike (matching (keys_of request) one) (matching (keys_of request) other) →
    have_data (matching (keys_of request) other) ≡ true → answers_over request one ≡ answers_over request other
unfolding answers_over
alike_over request one other h alike k =
    same-ordered answer_cmp answer_cmp-total is_typed_answer told
    (answers_from request (matching (keys_of request) one)) (answers_from request (matching (keys_of request) other))
    (typed-given request (matching (keys_of request) one) (all-filter (λ rr. is_spellable_data rr.rdata) (λ rr. list_any (λ key. matches key rr) (keys_of request)) one h))
    (typed-given request (matching (keys_of request) other) k)
    (λ z. alike-given request (matching (keys_of request) one) (matching (keys_of request) other) alike (λ y. is_eq (answer_cmp z y)))

alike_answers : (request : Request) (one other : List Rr) → have_data one ≡ true → AreAlike one other → answers_over request one ≡ answers_over request other
alike_answers request one other h alike =
    let asked : Rr → Bool = λ rr. list_any (λ key. matches key rr) (keys_of request) in
    alike_over request one other h (alike-filter asked one other alike)
    (all-filter (λ rr. is_spellable_data rr.rdata) asked other (sym (alike-all (λ rr. is_spellable_data rr.rdata) one other alike) ∙ h))

pub order_free : IsOrderFree
order_free request one other h moved = alike_answers request one other h (λ t. list_any-IsPermutation t one other moved)

-- what a test finds in one list it finds in another
carried : {X : Type 0} (t u : X → Bool) (xs ys : List X) → ((x : X) → Contains xs x → t x ≡ true → Contains ys x × (u x ≡ true)) → list_any t xs ≡ true → list_any u ys ≡ true
carried t u xs ys h e =
    let found : Any (λ x. t x ≡ true) xs = Any-from_list_any t xs e in
    let there = h found.1 (found.0, found.2, found.3) found.4 in
    list_any-from_Any u ys (there.0.0, found.1, there.0.1, there.0.2, there.1)

pub count_free : IsCountFree
count_free request one other h same = alike_answers request one other h (λ t.
    both_ways (list_any t one) (list_any t other) (carried t t one other (λ rr there e. ((same rr).0 there, e))) (carried t t other one (λ rr there e. ((same rr).1 there, e))))

pub nothing_unasked : IsNothingUnasked
unfolding answers_over
nothing_unasked asked rrs e =
    ap (λ (keys : List Key). ordered answer_cmp (answers_from asked (matching keys rrs))) e
    ∙ ap (λ (l : List Rr). ordered answer_cmp (answers_from asked l)) (none rrs) ∙ nothing asked
  where
    none : (xs : List Rr) → matching [] xs ≡ []
    none [] = refl
    none (x ∷ xs) = none xs

    nothing : (r : Request) → ordered answer_cmp (answers_from r []) ≡ []
    nothing (request.Query kind name) = refl
    nothing (request.Address families name) = refl
    nothing (request.Browse regtype) = refl
    nothing (request.Resolve label regtype) = refl
    nothing (request.Register label regtype port norename txt) = refl
    nothing (request.Update txt) = refl
    nothing request.Stop = refl

-- ---- one name

abbrev HaveName : List (List ℕ) → List Key → Type 0
HaveName name keys = AllByRecursion (λ (key : Key). key.name ≡ name) keys

address_name : (families : ℕ) (name : List (List ℕ)) → HaveName name (address_keys families name)
address_name families name = at (eqb families 1) (eqb families 2)
  where
    at : (a b : Bool) → HaveName name (cond a (key_of 1 name ∷ []) (cond b (key_of 28 name ∷ []) (key_of 1 name ∷ key_of 28 name ∷ [])))
    at true b = (refl, tt)
    at false true = (refl, tt)
    at false false = (refl, (refl, tt))

pub one_name : HaveOneName
unfolding keys_of
one_name (request.Query kind name) = (name, (refl, tt))
one_name (request.Address families name) = (name, address_name families name)
one_name (request.Browse regtype) = browsed (service_type regtype)
  where
    browsed : (type : Option ServiceType) → (name : List (List ℕ)) × HaveName name (browse_keys type)
    browsed None = ([], tt)
    browsed (Some type) = (_, (refl, tt))
one_name (request.Resolve label regtype) = resolved (service_type regtype)
  where
    resolved : (type : Option ServiceType) → (name : List (List ℕ)) × HaveName name (resolve_keys label type)
    resolved None = ([], tt)
    resolved (Some type) = (instance_name label type, (refl, (refl, tt)))
one_name (request.Register label regtype port norename txt) = ([], tt)
one_name (request.Update txt) = ([], tt)
one_name request.Stop = ([], tt)

-- a record that matches one of the questions has their name
has_name : (name : List (List ℕ)) (keys : List Key) (rr : Rr) → HaveName name keys → list_any (λ key. matches key rr) keys ≡ true → folded_eq name rr.owner ≡ true
unfolding matches
has_name name [] rr h e = absurd (cc)
has_name name (key ∷ keys) rr h e = at (folded_eq key.name rr.owner) refl e (has_name name keys rr h.1)
  where
    at : (b : Bool) → folded_eq key.name rr.owner ≡ b → ((b && (eqb key.kind any_kind || eqb key.kind (kind_of rr.rdata))) || list_any (λ k. matches k rr) keys) ≡ true →
        (list_any (λ k. matches k rr) keys ≡ true → folded_eq name rr.owner ≡ true) → folded_eq name rr.owner ≡ true
    at true f g ih = ap (λ (n : List (List ℕ)). folded_eq n rr.owner) (sym h.0) ∙ f
    at false f g ih = ih g

-- all questions have the name of the first
first_named : (request : Request) (question : Key) (more : List Key) → keys_of request ≡ question ∷ more → HaveName question.name (keys_of request)
first_named request question more asked =
    let n = one_name request in
    let P : List Key → Type 0 = HaveName n.0 in
    let Q : List (List ℕ) → Type 0 = λ m. HaveName m (keys_of request) in
    let first : HaveName n.0 (question ∷ more) = subst P asked n.1 in
    subst Q (sym first.0) n.1

-- what passes no later test may be left out before
filter_less : {X : Type 0} (p q : X → Bool) → ((x : X) → p x ≡ true → q x ≡ true) → (xs : List X) → filter p (filter q xs) ≡ filter p xs
filter_less p q less [] = refl
filter_less p q less (x ∷ xs) = of (q x) refl (p x) refl (filter_less p q less xs)
  where
    of : (b : Bool) → q x ≡ b → (c : Bool) → p x ≡ c → filter p (filter q xs) ≡ filter p xs → filter p (cond b (x ∷ filter q xs) (filter q xs)) ≡ cond c (x ∷ filter p xs) (filter p xs)
    of true e c f ih = ap (λ z. cond z (x ∷ filter p (filter q xs)) (filter p (filter q xs))) f ∙ ap (λ l. cond c (x ∷ l) l) ih
    of false e false f ih = ih
    of false e true f ih = absurd (true≢false (sym (less x f) ∙ e))

-- a record that gives an answer has the name of the questions
pub of_its_name : IsOfItsName
unfolding answers_over
of_its_name request question more rrs asked =
    ap (λ (xs : List Rr). ordered answer_cmp (answers_from request xs))
    (filter_less (λ (rr : Rr). list_any (λ key. matches key rr) (keys_of request)) (λ (rr : Rr). folded_eq rr.owner question.name)
    (λ rr e. folded_eq-equivalence.symm rr.owner question.name ∙ has_name question.name (keys_of request) rr (first_named request question more asked) e) rrs)

pub of_one_name : IsOfOneName
of_one_name request question more all collected asked h same =
    alike_over request collected all kept alike (all-filter (λ rr. is_spellable_data rr.rdata) test all h)
  where
    test : Rr → Bool
    test rr = list_any (λ key. matches key rr) (keys_of request)

    of_name : (rr : Rr) → test rr ≡ true → folded_eq question.name rr.owner ≡ true
    of_name rr e = has_name question.name (keys_of request) rr (first_named request question more asked) e

    alike : AreAlike (matching (keys_of request) collected) (matching (keys_of request) all)
    alike t = any-filter t test collected
        ∙ both_ways (list_any (λ rr. test rr && t rr) collected) (list_any (λ rr. test rr && t rr) all)
        (carried (λ rr. test rr && t rr) (λ rr. test rr && t rr) collected all (λ rr there e. (((same rr).0 there).0, e)))
        (carried (λ rr. test rr && t rr) (λ rr. test rr && t rr) all collected (λ rr there e. ((same rr).1 (there, of_name rr (and_parts (test rr) (t rr) e).0), e)))
        ∙ sym (any-filter t test all)

    kept : have_data collected ≡ true
    kept = all-is typed collected ∙ at (list_any (λ rr. not (typed rr)) collected) refl
      where
        typed : Rr → Bool
        typed rr = is_spellable_data rr.rdata

        at : (b : Bool) → list_any (λ rr. not (typed rr)) collected ≡ b → not (list_any (λ rr. not (typed rr)) collected) ≡ true
        at true e =
            let there : list_any (λ rr. not (typed rr)) all ≡ true = carried (λ rr. not (typed rr)) (λ rr. not (typed rr)) collected all (λ rr there e. (((same rr).0 there).0, e)) e in
            let none : not (list_any (λ rr. not (typed rr)) all) ≡ true = sym (all-is typed all) ∙ h in
            absurd (cc)
        at false e = ap not e
