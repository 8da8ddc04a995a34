-- One element more in the lists that loops go over.
use Rattle.std.proofs.Common.{◌≡◌, ℕ, zero, suc, ◌+◌, ◌<◌, Bool, true, false, cond, List, [], ◌∷◌, ◌++◌, map, take, drop, length, get_or, refl, ap, subst, ◌∙◌, sym, append-nil, add-one, arith}
use Rattle.std.specs.Prelude.{filter, IsTrue}
use Rattle.std.specs.List.{flat_map, AllByRecursion}
use Rattle.std.proofs.lemmas.List.{take_more, map-append}
use Rattle.std.proofs.lemmas.List.Concat.{flat_map-append}
use Rattle.std.proofs.Math.Seq.{drop-cons}
use Rattle.mdns_history.specs.declared.operation.Operation.{Operation}
use Rattle.sd_call.specs.Requests.{well_formed}
use Rattle.sd_sessions.specs.Kept.{AreWellFormed}

pub take-next : {X : Type 0} (xs : List X) (i : ℕ) (x : X) → i < length xs → x ≡ get_or xs i x → take (i + 1) xs ≡ take i xs ++ x ∷ []
take-next xs i x h e = take_more xs i x h ∙ ap (λ y. take i xs ++ y ∷ []) (sym e)

pub flat_map-next : {X Y : Type 0} (f : X → List Y) (xs : List X) (i : ℕ) (x : X) → i < length xs → x ≡ get_or xs i x →
    flat_map f (take (i + 1) xs) ≡ flat_map f (take i xs) ++ f x
flat_map-next f xs i x h e =
    ap (flat_map f) (take-next xs i x h e) ∙ flat_map-append f (take i xs) (x ∷ []) ∙ ap (λ z. flat_map f (take i xs) ++ z) (append-nil (f x))

pub drop-next : {X : Type 0} (xs : List X) (i : ℕ) (x : X) → i < length xs → x ≡ get_or xs i x → drop i xs ≡ x ∷ drop (i + 1) xs
drop-next xs i x h e = drop-cons xs i x h ∙ ap (λ y. y ∷ drop (suc i) xs) (sym e) ∙ ap (λ n. x ∷ drop n xs) (sym (add-one i))

-- of operations that are well formed the next is, and so are those behind it
pub formed-next : (os : List Operation) (i : ℕ) (o : Operation) → i < length os → o ≡ get_or os i o → AreWellFormed (drop i os) →
    IsTrue (well_formed o.request) × AreWellFormed (drop (i + 1) os)
formed-next os i o h e formed = subst AreWellFormed (drop-next os i o h e) formed

-- a filter before a map
pub filter_map_swap : {X Y : Type 0} (p : Y → Bool) (f : X → Y) (xs : List X) → filter p (map f xs) ≡ map f (filter (λ x. p (f x)) xs)
filter_map_swap p f [] = refl
filter_map_swap p f (x ∷ xs) = at (p (f x)) (filter_map_swap p f xs)
  where
    at : (b : Bool) → filter p (map f xs) ≡ map f (filter (λ y. p (f y)) xs) →
        cond b (f x ∷ filter p (map f xs)) (filter p (map f xs)) ≡ map f (cond b (x ∷ filter (λ y. p (f y)) xs) (filter (λ y. p (f y)) xs))
    at true ih = ap (λ ys. f x ∷ ys) ih
    at false ih = ih

-- one element more of a list that is mapped twice
pub map_map-next : {X Y Z : Type 0} (f : Y → Z) (g : X → Y) (xs : List X) (i : ℕ) (x : X) → i < length xs → x ≡ get_or xs i x →
    map f (map g (take (i + 1) xs)) ≡ map f (map g (take i xs)) ++ f (g x) ∷ []
map_map-next f g xs i x h e =
    ap (λ ys. map f (map g ys)) (take-next xs i x h e) ∙ ap (map f) (map-append g (take i xs) (x ∷ [])) ∙ map-append f (map g (take i xs)) (g x ∷ [])

-- what holds of each element holds of that at a place
pub all-at : {X Y : Type 0} (P : Y → Type 0) (f : X → Y) (xs : List X) (i : ℕ) (x : X) → i < length xs → x ≡ get_or xs i x → AllByRecursion P (map f xs) → P (f x)
all-at P f [] i x h e all = absurd (omega arith)
all-at P f (y ∷ xs) zero x h e all = subst (λ z. P (f z)) (sym e) all.0
all-at P f (y ∷ xs) (suc i) x h e all = all-at P f xs i x (omega arith) e all.1

pub all-here : {X : Type 0} (P : X → Type 0) (xs : List X) (i : ℕ) (x : X) → i < length xs → x ≡ get_or xs i x → AllByRecursion P xs → P x
all-here P [] i x h e all = absurd (omega arith)
all-here P (y ∷ xs) zero x h e all = subst P (sym e) all.0
all-here P (y ∷ xs) (suc i) x h e all = all-here P xs i x (omega arith) e all.1
