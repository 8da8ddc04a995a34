-- Who asks for a name, as operations come and go.
use Rattle.std.proofs.Common.{◌≡◌, ℕ, ◌==◌, Bool, true, false, cond, not, ◌&&◌, List, [], ◌∷◌, ◌++◌, map, Some, None, IsPermutation, refl, ap, subst, ◌∙◌, sym, append_assoc, arith}
use Rattle.std.specs.Prelude.{filter, nat_lt}
use Rattle.std.specs.List.{flat_map, find, list_all, list_any, AllByRecursion}
use Rattle.std.specs.Ordering.{is_lt}
use Rattle.std.specs.declared.cmp.Ordering.{Ordering}
use Rattle.std.proofs.lemmas.List.Sorted.{IsPermutation-refl, IsPermutation-sym, IsPermutation-trans, IsPermutation-append_left, IsPermutation-append_right, IsPermutation-append_comm}
use Rattle.lists.specs.Lists.{insert_by}
use Rattle.dns_record.specs.declared.record.Key.{Key}
use Rattle.sd_call.specs.declared.request.Request.{Request}
use Rattle.sd_call.specs.declared.request.Request.TheVariants as request
use Rattle.sd_call.specs.Requests.{is_start}
use Rattle.mdns_history.specs.declared.operation.Operation.{Operation}
use Rattle.mdns_history.specs.Sessions.{after_request, by_op, has_op, is_stop, updated}
use Rattle.by_name.specs.At.{owner_of}
use Rattle.std.specs.Str.{bytes_eq}
use Rattle.sd_index.specs.declared.asker.Asker.{Asker}
use Rattle.sd_index.specs.Asked.{if_asks}
use Rattle.sd_operations.specs.Operations.{AreRising}
use Rattle.sd_sessions.specs.Indexed.{asker_for, asking_of}
use Rattle.sd_sessions.proofs.Seen.{updated_asks}

pub swap_front : {Y : Type 0} (xs ys zs : List Y) → IsPermutation (xs ++ (ys ++ zs)) (ys ++ (xs ++ zs))
swap_front {Y} xs ys zs =
    subst (λ (l : List Y). IsPermutation l (ys ++ (xs ++ zs))) (append_assoc xs ys zs)
    (subst (λ (l : List Y). IsPermutation ((xs ++ ys) ++ zs) l) (append_assoc ys xs zs) (IsPermutation-append_left zs (xs ++ ys) (ys ++ xs) (IsPermutation-append_comm xs ys)))

-- a permutation before others
pub before_rest : {Y : Type 0} (before xs ys zs rest : List Y) → IsPermutation xs (ys ++ zs) → IsPermutation before (xs ++ rest) → IsPermutation before (ys ++ (zs ++ rest))
before_rest {Y} before xs ys zs rest same h =
    IsPermutation-trans before (xs ++ rest) (ys ++ (zs ++ rest)) h
    (subst (λ (l : List Y). IsPermutation (xs ++ rest) l) (append_assoc ys zs rest) (IsPermutation-append_left rest xs (ys ++ zs) same))

-- what holds of each element holds of one that is found
pub holds-found : {X : Type 0} (P : X → Type 0) (test : X → Bool) (xs : List X) (x : X) → AllByRecursion P xs → find test xs ≡ Some x → P x
holds-found P test [] x all found = absurd (cc)
holds-found {X} P test (y ∷ ys) x all found = of (test y) found (holds-found P test ys x all.1)
  where
    of : (b : Bool) → cond b (Some y) (find test ys) ≡ Some x → (find test ys ≡ Some x → P x) → P x
    of true f rest = let same : y ≡ x = cc in subst P same all.0
    of false f rest = rest f

-- it passes the test
pub passes-found : {X : Type 0} (test : X → Bool) (xs : List X) (x : X) → find test xs ≡ Some x → test x ≡ true
passes-found test [] x found = absurd (cc)
passes-found {X} test (y ∷ ys) x found = of (test y) refl found (passes-found test ys x)
  where
    of : (b : Bool) → test y ≡ b → cond b (Some y) (find test ys) ≡ Some x → (find test ys ≡ Some x → test x ≡ true) → test x ≡ true
    of true e f rest = let same : y ≡ x = cc in subst (λ (z : X). test z ≡ true) same e
    of false e f rest = rest f

module _ {X Y : Type 0} (key : X → ℕ) (f : X → List Y) where
  -- the keys rise
  abbrev pub RiseBy : List X → Type 0
  RiseBy [] = Unit {0}
  RiseBy (x ∷ xs) = (list_all (λ (other : X). nat_lt (key x) (key other)) xs ≡ true) × RiseBy xs

  -- the elements of other keys
  abbrev pub others : ℕ → List X → List X
  others n xs = filter (λ (x : X). not (key x == n)) xs

  none-behind : (n : ℕ) (xs : List X) → list_all (λ (other : X). nat_lt n (key other)) xs ≡ true → others n xs ≡ xs
  none-behind n [] h = refl
  none-behind n (x ∷ xs) h = of (nat_lt n (key x)) refl h (none-behind n xs)
    where
      of : (b : Bool) → nat_lt n (key x) ≡ b → (b && list_all (λ (other : X). nat_lt n (key other)) xs) ≡ true → (list_all (λ (other : X). nat_lt n (key other)) xs ≡ true → others n xs ≡ xs) →
          cond (not (key x == n)) (x ∷ others n xs) (others n xs) ≡ x ∷ xs
      of true e g rest =
          let apart : (key x == n) ≡ false = grind arith in
          ap (λ (b : Bool). cond (not b) (x ∷ others n xs) (others n xs)) apart ∙ ap (λ (l : List X). x ∷ l) (rest g)
      of false e g rest = absurd (cc)

  -- where none is found all are others
  pub all-others : (n : ℕ) (xs : List X) → find (λ (x : X). key x == n) xs ≡ None → others n xs ≡ xs
  all-others n [] none = refl
  all-others n (x ∷ xs) none = of (key x == n) none (all-others n xs)
    where
      of : (b : Bool) → cond b (Some x) (find (λ (y : X). key y == n) xs) ≡ None → (find (λ (y : X). key y == n) xs ≡ None → others n xs ≡ xs) →
          cond (not b) (x ∷ others n xs) (others n xs) ≡ x ∷ xs
      of true g rest = absurd (cc)
      of false g rest = ap (λ (l : List X). x ∷ l) (rest g)

  -- what is had of one that is found stands before what is had of the others
  pub split-off : (n : ℕ) (xs : List X) (x : X) → RiseBy xs → find (λ (y : X). key y == n) xs ≡ Some x → IsPermutation (flat_map f xs) (f x ++ flat_map f (others n xs))
  split-off n [] x rising found = absurd (cc)
  split-off n (y ∷ ys) x rising found = of (key y == n) refl found (split-off n ys x rising.1)
    where
      of : (b : Bool) → (key y == n) ≡ b → cond b (Some y) (find (λ (z : X). key z == n) ys) ≡ Some x →
          (find (λ (z : X). key z == n) ys ≡ Some x → IsPermutation (flat_map f ys) (f x ++ flat_map f (others n ys))) →
          IsPermutation (f y ++ flat_map f ys) (f x ++ flat_map f (cond (not b) (y ∷ others n ys) (others n ys)))
      of true e g rest =
          let one : y ≡ x = cc in
          let is : key y ≡ n = grind arith in
          let same : others n ys ≡ ys = none-behind n ys (subst (λ (k : ℕ). list_all (λ (other : X). nat_lt k (key other)) ys ≡ true) is rising.0) in
          subst (λ (l : List Y). IsPermutation (f y ++ flat_map f ys) l) (λ i. f (one i) ++ flat_map f (sym same i)) (IsPermutation-refl (f y ++ flat_map f ys))
      of false e g rest =
          IsPermutation-trans (f y ++ flat_map f ys) (f y ++ (f x ++ flat_map f (others n ys))) (f x ++ (f y ++ flat_map f (others n ys)))
          (IsPermutation-append_right (f y) (flat_map f ys) (f x ++ flat_map f (others n ys)) (rest g)) (swap_front (f y) (f x) (flat_map f (others n ys)))

  -- what is had of one that is put in
  pub put-in : (cmp : X → X → Ordering) (x : X) (xs : List X) → IsPermutation (flat_map f (insert_by cmp x xs)) (f x ++ flat_map f xs)
  put-in cmp x [] = IsPermutation-refl (f x ++ [])
  put-in cmp x (y ∷ ys) = of (is_lt (cmp y x)) (put-in cmp x ys)
    where
      of : (b : Bool) → IsPermutation (flat_map f (insert_by cmp x ys)) (f x ++ flat_map f ys) →
          IsPermutation (flat_map f (cond b (y ∷ insert_by cmp x ys) (x ∷ y ∷ ys))) (f x ++ (f y ++ flat_map f ys))
      of true rest =
          IsPermutation-trans (f y ++ flat_map f (insert_by cmp x ys)) (f y ++ (f x ++ flat_map f ys)) (f x ++ (f y ++ flat_map f ys))
          (IsPermutation-append_right (f y) (flat_map f (insert_by cmp x ys)) (f x ++ flat_map f ys) rest) (swap_front (f y) (f x) (flat_map f ys))
      of false rest = IsPermutation-refl (f x ++ (f y ++ flat_map f ys))

-- ---- operations

abbrev asking : List ℕ → Operation → List Asker
asking owner o = if_asks owner o.request (asker_for o)

begun : (owner : List ℕ) (o : Operation) (os : List Operation) (before after rest : List Asker) → IsPermutation after (asking owner o ++ before) → IsPermutation before (asking_of owner os ++ rest) →
    IsPermutation after (asking_of owner (insert_by by_op o os) ++ rest)
begun owner o os before after rest put h =
    IsPermutation-trans after (asking owner o ++ (asking_of owner os ++ rest)) (asking_of owner (insert_by by_op o os) ++ rest)
    (IsPermutation-trans after (asking owner o ++ before) (asking owner o ++ (asking_of owner os ++ rest)) put (IsPermutation-append_right (asking owner o) before (asking_of owner os ++ rest) h))
    (subst (λ (l : List Asker). IsPermutation l (asking_of owner (insert_by by_op o os) ++ rest)) (append_assoc (asking owner o) (asking_of owner os) rest)
    (IsPermutation-append_left rest (asking owner o ++ asking_of owner os) (asking_of owner (insert_by by_op o os))
    (IsPermutation-sym _ _ (put-in (λ (x : Operation). x.op) (asking owner) by_op o os))))

-- A start is filed.
pub start-filed : (owner : List ℕ) (session op : ℕ) (r : Request) (os : List Operation) (before after rest : List Asker) → is_start r ≡ true →
    IsPermutation after (if_asks owner r (record { session = session; op = op }) ++ before) → IsPermutation before (asking_of owner os ++ rest) →
    IsPermutation after (asking_of owner (after_request session op r os) ++ rest)
start-filed owner session op (request.Query kind name) os before after rest starts put h = begun owner _ os before after rest put h
start-filed owner session op (request.Browse regtype) os before after rest starts put h = begun owner _ os before after rest put h
start-filed owner session op (request.Resolve label regtype) os before after rest starts put h = begun owner _ os before after rest put h
start-filed owner session op (request.Address families name) os before after rest starts put h = begun owner _ os before after rest put h
start-filed owner session op (request.Register label regtype port norename txt) os before after rest starts put h = begun owner _ os before after rest put h
start-filed owner session op (request.Update txt) os before after rest starts put h = absurd (cc)
start-filed owner session op request.Stop os before after rest starts put h = absurd (cc)

updated-asks : (owner : List ℕ) (op : ℕ) (txt : List ℕ) (os : List Operation) → asking_of owner (map (updated op txt) os) ≡ asking_of owner os
updated-asks owner op txt [] = refl
updated-asks owner op txt (o ∷ os) =
    λ i. cond (list_any (λ (key : Key). bytes_eq owner (owner_of key.name)) (updated_asks op txt o i)) (asker_for o ∷ []) [] ++ updated-asks owner op txt os i

-- What is neither a start nor a stop changes nothing that is asked.
pub update-asks : (owner : List ℕ) (session op : ℕ) (r : Request) (os : List Operation) → is_start r ≡ false → is_stop r ≡ false → asking_of owner (after_request session op r os) ≡ asking_of owner os
update-asks owner session op (request.Query kind name) os starts stops = absurd (cc)
update-asks owner session op (request.Browse regtype) os starts stops = absurd (cc)
update-asks owner session op (request.Resolve label regtype) os starts stops = absurd (cc)
update-asks owner session op (request.Address families name) os starts stops = absurd (cc)
update-asks owner session op (request.Register label regtype port norename txt) os starts stops = absurd (cc)
update-asks owner session op (request.Update txt) os starts stops = updated-asks owner op txt os
update-asks owner session op request.Stop os starts stops = absurd (cc)

-- A stop leaves the operations of other numbers.
pub stop-leaves : (session op : ℕ) (r : Request) (os : List Operation) → is_stop r ≡ true → after_request session op r os ≡ filter (λ (o : Operation). not (has_op op o)) os
stop-leaves session op (request.Query kind name) os stops = absurd (cc)
stop-leaves session op (request.Browse regtype) os stops = absurd (cc)
stop-leaves session op (request.Resolve label regtype) os stops = absurd (cc)
stop-leaves session op (request.Address families name) os stops = absurd (cc)
stop-leaves session op (request.Register label regtype port norename txt) os stops = absurd (cc)
stop-leaves session op (request.Update txt) os stops = absurd (cc)
stop-leaves session op request.Stop os stops = refl

-- One that is stopped stands before the others.
pub stopped-first : (owner : List ℕ) (op : ℕ) (os : List Operation) (o : Operation) (before rest : List Asker) → AreRising os → find (has_op op) os ≡ Some o →
    IsPermutation before (asking_of owner os ++ rest) → IsPermutation before (if_asks owner o.request (asker_for o) ++ (asking_of owner (filter (λ (x : Operation). not (has_op op x)) os) ++ rest))
stopped-first owner op os o before rest rising found h =
    before_rest before (asking_of owner os) (asking owner o) (asking_of owner (filter (λ (x : Operation). not (has_op op x)) os)) rest
    (split-off (λ (x : Operation). x.op) (asking owner) op os o (again os rising) found) h
  where
    again : (xs : List Operation) → AreRising xs → RiseBy (λ (x : Operation). x.op) (asking owner) xs
    again [] k = tt
    again (x ∷ xs) k = (k.0, again xs k.1)

pub none-stopped : (owner : List ℕ) (op : ℕ) (os : List Operation) → find (has_op op) os ≡ None → asking_of owner (filter (λ (x : Operation). not (has_op op x)) os) ≡ asking_of owner os
none-stopped owner op os none = ap (asking_of owner) (all-others (λ (x : Operation). x.op) (asking owner) op os none)
