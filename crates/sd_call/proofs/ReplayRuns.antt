-- Replaying the removes and the adds of many operations.
use Rattle.std.proofs.Common.{◌≡◌, ℕ, Bool, true, false, cond, List, [], ◌∷◌, ◌++◌, map, Option, Some, None, refl, ap, ◌∙◌, sym}
use Rattle.std.proofs.lemmas.Bool.{or_parts}
use Rattle.std.specs.List.{list_any, flat_map}
use Rattle.std.specs.Option.{option_and_then, option_or}
use Rattle.std.specs.Ordering.{nat_cmp, eq_by_cmp}
use Rattle.std.specs.Cmp.{nat_cmp_total, Equal-is, eq_by_cmp_equiv}
use Rattle.std.specs.FinMap as fin
use Rattle.std.specs.FinSet as set
use Rattle.lists.specs.Lists.{without}
use Rattle.sd_call.specs.declared.answer.Answer.{Answer}
use Rattle.sd_call.specs.declared.item.Item.{Item}
use Rattle.sd_call.specs.declared.item.Item.TheVariants.{Add, Remove}
use Rattle.sd_call.specs.Answers.{answer_bytes, answer_eq}
use Rattle.sd_call.specs.Replay.{AnswerSet, AnswerSets, replay_item, replay_from, set_at, put_answer, take_answer}
use Rattle.sd_call.proofs.AnswerLists.{AreDifferent}
use Rattle.sd_call.proofs.ReplayLaws.{set_of, minus, plus, CanTake, CanPut, can_take_old, can_put_new, plus-minus}

-- whether two numbers are one
abbrev pub is_at : ℕ → ℕ → Bool
is_at left right = eq_by_cmp nat_cmp left right

pub is_at_symm : (left right : ℕ) → is_at left right ≡ is_at right left
is_at_symm left right = (eq_by_cmp_equiv nat_cmp_total).symm left right

is_at_refl : (n : ℕ) → is_at n n ≡ true
is_at_refl n = (eq_by_cmp_equiv nat_cmp_total).refl n

pub get-insert : (m : AnswerSets) (op : ℕ) (s : AnswerSet) (q : ℕ) → fin.get (fin.insert m op s) q ≡ cond (is_at q op) (Some s) (fin.get m q)
get-insert m op s q = fin.get-insert nat_cmp_total m op s q

get-insert_itself : (m : AnswerSets) (op : ℕ) (s : AnswerSet) → fin.get (fin.insert m op s) op ≡ Some s
get-insert_itself m op s = get-insert m op s op ∙ ap (λ b. cond b (Some s) (fin.get m op)) (is_at_refl op)

pub same_sets : (m n : AnswerSets) → ((q : ℕ) → fin.get m q ≡ fin.get n q) → m ≡ n
same_sets m n h = fin.same_map nat_cmp_total fin.nat_cmp-IsAntisymmetric m n h

get_at : (m : AnswerSets) (op q : ℕ) → is_at q op ≡ true → fin.get m q ≡ fin.get m op
get_at m op q e = sym (fin.get_tied nat_cmp_total m q op ((Equal-is (nat_cmp q op)).0 e))

-- what is there already
insert_same : (m : AnswerSets) (op : ℕ) (s : AnswerSet) → fin.get m op ≡ Some s → fin.insert m op s ≡ m
insert_same m op s there = same_sets (fin.insert m op s) m (λ q. get-insert m op s q ∙ chosen q (is_at q op) refl)
  where
    chosen : (q : ℕ) (b : Bool) → is_at q op ≡ b → cond b (Some s) (fin.get m q) ≡ fin.get m q
    chosen q true e = sym (get_at m op q e ∙ there)
    chosen q false e = refl

-- the second of two at one place counts
insert_twice : (m : AnswerSets) (op : ℕ) (s t : AnswerSet) → fin.insert (fin.insert m op s) op t ≡ fin.insert m op t
insert_twice m op s t = same_sets (fin.insert (fin.insert m op s) op t) (fin.insert m op t) (λ q.
    get-insert (fin.insert m op s) op t q ∙ ap (λ g. cond (is_at q op) (Some t) g) (get-insert m op s q) ∙ chosen (is_at q op) (fin.get m q) ∙ sym (get-insert m op t q))
  where
    chosen : (b : Bool) (g : Option AnswerSet) → cond b (Some t) (cond b (Some s) g) ≡ cond b (Some t) g
    chosen true g = refl
    chosen false g = refl

pub replay_from-append : (held : Option AnswerSets) (xs ys : List Item) → replay_from held (xs ++ ys) ≡ replay_from (replay_from held xs) ys
replay_from-append held [] ys = refl
replay_from-append held (x ∷ xs) ys = replay_from-append (option_and_then (replay_item x) held) xs ys

-- the removes and the adds of one operation
takes : (xs : List Answer) (m : AnswerSets) (op : ℕ) (s : AnswerSet) → fin.get m op ≡ Some s → CanTake s xs →
    replay_from (Some m) (map (λ a. Remove op a) xs) ≡ Some (fin.insert m op (minus s xs))
takes [] m op s there can = ap Some (sym (insert_same m op s there))
takes (x ∷ xs) m op s there can =
    ap (λ h. replay_from h (map (λ a. Remove op a) xs))
    (ap (λ g. set_at op m (option_and_then (take_answer (answer_bytes x)) g)) there ∙ ap (λ b. set_at op m (cond b (Some (set.remove s (answer_bytes x))) None)) can.0)
    ∙ takes xs (fin.insert m op (set.remove s (answer_bytes x))) op (set.remove s (answer_bytes x)) (get-insert_itself m op (set.remove s (answer_bytes x))) can.1
    ∙ ap Some (insert_twice m op (set.remove s (answer_bytes x)) (minus (set.remove s (answer_bytes x)) xs))

puts : (xs : List Answer) (m : AnswerSets) (op : ℕ) (s : AnswerSet) → fin.get m op ≡ Some s → CanPut s xs →
    replay_from (Some m) (map (λ a. Add op a) xs) ≡ Some (fin.insert m op (plus s xs))
puts [] m op s there can = ap Some (sym (insert_same m op s there))
puts (x ∷ xs) m op s there can =
    ap (λ h. replay_from h (map (λ a. Add op a) xs))
    (ap (λ g. set_at op m (option_and_then (put_answer (answer_bytes x)) g)) there ∙ ap (λ b. set_at op m (cond b None (Some (set.insert s (answer_bytes x))))) can.0)
    ∙ puts xs (fin.insert m op (set.insert s (answer_bytes x))) op (set.insert s (answer_bytes x)) (get-insert_itself m op (set.insert s (answer_bytes x))) can.1
    ∙ ap Some (insert_twice m op (set.insert s (answer_bytes x)) (plus (set.insert s (answer_bytes x)) xs))

-- the operations of a session: things with numbers
module _ {O : Type 0} (number : O → ℕ) where
  -- no number stands twice
  abbrev pub AreApart : List O → Type 0
  AreApart [] = Unit {0}
  AreApart (o ∷ os) = (list_any (λ p. is_at (number p) (number o)) os ≡ false) × AreApart os

  -- what a function gives at the operation of a number
  abbrev pub found : (O → AnswerSet) → List O → ℕ → Option AnswerSet
  found f [] q = None
  found f (o ∷ os) q = cond (is_at q (number o)) (Some (f o)) (found f os q)

  -- the sets of a function, put into others in turn
  abbrev pub over : (O → AnswerSet) → AnswerSets → List O → AnswerSets
  over f m [] = m
  over f m (o ∷ os) = over f (fin.insert m (number o) (f o)) os

  -- the sets of a function
  abbrev pub sets_of : (O → AnswerSet) → List O → AnswerSets
  sets_of f os = fin.from_entries (map (λ o. (number o, f o)) os)

  -- the sets that a map has at the operations
  abbrev pub Has : (O → AnswerSet) → AnswerSets → List O → Type 0
  Has f m [] = Unit {0}
  Has f m (o ∷ os) = (fin.get m (number o) ≡ Some (f o)) × Has f m os

  abbrev pub Each : (O → Type 0) → List O → Type 0
  Each P [] = Unit {0}
  Each P (o ∷ os) = P o × Each P os

  -- another operation's set is none of theirs
  Has-insert : (f : O → AnswerSet) (m : AnswerSets) (n : ℕ) (s : AnswerSet) (os : List O) → list_any (λ p. is_at (number p) n) os ≡ false → Has f m os → Has f (fin.insert m n s) os
  Has-insert f m n s [] apart has = tt
  Has-insert f m n s (o ∷ os) apart has = (
    get-insert m n s (number o) ∙ ap (λ b. cond b (Some s) (fin.get m (number o))) (or_parts (is_at (number o) n) (list_any (λ p. is_at (number p) n) os) apart).0 ∙ has.0,
    Has-insert f m n s os (or_parts (is_at (number o) n) (list_any (λ p. is_at (number p) n) os) apart).1 has.1,
  )

  all_taken : (f : O → AnswerSet) (old : O → List Answer) (os : List O) (m : AnswerSets) → AreApart os → Has f m os → Each (λ o. CanTake (f o) (old o)) os →
      replay_from (Some m) (flat_map (λ o. map (λ a. Remove (number o) a) (old o)) os) ≡ Some (over (λ o. minus (f o) (old o)) m os)
  all_taken f old [] m apart has can = refl
  all_taken f old (o ∷ os) m apart has can =
      replay_from-append (Some m) (map (λ a. Remove (number o) a) (old o)) (flat_map (λ p. map (λ a. Remove (number p) a) (old p)) os)
      ∙ ap (λ h. replay_from h (flat_map (λ p. map (λ a. Remove (number p) a) (old p)) os)) (takes (old o) m (number o) (f o) has.0 can.0)
      ∙ all_taken f old os (fin.insert m (number o) (minus (f o) (old o))) apart.1 (Has-insert f m (number o) (minus (f o) (old o)) os apart.0 has.1) can.1

  all_put : (f : O → AnswerSet) (new : O → List Answer) (os : List O) (m : AnswerSets) → AreApart os → Has f m os → Each (λ o. CanPut (f o) (new o)) os →
      replay_from (Some m) (flat_map (λ o. map (λ a. Add (number o) a) (new o)) os) ≡ Some (over (λ o. plus (f o) (new o)) m os)
  all_put f new [] m apart has can = refl
  all_put f new (o ∷ os) m apart has can =
      replay_from-append (Some m) (map (λ a. Add (number o) a) (new o)) (flat_map (λ p. map (λ a. Add (number p) a) (new p)) os)
      ∙ ap (λ h. replay_from h (flat_map (λ p. map (λ a. Add (number p) a) (new p)) os)) (puts (new o) m (number o) (f o) has.0 can.0)
      ∙ all_put f new os (fin.insert m (number o) (plus (f o) (new o))) apart.1 (Has-insert f m (number o) (plus (f o) (new o)) os apart.0 has.1) can.1

  -- an operation that isn't among them isn't found
  found_none : (f : O → AnswerSet) (os : List O) (n : ℕ) → list_any (λ p. is_at (number p) n) os ≡ false → found f os n ≡ None
  found_none f [] n apart = refl
  found_none f (o ∷ os) n apart =
      ap (λ b. cond b (Some (f o)) (found f os n)) (is_at_symm n (number o) ∙ (or_parts (is_at (number o) n) (list_any (λ p. is_at (number p) n) os) apart).0)
      ∙ found_none f os n (or_parts (is_at (number o) n) (list_any (λ p. is_at (number p) n) os) apart).1

  found_at : (f : O → AnswerSet) (os : List O) (q n : ℕ) → is_at q n ≡ true → found f os q ≡ found f os n
  found_at f os q n e = ap (λ k. found f os k) (fin.nat_cmp-IsAntisymmetric q n ((Equal-is (nat_cmp q n)).0 e))

  get-over : (f : O → AnswerSet) (os : List O) (m : AnswerSets) (q : ℕ) → AreApart os → fin.get (over f m os) q ≡ option_or (found f os q) (fin.get m q)
  get-over f [] m q apart = refl
  get-over f (o ∷ os) m q apart =
      get-over f os (fin.insert m (number o) (f o)) q apart.1 ∙ ap (λ g. option_or (found f os q) g) (get-insert m (number o) (f o) q) ∙ chosen (is_at q (number o)) refl
    where
      chosen : (b : Bool) → is_at q (number o) ≡ b → option_or (found f os q) (cond b (Some (f o)) (fin.get m q)) ≡ option_or (cond b (Some (f o)) (found f os q)) (fin.get m q)
      chosen true e = ap (λ g. option_or g (Some (f o))) (found_at f os q (number o) e ∙ found_none f os (number o) apart.0)
      chosen false e = refl

  pub get-sets_of : (f : O → AnswerSet) (os : List O) (q : ℕ) → fin.get (sets_of f os) q ≡ found f os q
  get-sets_of f [] q = fin.get-empty nat_cmp q
  get-sets_of f (o ∷ os) q = get-insert (sets_of f os) (number o) (f o) q ∙ ap (λ g. cond (is_at q (number o)) (Some (f o)) g) (get-sets_of f os q)

  Has-ext : (f : O → AnswerSet) (m n : AnswerSets) (os : List O) → ((q : ℕ) → fin.get m q ≡ fin.get n q) → Has f m os → Has f n os
  Has-ext f m n [] same has = tt
  Has-ext f m n (o ∷ os) same has = (sym (same (number o)) ∙ has.0, Has-ext f m n os same has.1)

  Has-over : (f : O → AnswerSet) (os : List O) (m : AnswerSets) → AreApart os → Has f (over f m os) os
  Has-over f [] m apart = tt
  Has-over f (o ∷ os) m apart = (
    get-over f os (fin.insert m (number o) (f o)) (number o) apart.1
        ∙ ap (λ g. option_or g (fin.get (fin.insert m (number o) (f o)) (number o))) (found_none f os (number o) apart.0)
        ∙ get-insert_itself m (number o) (f o),
    Has-over f os (fin.insert m (number o) (f o)) apart.1,
  )

  Has-sets_of : (f : O → AnswerSet) (os : List O) → AreApart os → Has f (sets_of f os) os
  Has-sets_of f [] apart = tt
  Has-sets_of f (o ∷ os) apart =
      (get-insert_itself (sets_of f os) (number o) (f o), Has-insert f (sets_of f os) (number o) (f o) os apart.0 (Has-sets_of f os apart.1))

  -- what is found by one function is found by each
  found_or : (f g : O → AnswerSet) (os : List O) (q : ℕ) → option_or (found f os q) (found g os q) ≡ found f os q
  found_or f g [] q = refl
  found_or f g (o ∷ os) q = chosen (is_at q (number o)) (found_or f g os q)
    where
      chosen : (b : Bool) → option_or (found f os q) (found g os q) ≡ found f os q →
          option_or (cond b (Some (f o)) (found f os q)) (cond b (Some (g o)) (found g os q)) ≡ cond b (Some (f o)) (found f os q)
      chosen true rest = refl
      chosen false rest = rest

  over-sets_of : (f g : O → AnswerSet) (os : List O) → AreApart os → over f (sets_of g os) os ≡ sets_of f os
  over-sets_of f g os apart = same_sets (over f (sets_of g os) os) (sets_of f os) (λ q.
      get-over f os (sets_of g os) q apart ∙ ap (λ x. option_or (found f os q) x) (get-sets_of g os q) ∙ found_or f g os q ∙ sym (get-sets_of f os q))

  each_can_take : (old new : O → List Answer) (os : List O) → Each (λ o. AreDifferent (old o)) os → Each (λ o. CanTake (set_of (old o)) (without answer_eq (old o) (new o))) os
  each_can_take old new [] d = tt
  each_can_take old new (o ∷ os) d = (can_take_old (old o) (new o) d.0, each_can_take old new os d.1)

  each_can_put : (old new : O → List Answer) (os : List O) → Each (λ o. AreDifferent (new o)) os →
      Each (λ o. CanPut (minus (set_of (old o)) (without answer_eq (old o) (new o))) (without answer_eq (new o) (old o))) os
  each_can_put old new [] d = tt
  each_can_put old new (o ∷ os) d = (can_put_new (old o) (new o) d.0, each_can_put old new os d.1)

  sets_of-ext : (f g : O → AnswerSet) → ((o : O) → f o ≡ g o) → (os : List O) → sets_of f os ≡ sets_of g os
  sets_of-ext f g same [] = refl
  sets_of-ext f g same (o ∷ os) = ap (λ s. fin.insert (sets_of f os) (number o) s) (same o) ∙ ap (λ m. fin.insert m (number o) (g o)) (sets_of-ext f g same os)

  -- From the old answers of operations, the removes of what is no more and the adds of what is new lead to the new answers.
  pub replayed_changes : (old new : O → List Answer) (os : List O) → AreApart os → Each (λ o. AreDifferent (old o)) os → Each (λ o. AreDifferent (new o)) os →
      replay_from (Some (sets_of (λ o. set_of (old o)) os))
      (flat_map (λ o. map (λ a. Remove (number o) a) (without answer_eq (old o) (new o))) os ++ flat_map (λ o. map (λ a. Add (number o) a) (without answer_eq (new o) (old o))) os)
      ≡ Some (sets_of (λ o. set_of (new o)) os)
  replayed_changes old new os apart dold dnew =
      let gone : O → List Answer = λ o. without answer_eq (old o) (new o) in
      let come : O → List Answer = λ o. without answer_eq (new o) (old o) in
      let before : O → AnswerSet = λ o. set_of (old o) in
      let between : O → AnswerSet = λ o. minus (set_of (old o)) (without answer_eq (old o) (new o)) in
      replay_from-append (Some (sets_of before os)) (flat_map (λ o. map (λ a. Remove (number o) a) (gone o)) os) (flat_map (λ o. map (λ a. Add (number o) a) (come o)) os)
      ∙ ap (λ h. replay_from h (flat_map (λ o. map (λ a. Add (number o) a) (come o)) os)) (all_taken before gone os (sets_of before os) apart (Has-sets_of before os apart) (each_can_take old new os dold))
      ∙ all_put between come os (over between (sets_of before os) os) apart (Has-over between os (sets_of before os) apart) (each_can_put old new os dnew)
      ∙ ap (λ m. Some (over (λ o. plus (between o) (come o)) m os)) (over-sets_of between before os apart)
      ∙ ap Some (over-sets_of (λ o. plus (between o) (come o)) between os apart)
      ∙ ap Some (sets_of-ext (λ o. plus (between o) (come o)) (λ o. set_of (new o)) (λ o. plus-minus (old o) (new o)) os)
